-- The walk by rising number, `let mut t = next(set, 0); while t < n { ..; t = next(set, t + 1); }`: it visits exactly the members, and what a turn of such a loop knows,
-- over plain variables: `Counted` with `start`, `turn` and `finish`. A walk that takes strands away instead is in `Taking`.
-- Assumes nothing.
use mathlib.Core.Path.{◌≡◌, refl, sym, ap, ◌∙◌}
use mathlib.Core.Bool.{Bool, cond}
use mathlib.Core.List.{List, [], ◌∷◌, ◌++◌}
use Prim.Native.Nat.{ℕ, zero, suc, ◌+◌, ◌≤◌, ◌<◌}
use native.Mathlib.Numerals.{add-one}
use native.Mathlib.Decide.{dec_lt}
use native.Mathlib.Omega.{arith}
use lib.ListN.{length, get_or, take, drop, drop_of_length-le}
use lib.Seq.{take-suc, drop-cons, take_at}
use borrow.Author.Tests.{lt-ltb, le-ltb}
use Rattle.sets.specs.Set.{members, next_of}
use Rattle.sets.specs.Walk.{walk}
use Rattle.sets.proofs.Members.{Member, members_none, members_first, length_le, length_more, member, past}

-- A walk that counts its turns has made p of them: its strand t is the member at position p, or the limit n behind the last.
pub record Counted (legal : ℕ → Bool) (n p t : ℕ) : Type 0 where
  pub here : t ≡ get_or (members legal n) p n
  pub counted : p ≤ length (members legal n)

-- What is known in the turn at position p, whose strand is t: t is the member there, those visited so far are the members below t, and the turn adds t to them.
pub record Turn (legal : ℕ → Bool) (n p t : ℕ) : Type 0 where
  pub in_list : p < length (members legal n)
  pub below : p < n
  pub is_member : Member legal n p t
  pub visited : take p (members legal n) ≡ members legal t
  pub added : take (p + 1) (members legal n) ≡ members legal t ++ (t ∷ [])
  pub goes_on : (u : ℕ) → u ≡ next_of legal (t + 1) n → Counted legal n (p + 1) u

module _ (legal : ℕ → Bool) (n : ℕ) where
  -- behind the member at position p comes the one at p + 1
  pub following : (p t : ℕ) → Member legal n p t → next_of legal (t + 1) n ≡ get_or (members legal n) (p + 1) n
  unfolding next_of
  following p t m = ap (λ (k : ℕ). get_or (members legal n) k n) (length_more legal t m.is_legal ∙ ap (λ (k : ℕ). k + 1) m.position)

  -- a walk that counts begins at position 0
  pub start : (t : ℕ) → t ≡ next_of legal 0 n → Counted legal n 0 t
  unfolding next_of
  start t e = record { here = e ∙ ap (λ (l : List ℕ). get_or (members legal n) (length l) n) (members_none legal); counted = omega arith }

  -- it goes from position to position
  pub turn : (p t : ℕ) → Counted legal n p t → t < n → Turn legal n p t
  turn p t c l =
      let e = c.here in
      let in_list : p < length (members legal n) = elim (dec_lt p (length (members legal n))) [ yes h ↦ h | no g ↦ absurd (omega (arith, past legal n p n (omega arith))) ] in
      let m : Member legal n p t = rw e (member legal n p n in_list) in
      let visited : take p (members legal n) ≡ members legal t =
      ap (take p) (members_first legal t n (omega arith)) ∙ take_at (members legal t) (drop (length (members legal t)) (members legal n)) p m.position in
      record {
        in_list = in_list;
        below = omega (arith, length_le legal n);
        is_member = m;
        visited = visited;
        added =
            ap (λ (k : ℕ). take k (members legal n)) (add-one p)
            ∙ take-suc (members legal n) p n in_list
            ∙ ap (λ (l : List ℕ). l ++ (get_or (members legal n) p n ∷ [])) visited
            ∙ ap (λ (s : ℕ). members legal t ++ (s ∷ [])) (sym e);
        goes_on = λ u f. record { here = f ∙ following p t m; counted = omega arith };
      }

  -- it ends with as many turns as there are members
  pub finish : (p t : ℕ) → Counted legal n p t → n ≤ t → p ≡ length (members legal n)
  finish p t c l =
      elim (dec_lt p (length (members legal n))) [ yes b ↦ absurd (omega (arith, c.here, (member legal n p n b).below)) | no g ↦ omega (arith, c.counted) ]

  -- a walk from the member at position p visits the members from there on
  from : (d p : ℕ) → length (members legal n) ≤ p + d → walk (λ t. next_of legal t n) n d (get_or (members legal n) p n) ≡ drop p (members legal n)
  unfolding walk
  from zero p h = sym (drop_of_length-le (members legal n) {i = p} (omega arith))
  from (suc d) p h = go (get_or (members legal n) p n) refl (from d (p + 1) (omega arith)) (dec_lt p (length (members legal n)))
    where
      go : (t : ℕ) → t ≡ get_or (members legal n) p n → walk (λ t. next_of legal t n) n d (get_or (members legal n) (p + 1) n) ≡ drop (p + 1) (members legal n) → Dec (p < length (members legal n))
          → walk (λ t. next_of legal t n) n (suc d) t ≡ drop p (members legal n)
      go t e rest (yes l) =
          let m : Member legal n p t = rw e (member legal n p n l) in
          ap (λ (b : Bool). cond b (t ∷ walk (λ t. next_of legal t n) n d (next_of legal (t + 1) n)) []) (lt-ltb t n m.below)
          ∙ ap (λ (u : ℕ). t ∷ walk (λ t. next_of legal t n) n d u) (following p t m)
          ∙ ap (λ (l : List ℕ). t ∷ l) rest
          ∙ ap (λ (u : ℕ). u ∷ drop (p + 1) (members legal n)) e
          ∙ ap (λ (k : ℕ). get_or (members legal n) p n ∷ drop k (members legal n)) (add-one p)
          ∙ sym (drop-cons (members legal n) p n l)
      go t e rest (no g) =
          ap (λ (b : Bool). cond b (t ∷ walk (λ t. next_of legal t n) n d (next_of legal (t + 1) n)) []) (le-ltb t n (omega (arith, e, past legal n p n (omega arith))))
          ∙ sym (drop_of_length-le (members legal n) {i = p} (omega arith))

  -- the whole walk visits exactly the members, by rising number, and needs no more turns than there are members
  pub walk_all : (d : ℕ) → length (members legal n) ≤ d → walk (λ t. next_of legal t n) n d (next_of legal 0 n) ≡ members legal n
  walk_all d h = ap (walk (λ t. next_of legal t n) n d) (start (next_of legal 0 n) refl).here ∙ from d 0 (omega arith)
