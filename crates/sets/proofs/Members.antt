-- The members of a set as a list: they rise, they are exactly the legal strands, and a member's position is the number of members below it.
-- Assumes nothing.
use mathlib.Core.Path.{◌≡◌, refl, sym, ap, ap₂, ◌∙◌, subst}
use mathlib.Core.Bool.{Bool, true, false}
use mathlib.Core.List.{List, [], ◌∷◌, ◌++◌, map, append-nil, append_assoc}
use Prim.Native.Nat.{ℕ, zero, suc, ◌+◌, ◌-◌, ◌≤◌, ◌<◌}
use native.Mathlib.Nat.{add-zero, add-suc}
use native.Mathlib.Numerals.{add-one}
use native.Mathlib.Decide.{dec_lt, le_ind}
use native.Mathlib.Omega.{arith}
use lib.ListN.{length, get_or, drop, length-append, get_or-append, get_or-eq_default}
use lib.Seq.{get_or-append_seam, get_or_at, drop_at}
use Rattle.sets.specs.Set.{alone, members}

map_append : (f : ℕ → ℕ) (xs ys : List ℕ) → map f (xs ++ ys) ≡ map f xs ++ map f ys
map_append f [] ys = refl
map_append f (x ∷ xs) ys = ap (λ (r : List ℕ). f x ∷ r) (map_append f xs ys)

map_alone : (f : ℕ → ℕ) (b : Bool) (t : ℕ) → map f (alone b t) ≡ alone b (f t)
map_alone f true t = refl
map_alone f false t = refl

at_most_one : (b : Bool) (t : ℕ) → length (alone b t) ≤ 1
at_most_one true t = omega arith
at_most_one false t = omega arith

-- sets of the same strands have the same members
pub members_same : (p q : ℕ → Bool) (n : ℕ) → ((t : ℕ) → t < n → p t ≡ q t) → members p n ≡ members q n
unfolding members
members_same p q zero e = refl
members_same p q (suc n) e = ap₂ (λ (l : List ℕ) (b : Bool). l ++ alone b n) (members_same p q n (λ t h. e t (omega arith))) (e n (omega arith))

-- What is known of the strand t that stands at position p among the members below n.
pub record Member (legal : ℕ → Bool) (n p t : ℕ) : Type 0 where
  pub is_legal : legal t ≡ true
  pub below : t < n
  pub position : length (members legal t) ≡ p

module _ (legal : ℕ → Bool) where
  -- before the first strand there is no member
  pub members_none : members legal 0 ≡ []
  unfolding members
  members_none = refl

  -- one strand more: it joins the members where it is legal, and leaves them as they were where it is not
  pub members_more : (t : ℕ) → legal t ≡ true → members legal (t + 1) ≡ members legal t ++ (t ∷ [])
  unfolding members
  members_more t e = rw add-one (ap (λ (b : Bool). members legal t ++ alone b t) e)

  pub members_kept : (t : ℕ) → legal t ≡ false → members legal (t + 1) ≡ members legal t
  unfolding members
  members_kept t e = rw add-one (ap (λ (b : Bool). members legal t ++ alone b t) e ∙ append-nil (members legal t))

  -- strands that are not legal add no member
  pub members_skip : (t r : ℕ) → t ≤ r → ((s : ℕ) → t ≤ s → s < r → legal s ≡ false) → members legal r ≡ members legal t
  members_skip t r h =
      le_ind (λ (m : ℕ). ((s : ℕ) → t ≤ s → s < m → legal s ≡ false) → members legal m ≡ members legal t) (λ _. refl)
      (λ m l old e. ap (members legal) (sym (add-one m)) ∙ members_kept m (e m l (omega arith)) ∙ old (λ s a b. e s a (omega arith))) r h

  -- the members below a + m: those below a, and those of the m strands behind, counted from a
  pub members_add : (a m : ℕ) → members legal (a + m) ≡ members legal a ++ map (λ (s : ℕ). a + s) (members (λ (s : ℕ). legal (a + s)) m)
  unfolding members
  members_add a zero = ap (members legal) (add-zero a) ∙ sym (append-nil (members legal a))
  members_add a (suc m) =
      ap (members legal) (add-suc a m)
      ∙ ap (λ (l : List ℕ). l ++ alone (legal (a + m)) (a + m)) (members_add a m)
      ∙ append_assoc (members legal a) (map (λ (s : ℕ). a + s) (members (λ (s : ℕ). legal (a + s)) m)) (alone (legal (a + m)) (a + m))
      ∙ ap (λ (l : List ℕ). members legal a ++ l)
      (ap (λ (l : List ℕ). map (λ (s : ℕ). a + s) (members (λ (s : ℕ). legal (a + s)) m) ++ l) (sym (map_alone (λ (s : ℕ). a + s) (legal (a + m)) m))
      ∙ sym (map_append (λ (s : ℕ). a + s) (members (λ (s : ℕ). legal (a + s)) m) (alone (legal (a + m)) m)))

  -- the members below t are the first of those below n
  pub members_first : (t n : ℕ) → t ≤ n → members legal n ≡ members legal t ++ drop (length (members legal t)) (members legal n)
  members_first t n h =
      let rest = map (λ (s : ℕ). t + s) (members (λ (s : ℕ). legal (t + s)) (n - t)) in
      let e : members legal n ≡ members legal t ++ rest = ap (members legal) (omega arith) ∙ members_add t (n - t) in
      e ∙ ap (λ (l : List ℕ). members legal t ++ l) (sym (ap (drop (length (members legal t))) e ∙ drop_at (members legal t) rest (length (members legal t)) refl))

  -- n strands have at most n members
  pub length_le : (n : ℕ) → length (members legal n) ≤ n
  unfolding members
  length_le zero = omega arith
  length_le (suc n) = omega (arith, length-append (members legal n) (alone (legal n) n), length_le n, at_most_one (legal n) n)

  -- fewer strands have no more members
  pub length_mono : (t n : ℕ) → t ≤ n → length (members legal t) ≤ length (members legal n)
  length_mono t n h =
      let rest = drop (length (members legal t)) (members legal n) in
      let e : length (members legal n) ≡ length (members legal t) + length rest = ap length (members_first t n h) ∙ length-append (members legal t) rest in
      omega arith

  -- a legal strand adds one to the members below it
  pub length_more : (t : ℕ) → legal t ≡ true → length (members legal (t + 1)) ≡ length (members legal t) + 1
  length_more t e = ap length (members_more t e) ∙ length-append (members legal t) (t ∷ [])

  -- so many members stand before a legal strand: fewer than below any larger number
  pub length_less : (t n : ℕ) → t < n → legal t ≡ true → length (members legal t) < length (members legal n)
  length_less t n h e = omega (arith, length_more t e, length_mono (t + 1) n (omega arith))

  -- the member at the position of a legal strand is that strand
  pub member_at : (n t d : ℕ) → t < n → legal t ≡ true → get_or (members legal n) (length (members legal t)) d ≡ t
  member_at n t d h e =
      let rest = drop (length (members legal (t + 1))) (members legal n) in
      let split : members legal n ≡ members legal t ++ t ∷ rest =
      members_first (t + 1) n (omega arith)
      ∙ ap (λ (l : List ℕ). l ++ rest) (members_more t e)
      ∙ append_assoc (members legal t) (t ∷ []) rest in
      ap (λ (l : List ℕ). get_or l (length (members legal t)) d) split ∙ get_or-append_seam (members legal t) t rest d

  -- each position holds a legal strand below n, whose position it is
  pub member : (n p d : ℕ) → p < length (members legal n) → Member legal n p (get_or (members legal n) p d)
  unfolding members
  member zero p d h = absurd (omega arith)
  member (suc n) p d h =
      go (legal n) refl (subst (λ (k : ℕ). p < k) (length-append (members legal n) (alone (legal n) n)) h) (member n p d) (dec_lt p (length (members legal n)))
    where
      go : (b : Bool) → legal n ≡ b → p < length (members legal n) + length (alone b n)
          → (p < length (members legal n) → Member legal n p (get_or (members legal n) p d)) → Dec (p < length (members legal n))
          → Member legal (suc n) p (get_or (members legal n ++ alone b n) p d)
      go b e q old (yes l) =
          subst (Member legal (suc n) p) (sym (get_or-append (members legal n) (alone b n) d p l))
          (record { is_legal = (old l).is_legal; below = omega (arith, (old l).below); position = (old l).position })
      go false e q old (no g) = absurd (omega arith)
      go true e q old (no g) =
          let same : length (members legal n) ≡ p = omega arith in
          subst (Member legal (suc n) p) (sym (get_or_at (members legal n) n [] d p same)) (record { is_legal = e; below = omega arith; position = same })

  -- the members rise
  pub rising : (n p q d : ℕ) → p < q → q < length (members legal n) → get_or (members legal n) p d < get_or (members legal n) q d
  rising n p q d l h =
      let first = member n p d (omega arith) in
      let second = member n q d h in
      go first second (dec_lt (get_or (members legal n) p d) (get_or (members legal n) q d))
    where
      go : Member legal n p (get_or (members legal n) p d) → Member legal n q (get_or (members legal n) q d)
          → Dec (get_or (members legal n) p d < get_or (members legal n) q d) → get_or (members legal n) p d < get_or (members legal n) q d
      go a b (yes r) = r
      go a b (no g) = absurd (omega (arith, length_mono (get_or (members legal n) q d) (get_or (members legal n) p d) (omega arith), a.position, b.position))

  -- two positions of one member are the same
  pub once : (n p q d : ℕ) → p < length (members legal n) → q < length (members legal n) → get_or (members legal n) p d ≡ get_or (members legal n) q d → p ≡ q
  once n p q d hp hq e = sym (member n p d hp).position ∙ ap (λ (t : ℕ). length (members legal t)) e ∙ (member n q d hq).position

  -- past the last member comes what is asked for in its place
  pub past : (n p d : ℕ) → length (members legal n) ≤ p → get_or (members legal n) p d ≡ d
  past n p d h = get_or-eq_default (members legal n) d h

  -- the list holds each legal strand below n ..
  pub listed : (n t d : ℕ) → t < n → legal t ≡ true → (p : ℕ) × (p < length (members legal n)) × (get_or (members legal n) p d ≡ t)
  listed n t d h e = (length (members legal t), length_less t n h e, member_at n t d h e)

  -- .. and nothing else
  pub listed_only : (n p t d : ℕ) → p < length (members legal n) → get_or (members legal n) p d ≡ t → Member legal n p t
  listed_only n p t d h e = subst (Member legal n p) e (member n p d h)
