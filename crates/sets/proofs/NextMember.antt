-- The next member at or after a strand: `next_of` is legal, skips no legal strand, and is the only such number.
-- Assumes nothing.
use mathlib.Core.Path.{◌≡◌, refl, sym, ap, ◌∙◌, subst}
use mathlib.Core.Bool.{Bool, true, false, true≢false}
use mathlib.Core.List.{List}
use Prim.Native.Nat.{ℕ, ◌≤◌, ◌<◌}
use native.Mathlib.Decide.{dec_lt, dec_le}
use native.Mathlib.Omega.{arith}
use lib.ListN.{length, get_or}
use Rattle.sets.specs.Set.{members, next_of}
use Rattle.sets.proofs.Members.{Member, members_skip, length_mono, length_less, member, past}

-- r is the first legal strand at or after t, or n where there is none below n.
pub record Next (legal : ℕ → Bool) (t n r : ℕ) : Type 0 where
  pub within : r ≤ n
  pub skips : (s : ℕ) → t ≤ s → s < r → legal s ≡ false
  pub lands : r < n → (t ≤ r) × (legal r ≡ true)

-- an answer that cannot be yes is no
pub is_false : (b : Bool) → (b ≡ true → ⊥) → b ≡ false
is_false true h = absurd (h refl)
is_false false h = refl

module _ (legal : ℕ → Bool) where
  -- there is one such number
  pub next_once : (t n r s : ℕ) → Next legal t n r → Next legal t n s → r ≡ s
  next_once t n r s a b = go (dec_lt r s) (dec_lt s r)
    where
      clash : (x y : ℕ) → x < y → Next legal t n x → Next legal t n y → ⊥
      clash x y l p q =
          let found = p.lands (omega (arith, q.within)) in
          true≢false (sym found.1 ∙ q.skips x found.0 l)

      go : Dec (r < s) → Dec (s < r) → r ≡ s
      go (yes l) e = absurd (clash r s l a b)
      go (no g) (yes l) = absurd (clash s r l b a)
      go (no g) (no k) = omega arith

  -- the member whose position is the count of the members below t
  found : (t n r : ℕ) → Member legal n (length (members legal t)) r → Next legal t n r
  found t n r m = record { within = omega (arith, m.below); skips = skips; lands = λ l. (from, m.is_legal) }
    where
      skips : (s : ℕ) → t ≤ s → s < r → legal s ≡ false
      skips s h l = is_false (legal s) (λ e. omega (arith, length_less legal s r l e, length_mono legal t s h, m.position))

      from : t ≤ r
      from = elim (dec_le t r) [ yes h ↦ h | no g ↦ absurd (omega (arith, length_less legal r t (omega arith) m.is_legal, m.position)) ]

  -- no member is left at or after t
  nothing : (t n : ℕ) → length (members legal n) ≤ length (members legal t) → Next legal t n n
  nothing t n h =
      record {
        within = omega arith;
        skips = λ s a l. is_false (legal s) (λ e. omega (arith, length_less legal s n l e, length_mono legal t s a));
        lands = λ l. absurd (omega arith);
      }

  -- `next_of` is it
  pub next : (t n : ℕ) → Next legal t n (next_of legal t n)
  unfolding next_of
  next t n = go (dec_lt (length (members legal t)) (length (members legal n)))
    where
      go : Dec (length (members legal t) < length (members legal n)) → Next legal t n (get_or (members legal n) (length (members legal t)) n)
      go (yes h) = found t n (get_or (members legal n) (length (members legal t)) n) (member legal n (length (members legal t)) n h)
      go (no g) = subst (Next legal t n) (sym (past legal n (length (members legal t)) n (omega arith))) (nothing t n (omega arith))

  -- so whatever is the first legal strand at or after t is what `next_of` says
  pub next_is : (t n r : ℕ) → Next legal t n r → r ≡ next_of legal t n
  next_is t n r a = next_once t n r (next_of legal t n) a (next t n)

  -- the next member does not stand before t
  pub next_from : (t n : ℕ) → t ≤ n → t ≤ next_of legal t n
  next_from t n h = elim (dec_le t (next_of legal t n)) [ yes l ↦ l | no g ↦ ((next t n).lands (omega arith)).0 ]

  -- between t and the next member there is none
  pub members_next : (t n : ℕ) → t ≤ n → members legal (next_of legal t n) ≡ members legal t
  members_next t n h = members_skip legal t (next_of legal t n) (next_from t n h) (next t n).skips

  -- strands that are not legal do not hold a walk up
  pub next_skip : (t u n : ℕ) → t ≤ u → ((s : ℕ) → t ≤ s → s < u → legal s ≡ false) → next_of legal t n ≡ next_of legal u n
  unfolding next_of
  next_skip t u n h e = ap (λ (l : List ℕ). get_or (members legal n) (length l) n) (sym (members_skip legal t u h e))

  -- beyond the limit there is none
  pub next_none : (t n : ℕ) → n ≤ t → n ≡ next_of legal t n
  next_none t n h = next_is t n n (nothing t n (length_mono legal n t h))
