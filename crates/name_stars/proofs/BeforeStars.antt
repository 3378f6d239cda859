-- How the search for the last byte that is no star goes on by one, from the end. Assumes nothing.
use Prim.Native.Nat.{ℕ, zero, suc, ◌-◌, ◌≤◌, ◌<◌}
use mathlib.Core.Path.{◌≡◌, refl}
use mathlib.Core.Bool.{Bool, true, false, cond}
use mathlib.Core.List.{List}
use native.Mathlib.Nat.{not-suc-le-zero}
use native.Mathlib.Numerals.{sub-one}
use native.Mathlib.Omega.{arith}
use lib.Dec.{eqb}
use lib.ListN.{length, get_or}
use borrow.Author.Tests.{eq-eqb, ne_eqb}
use Rattle.name_stars.specs.Stars.{before_stars, base_length}

pub no_star : (name : List ℕ) (n : ℕ) → 0 < n → (get_or name (n - 1) 0 ≡ 42 → ⊥) → before_stars name n ≡ n
unfolding before_stars
no_star name zero h other = absurd (not-suc-le-zero h)
no_star name (suc n) h other = rw (ne_eqb (get_or name n 0) 42 (rw (sub-one (suc n)) at other))

pub a_star : (name : List ℕ) (n : ℕ) → 0 < n → get_or name (n - 1) 0 ≡ 42 → before_stars name n ≡ before_stars name (n - 1)
unfolding before_stars
a_star name zero h star = absurd (not-suc-le-zero h)
a_star name (suc n) h star = rw (sub-one (suc n), eq-eqb (get_or name n 0) 42 (rw (sub-one (suc n)) at star))

pub none_left : (name : List ℕ) (n : ℕ) → n ≤ 0 → before_stars name n ≡ n
unfolding before_stars
none_left name zero h = refl
none_left name (suc n) h = absurd (not-suc-le-zero h)

-- the stars end a name, so its base is no longer than it
before_at_most : (name : List ℕ) (n : ℕ) → before_stars name n ≤ n
unfolding before_stars
before_at_most name zero = omega arith
before_at_most name (suc n) = either (eqb (get_or name n 0) 42) (before_at_most name n)
  where
    either : (t : Bool) {k : ℕ} → k ≤ n → cond t k (suc n) ≤ suc n
    either true h = omega arith
    either false h = omega arith

pub base_at_most : (name : List ℕ) → base_length name ≤ length name
base_at_most name = before_at_most name (length name)
