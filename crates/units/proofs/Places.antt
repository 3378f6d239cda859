-- How the search for the first element that fails a test goes on by one. Assumes nothing.
use Prim.Native.Nat.{ℕ, zero, suc, ◌+◌, ◌≤◌, ◌<◌}
use mathlib.Core.Path.{◌≡◌, refl}
use mathlib.Core.Bool.{Bool, true, false, cond}
use mathlib.Core.List.{List, [], ◌∷◌}
use native.Mathlib.Nat.{le_of_suc-le-suc, not-suc-le-zero}
use native.Mathlib.Numerals.{add-one}
use native.Mathlib.Omega.{arith}
use lib.ListN.{length, get_or, drop, drop_of_length-le}
use lib.Seq.{drop-cons}
use Rattle.units.specs.Places.{first_failing}

module _ {A : Type 0} (test : A → Bool) (xs : List A) (d : A) (i : ℕ) where
  pub passed : i < length xs → test (get_or xs i d) ≡ true → i + first_failing test (drop i xs) ≡ i + 1 + first_failing test (drop (i + 1) xs)
  unfolding first_failing
  passed h e = rw (drop-cons xs i d h, e, add-one i) (omega arith)

  pub stopped : i < length xs → test (get_or xs i d) ≡ false → i + first_failing test (drop i xs) ≡ i
  unfolding first_failing
  stopped h e = rw (drop-cons xs i d h, e) (omega arith)

module _ {A : Type 0} (test : A → Bool) (xs : List A) (i : ℕ) where
  pub ended : length xs ≤ i → i + first_failing test (drop i xs) ≡ i
  unfolding first_failing
  ended h = rw (drop_of_length-le xs h) (omega arith)

-- where no element fails, each passes
step : {A : Type 0} (test : A → Bool) (x : A) (xs : List A) (d : A) (b : Bool) → test x ≡ b → suc (length xs) ≤ cond b (suc (first_failing test xs)) zero
    → ((k : ℕ) → length xs ≤ first_failing test xs → k < length xs → test (get_or xs k d) ≡ true)
    → (i : ℕ) → i < suc (length xs) → test (get_or (x ∷ xs) i d) ≡ true
step test x xs d true e fine rest zero h = e
step test x xs d true e fine rest (suc i) h = rest i (le_of_suc-le-suc fine) (le_of_suc-le-suc h)
step test x xs d false e fine rest i h = absurd (not-suc-le-zero fine)

pub none_fails : {A : Type 0} (test : A → Bool) (xs : List A) (d : A) (i : ℕ) → length xs ≤ first_failing test xs → i < length xs → test (get_or xs i d) ≡ true
unfolding first_failing
none_fails test [] d i all h = absurd (not-suc-le-zero h)
none_fails test (x ∷ xs) d i all h = step test x xs d (test x) refl all (λ k. none_fails test xs d k) i h
