-- The front of a table that is written from its start. Assumes nothing.
use Prim.Native.Nat.{ℕ, zero, suc, ◌+◌, ◌≤◌, ◌<◌}
use mathlib.Core.Path.{◌≡◌, refl, sym, ◌∙◌, ap, ap₂}
use mathlib.Core.Bool.{Bool}
use mathlib.Core.List.{List, [], ◌∷◌, ◌++◌}
use native.Mathlib.Numerals.{add-one}
use native.Mathlib.Omega.{arith}
use lib.ListN.{length, set, take, drop, length-append, length-take}
use lib.Seq.{take-suc-set, drop-set-lt, drop-drop}
use Rattle.sets.specs.Set.{word}
use Rattle.bay_legal.specs.Sets.{sets_to}

-- a front of n elements is there
pub front_fits : {A : Type 0} (n : ℕ) (table : List A) {front : List A} → take n table ≡ front → length front ≡ n → n ≤ length table
front_fits n table e f = omega (arith, length-take n table, ap length e ∙ f)

-- one set more
pub set_more : (legal : ℕ → ℕ → Bool) (table : List ℕ) (bay w : ℕ) → take bay table ≡ sets_to legal bay → bay < length table → w ≡ word (legal bay) 64
    → take (bay + 1) (set table bay w) ≡ sets_to legal (bay + 1)
unfolding sets_to
set_more legal table bay w e h made =
    rw (add-one bay) (take-suc-set table bay w h ∙ ap₂ (λ (front : List ℕ) (x : ℕ). front ++ (x ∷ [])) e made)

-- what stands behind the element that is written stays
pub rest_stays : (table old : List ℕ) (i w : ℕ) → drop i table ≡ drop i old → drop (i + 1) (set table i w) ≡ drop (i + 1) old
rest_stays table old i w e = drop-set-lt (i + 1) table i w (omega arith) ∙ sym (drop-drop 1 i table) ∙ ap (drop 1) e ∙ drop-drop 1 i old

-- as many sets as bays
pub length_sets : (legal : ℕ → ℕ → Bool) (n : ℕ) → length (sets_to legal n) ≡ n
unfolding sets_to
length_sets legal zero = refl
length_sets legal (suc n) = length-append (sets_to legal n) (word (legal n) 64 ∷ []) ∙ ap (λ (k : ℕ). k + 1) (length_sets legal n) ∙ add-one n

pub no_set : (legal : ℕ → ℕ → Bool) → [] ≡ sets_to legal 0
unfolding sets_to
no_set legal = refl
