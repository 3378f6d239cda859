-- A word that is a number, by the tests that the code makes. Assumes nothing.
use Prim.Native.Nat.{ℕ, suc, ◌^◌}
use mathlib.Core.Bool.{Bool, true, false, cond, not, ◌&&◌, ◌||◌}
use mathlib.Core.List.{List, [], ◌∷◌}
use mathlib.Core.Path.{◌≡◌, refl}
use native.Mathlib.Omega.{arith}
use borrow.Author.Tests.{le-leb, ne_eqb, ltb-true, ltb-false}
use lib.Dec.{eqb, ltb}
use lib.ListN.{length, get_or}
use Rattle.std.specs.Prelude.{Option, Some, None}
use Rattle.text_digits.specs.Digits.{all_digits, worth, whole_of}
use Rattle.sheet_number_lists.specs.NumberLists.{is_plain_number, value_of}
use Rattle.sheet_number_lists.specs.Counts.{plain_number}

-- a number where it is below 2^32
abbrev pub small : Option ℕ → Option ℕ
small (Some n) = cond (ltb n (2 ^ 32)) (Some n) None
small None = None

abbrev plain : Bool → ℕ → Option ℕ
plain is n = cond is (Some (cond is n 0)) None

small_whole : (d : Bool) (n : ℕ) → plain (d && ltb n (2 ^ 32)) n ≡ small (cond (d && ltb n (2 ^ 64)) (Some n) None)
small_whole false n = refl
small_whole true n = go (ltb n (2 ^ 32)) refl (ltb n (2 ^ 64)) refl
  where
    go : (s : Bool) → ltb n (2 ^ 32) ≡ s → (t : Bool) → ltb n (2 ^ 64) ≡ t → plain s n ≡ small (cond t (Some n) None)
    go true h true k = rw h refl
    go false h true k = rw h refl
    go true h false k = let a = ltb-true n (2 ^ 32) h in let b = ltb-false n (2 ^ 64) k in absurd (omega arith)
    go false h false k = refl

-- no number is empty or has a 0 in front of another digit; any other text is read as digits
pub plain_by : (w : List ℕ)
    → plain_number w ≡ cond (eqb (length w) 0) None (cond (eqb (length w) 1) (small (whole_of 10 w)) (cond (eqb (get_or w 0 0) 48) None (small (whole_of 10 w))))
unfolding is_plain_number value_of whole_of
plain_by [] = refl
plain_by (x ∷ w) =
    rw (ne_eqb (suc (length w)) 0 (λ (e : suc (length w) ≡ 0). omega arith), le-leb 1 (suc (length w)) (omega arith)) (go (eqb (suc (length w)) 1) (eqb x 48) (all_digits 10 (x ∷ w)) (worth 10 0 (x ∷ w)))
  where
    go : (one zero d : Bool) (n : ℕ) → plain (d && ((one || not zero) && ltb n (2 ^ 32))) n
        ≡ cond one (small (cond (d && ltb n (2 ^ 64)) (Some n) None)) (cond zero None (small (cond (d && ltb n (2 ^ 64)) (Some n) None)))
    go true zero d n = small_whole d n
    go false false d n = small_whole d n
    go false true true n = refl
    go false true false n = refl
