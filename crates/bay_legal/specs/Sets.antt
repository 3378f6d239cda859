-- The sets of all bays, one word a bay, and what is refused of them: 5 and 7 after 1 to 4. Assumes nothing.
use Rattle.std.specs.Prelude.{ℕ, zero, suc, ◌*◌, Bool, cond, List, [], ◌∷◌, ◌++◌, eqb, ltb, length, get_or}
use Rattle.units.specs.declared.refusal.Refusal.TheVariants.{NoLegalStrand}
use Rattle.units.specs.Refusals.{Verdict, refuse_if, ◌▷◌, if_passes}
use Rattle.sets.specs.Set.{word}
use Rattle.bay_system.specs.System.{System}
use Rattle.bay_lists.specs.Lists.{Constraints}
use Rattle.bay_legal_at.specs.Legal.{is_legal}
use Rattle.bay_given.specs.Given.{given_verdict}
use Rattle.bay_scan_order.specs.Scan.{bay_at}
pub use Rattle.bay_system.specs.System.{bays}

-- the sets of the first n bays, row by row, by what is legal at each
unfoldable pub sets_to : (legal : ℕ → ℕ → Bool) → (n : ℕ) → List ℕ
sets_to legal zero = []
sets_to legal (suc n) = sets_to legal n ++ (word (legal n) 64 ∷ [])

abbrev pub sets_of : System → Constraints → List ℕ
sets_of s c = sets_to (is_legal s c) (bays s.sizes)

-- the number, in scan order, of the first of k bays from number i on whose set is empty; the number after them where none is
unfoldable pub first_empty : (rows cols : ℕ) → (sets : List ℕ) → (i k : ℕ) → ℕ
first_empty rows cols sets i zero = i
first_empty rows cols sets i (suc k) = cond (eqb (get_or sets (bay_at rows cols i) 0) 0) i (first_empty rows cols sets (suc i) k)

-- 7, with the first bay in scan order: a bay has no legal strand
abbrev pub empty_verdict : (rows cols : ℕ) → (sets : List ℕ) → Verdict
empty_verdict rows cols sets =
    let found = first_empty rows cols sets 0 (rows * cols) in refuse_if (ltb found (rows * cols)) (NoLegalStrand (bay_at rows cols found))

-- 1 to 5, then 7
abbrev pub allowed_verdict : System → (lent : ℕ) → Constraints → Verdict
allowed_verdict s lent c = given_verdict s lent c ▷ empty_verdict s.sizes.rows s.sizes.cols (sets_of s c)

-- what the lent slice holds afterwards
abbrev pub sets_after : System → Constraints → (lent : List ℕ) → List ℕ
sets_after s c lent = if_passes (allowed_verdict s (length lent) c) (sets_of s c) lent
