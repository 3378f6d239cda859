-- A sheet over a grid: the list in each field in reading order, and the first field that is bad, missing or surplus. Assumes nothing.
use Rattle.std.specs.Prelude.{ℕ, zero, suc, ◌+◌, Bool, cond, ◌&&◌, List, [], ◌∷◌, ◌++◌, eqb, ltb, length}
pub use Rattle.text_fronts.specs.Front.{front}
use Rattle.units.specs.Refusals.{Verdict, refuse_if}
use Rattle.units.specs.declared.refusal.Refusal.TheVariants.{Field}
use Rattle.sheet_fields.specs.Fields.{field, content, after}
use Rattle.sheet_fields.specs.Runs.{past, record_fault}
use Rattle.sheet_number_lists.specs.NumberLists.{is_list, list_in}
use Rattle.sheet_fields.specs.declared.Place.{Place}

-- the field at the front of a text is sound, and its content is a list
unfoldable pub is_cell : List ℕ → Bool
is_cell t = (field t).sound && is_list (content t)

-- the lists of the fields that a text begins with
unfoldable pub cells : ℕ → List ℕ → List (List ℕ)
cells zero t = []
cells (suc k) t = list_in (content t) ∷ cells k (after t)

abbrev pub place : (line number : ℕ) → Place
place line number = record { line = line; field = number }

-- where no bytes are left no record is: one that is missing is told by its first field, and so is one that is surplus
unfoldable pub sheet_fault : (columns line left : ℕ) → List ℕ → Place
sheet_fault columns line zero t = cond (eqb (length t) 0) (place 0 0) (place line 1)
sheet_fault columns line (suc left) t =
    cond (eqb (length t) 0)
    (place line 1)
    (cond (eqb (record_fault is_cell 1 columns t) 0) (sheet_fault columns (line + 1) left (past columns t)) (place line (record_fault is_cell 1 columns t)))

-- 19, with line and field from 1, of the first bad, missing or surplus field
abbrev pub sheet_verdict : (rows columns : ℕ) → List ℕ → Verdict
sheet_verdict rows columns t =
    refuse_if (ltb 0 (sheet_fault columns 1 rows t).line) (Field (sheet_fault columns 1 rows t).line (sheet_fault columns 1 rows t).field)

-- the numbers of all lists, one list after the other, and the offsets at which the lists begin and the last one ends
unfoldable pub all_tiles : List (List ℕ) → List ℕ
all_tiles [] = []
all_tiles (l ∷ ls) = l ++ all_tiles ls

unfoldable pub starts : ℕ → List (List ℕ) → List ℕ
starts n [] = n ∷ []
starts n (l ∷ ls) = n ∷ starts (n + length l) ls
