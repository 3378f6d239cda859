-- A sheet that passed its test has cells only. Assumes nothing.
use Prim.Native.Nat.{ℕ, zero, suc, ◌*◌}
use mathlib.Core.Path.{◌≡◌, refl, ◌∙◌}
use mathlib.Core.Bool.{true}
use mathlib.Core.List.{List}
use native.Mathlib.Omega.{arith}
use borrow.Author.Tests.{lt-ltb}
use lib.Dec.{ltb}
use Rattle.std.specs.Prelude.{Ok, Err}
use Rattle.units.specs.declared.refusal.Refusal.{Refusal}
use Rattle.units.specs.Refusals.{refuse_if, answer}
use Rattle.sheet_cells.specs.Cells.{sheet_fault}
use Rattle.sheet_cells.specs.Checks.{count_in, are_cells, sheet_check}
use Rattle.sheet_cells.proofs.Sheets.{sheet_cells}

no_line : (line n count : ℕ) (r : Refusal) → Ok count ≡ answer (refuse_if (ltb 0 line) r) n → line ≡ 0
no_line zero n count r e = refl
no_line (suc line) n count r e = let z : Ok count ≡ Err r = e ∙ rw (lt-ltb 0 (suc line) (omega arith)) in absurd cc

pub all_cells : (rows cols : ℕ) (text : List ℕ) (count : ℕ) → Ok count ≡ sheet_check rows cols text → are_cells (rows * cols) text ≡ true
all_cells rows cols text count e = sheet_cells rows cols text (no_line (sheet_fault cols 1 rows text).line (count_in (rows * cols) text) count _ e)
