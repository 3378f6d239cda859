-- The two calls of the chemist's answer, each by its own contract: `read_sheet` read a sheet, and `mfe_configuration` was given the lists so read
-- and answered an energy. Assumes nothing.
use Prim.Native.Nat.{ℕ}
use mathlib.Core.Path.{◌≡◌}
use mathlib.Core.List.{List}
use lib.Ieee.{Float}
use lib.ListN.{take}
use contract.Lifetimes.{Lfts}
use denote.Triple.Clauses.{AtExit}
use borrow.Fn.Kinds.{Dens, ended_of}
use Rattle.std.proofs.Common.{Ok}
use Rattle.bay_system.specs.System.{System}
use Rattle.bay_system.specs.System as lent
use Rattle.bay_lists.specs.Lists.{Constraints, constraints_of, lists}
use Rattle.sheet.proofs.read_sheet.Kinds as read-kinds
use Rattle.sheet.proofs.read_sheet.Reads as read_sheet
use Rattle.run_mfe.proofs.mfe_configuration.Kinds as run-kinds
use Rattle.run_mfe.proofs.mfe_configuration.Reads as run

-- a call of `read_sheet` that answered a count: what it was lent, and what it left by its contract
pub record SheetRead : Type 0 where
  pub lifetimes : Lfts 3
  pub input : Dens lifetimes read-kinds.ps
  pub count : ℕ
  pub exit : AtExit (ended_of 3 read-kinds.ps read-kinds.r) lifetimes
  pub contract : read_sheet.Post lifetimes input (Ok count) exit

module _ (r : SheetRead) where
  abbrev pub rows_of : ℕ
  rows_of = r.input.0

  abbrev pub columns_of : ℕ
  columns_of = r.input.1.0

  -- the bytes of the sheet
  abbrev pub text_of : List ℕ
  text_of = r.input.1.1.0.now

  -- the offsets that it left, and the first so many of the tiles, as many as it counted, which is the last offset (`last_offset` in TheChemistsAnswer.antt)
  abbrev pub offsets_read : List ℕ
  offsets_read = r.exit.1.1.1.0.now

  abbrev pub tiles_read : List ℕ
  tiles_read = take r.count r.exit.1.1.1.1.0.now

-- a call of `mfe_configuration` that answered an energy
pub record RunAnswered : Type 0 where
  pub lifetimes : Lfts 7
  pub input : Dens lifetimes run-kinds.ps
  pub energy : Float
  pub exit : AtExit (ended_of 7 run-kinds.ps run-kinds.r) lifetimes
  pub contract : run.Post lifetimes input (Ok energy) exit

module _ (m : RunAnswered) where
  -- the system and the lists that it was given
  abbrev pub system_of : System
  system_of = lent.system_of m.input.0.now

  abbrev pub given_lists : Constraints
  given_lists = constraints_of m.input.1.0.now

  -- the layout that it left
  abbrev pub layout_of : List ℕ
  layout_of = m.exit.1.1.0.now

-- the run was over the grid that the sheet was read for, and was given the lists so read
pub record HandedOn (r : SheetRead) (m : RunAnswered) : Type 0 where
  pub same_rows : (system_of m).sizes.rows ≡ rows_of r
  pub same_columns : (system_of m).sizes.cols ≡ columns_of r
  pub lists_read : given_lists m ≡ lists (offsets_read r) (tiles_read r)
