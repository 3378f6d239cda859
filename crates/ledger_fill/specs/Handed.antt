-- The numbers that a run is handed, and the scan that they make: sets as words, one a bay in scan order; the bonds of all pairs of strands to the
-- previous major line and to the previous bay; for each bay the energies of its strands. Assumes nothing.
use Rattle.std.specs.Prelude.{cond, not, List, [], ℕ, ◌+◌, ◌-◌, ◌*◌, ◌%◌, ◌≤◌, ◌<◌, eqb, leb, Float, length, get_or, take, drop}
use Rattle.std.specs.Float.{nan}
use Rattle.units.specs.Limits.{most_rows, most_strands}
use Rattle.ledger_rows.specs.Scan.{Scan, EachHasStrand}
use Rattle.ledger_rows.specs.Blocks.{need}
use Rattle.energy_bays.specs.ScanSum.{with_bond}
use Rattle.ledger_row_choice.specs.declared.Bonds.{Bonds}
use Rattle.ledger_row_choice.specs.Row.{strands_of, bond_at}

-- a bay's number: (bay + bond to the previous major line) + bond to the previous bay of this line, absent ones left out
abbrev pub added_of : (window : ℕ) → (rows : ℕ → List Float) → Bonds → (k s u t : ℕ) → Float
added_of window rows bonds k s u t =
    with_bond (not (eqb (k % window) 0)) (bond_at bonds.side u t) (with_bond (leb window k) (bond_at bonds.major s t) (get_or (rows k) t nan))

-- the scan of what is handed
abbrev pub scan_of : (window : ℕ) → (sets : List ℕ) → (rows : ℕ → List Float) → Bonds → Scan
scan_of window sets rows bonds = record { kept = window - 1; strands = λ k. strands_of (get_or sets k 0); added = added_of window rows bonds }

-- no bond at all
abbrev pub no_bonds : Bonds
no_bonds = record { major = []; side = [] }

-- the scan of the sets alone: how many rows there are depends on nothing else
abbrev pub set_scan : (window : ℕ) → (sets : List ℕ) → Scan
set_scan window sets = scan_of window sets (λ k. []) no_bonds

-- a need, and one more than the limit where it is larger
abbrev pub capped : ℕ → ℕ
capped need = cond (leb need most_rows) need (most_rows + 1)

-- the energies of bay k's strands in the table of all bays, which has a row of `most_strands` for each
abbrev pub bay_row : (bays : List Float) → (k : ℕ) → List Float
bay_row bays k = take most_strands (drop (k * most_strands) bays)

-- the scan of a run whose bay energies stand in one table
abbrev pub run_scan : (window : ℕ) → (sets : List ℕ) → (bays : List Float) → Bonds → Scan
run_scan window sets bays bonds = scan_of window sets (bay_row bays) bonds

-- what is asked of sets in scan order and of the lent tables: a window, a strand for each bay, few enough rows, and room for them in both
pub record Roomy (window : ℕ) (sets : List ℕ) (energies notes : ℕ) : Type 0 where
  pub some_window : 0 < window
  pub filled : EachHasStrand (set_scan window sets) (length sets)
  pub few_rows : need (set_scan window sets) (length sets) ≤ most_rows
  pub energies_fit : need (set_scan window sets) (length sets) ≤ energies
  pub notes_fit : need (set_scan window sets) (length sets) ≤ notes

-- what a fill is handed: these, and a row of energies for each bay
pub record Fillable (window : ℕ) (sets : List ℕ) (bays : List Float) (energies notes : ℕ) : Type 0 where
  pub room : Roomy window sets energies notes
  pub bay_energies : length sets * most_strands ≤ length bays
