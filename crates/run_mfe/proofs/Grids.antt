-- What passed tests give the run over sets, and what the sets at the front of a table give it. Assumes nothing.
use Prim.Native.Nat.{ℕ, ◌*◌, ◌≤◌}
use mathlib.Core.Path.{◌≡◌, refl, sym, ◌∙◌, ap, subst}
use mathlib.Core.Bool.{Bool}
use mathlib.Core.List.{List}
use lib.ListN.{length, get_or, take}
use lib.Seq.{get_or-take}
use Rattle.units.specs.Refusals.{passes}
use Rattle.bay_system.specs.System.{System, bays}
use Rattle.bay_lists.specs.Lists.{Constraints}
use Rattle.bay_given.specs.Given.{given_verdict}
use Rattle.bay_given.proofs.Passed.{is_fine, asked, room}
use Rattle.bay_scan_order.specs.Scan.{window, bay_at}
use Rattle.bay_legal.specs.Sets.{sets_to, empty_verdict}
use Rattle.bay_legal.proofs.Fronts.{front_fits, length_sets}
use Rattle.bay_scan_order.proofs.Scanned.{bay_inside}
use Rattle.ledger_rows.specs.Scan.{EachHasStrand}
use Rattle.ledger_fill.specs.Handed.{set_scan}
use Rattle.run_scan_tables.specs.Order.{scan_sets}
use Rattle.run_system.proofs.Ordered.{tab_same}
use Rattle.run_least_layout.proofs.Passed.{filled_by}
use Rattle.run_mfe.specs.RunBy.{SetsBy, Ready}

-- a system and constraints that passed their tests
pub ready : (s : System) (lent : ℕ) (c : Constraints) → given_verdict s lent c ≡ passes → Ready s lent
ready s lent c p =
    let f = is_fine s lent c p in
    let sizes = f.shape.sizes in
    record {
      readable = (asked s lent c p).grid.readable;
      stocked = record { few_rows = sizes.rows; few_cols = sizes.cols; bays = f.shape.scaffold; glues = f.scaffold; each_strand = f.shape.logs };
      board =
          record {
            some_rows = sizes.some_rows;
            few_rows = sizes.rows;
            some_cols = sizes.some_cols;
            few_cols = sizes.cols;
            scanned = refl;
            laid = room s lent c p ∙ f.shape.scaffold;
          };
    }

-- the sets at the front of a table
module _ (s : System) (may : ℕ → ℕ → Bool) (table : List ℕ) {n : ℕ} (count : n ≡ bays s.sizes) (made : SetsBy may n table) where
  abbrev rows : ℕ
  rows = s.sizes.rows

  abbrev cols : ℕ
  cols = s.sizes.cols

  abbrev sets : List ℕ
  sets = sets_to may (rows * cols)

  front_is : take (rows * cols) table ≡ sets
  front_is = subst (λ (k : ℕ). SetsBy may k table) count made

  pub all_sets : take n table ≡ sets
  all_sets = made ∙ ap (sets_to may) count

  pub table_room : rows * cols ≤ length table
  table_room = front_fits (rows * cols) table front_is (length_sets may (rows * cols))

  pub in_scan : scan_sets rows cols table ≡ scan_sets rows cols sets
  in_scan =
      tab_same (λ (k : ℕ). get_or table (bay_at rows cols k) 0) (λ (k : ℕ). get_or sets (bay_at rows cols k) 0) (rows * cols)
      (λ k h. sym (get_or-take (rows * cols) table (bay_at rows cols k) 0 (bay_inside rows cols k h)) ∙ ap (λ (l : List ℕ). get_or l (bay_at rows cols k) 0) front_is)

  pub table_filled : empty_verdict rows cols sets ≡ passes → EachHasStrand (set_scan (window rows cols) (scan_sets rows cols table)) (rows * cols)
  table_filled none = subst (λ (l : List ℕ). EachHasStrand (set_scan (window rows cols) l) (rows * cols)) (sym in_scan) (filled_by s may none)
