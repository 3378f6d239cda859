-- What passed tests give a run: sizes that fit, and a strand that may lie there for each bay. Assumes nothing.
use Prim.Native.Nat.{ℕ, ◌^◌, ◌≤◌, ◌<◌}
use mathlib.Core.Path.{◌≡◌, sym, ◌∙◌, subst}
use mathlib.Core.Bool.{Bool, true, false, cond}
use native.Mathlib.Decide.{dec_lt}
use native.Mathlib.Omega.{arith}
use lib.Dec.{leb}
use lib.ListN.{length, get_or}
use borrow.Author.Tests.{eqb-true, eq-eqb}
use Rattle.units.specs.Limits.{most_strands}
use Rattle.units.specs.declared.refusal.Refusal.{Refusal}
use Rattle.units.specs.Refusals.{Verdict, passes, refuses}
use Rattle.sets.proofs.Words.{word_lt}
use Rattle.sets.proofs.Taking.{none_left}
use Rattle.bay_system.specs.System.{System}
use Rattle.bay_system.proofs.Fine.{Fine}
use Rattle.bay_lists.specs.Lists.{Constraints}
use Rattle.bay_legal_at.specs.Legal.{is_legal}
use Rattle.bay_legal_at.proofs.StrandBelow.{strand_below}
use Rattle.bay_scan_order.specs.Scan.{bay_at}
use Rattle.bay_legal.specs.Sets.{bays, sets_to, sets_of, empty_verdict}
use Rattle.bay_scan_order.proofs.Scanned.{bay_inside}
use Rattle.bay_legal.proofs.Seven.{seven, set_of_bay}
use Rattle.ledger_rows.specs.Scan.{EachHasStrand}
use Rattle.run_scan_tables.specs.Order.{scan_sets}
use Rattle.run_least_layout.specs.Run.{scan_by, system_scan}
use Rattle.run_least_layout.specs.Layouts.{LeastBy, LeastLayoutTheorem}
use Rattle.run_least_layout.proofs.Meaning.{scanned_set}
use Rattle.run_least_layout.proofs.Fillings.{Fit}
use Rattle.run_least_layout.proofs.TheRunIsRight.{right_by}

-- the shorter side of a grid is there
pub some_side : (b : Bool) (rows cols : ℕ) → 1 ≤ rows → 1 ≤ cols → 1 ≤ cond b cols rows
some_side true rows cols r c = c
some_side false rows cols r c = r

pub fit : (s : System) → Fine s → Fit s
fit s f =
    let sizes = f.shape.sizes in
    record {
      some_strands = sizes.some_strands;
      strands = sizes.strands;
      some_window = some_side (leb s.sizes.cols s.sizes.rows) s.sizes.rows s.sizes.cols sizes.some_rows sizes.some_cols;
    }

not_both : (v : Verdict) (r : Refusal) → v ≡ passes → v ≡ refuses r → ⊥
not_both v r e f = cc

pub filled_by : (s : System) (may : ℕ → ℕ → Bool) → empty_verdict s.sizes.rows s.sizes.cols (sets_to may (bays s.sizes)) ≡ passes → EachHasStrand (scan_by s may) (bays s.sizes)
filled_by s may passed k h = by (dec_lt 0 (length ((scan_by s may).strands k)))
  where
    bay : ℕ
    bay = bay_at s.sizes.rows s.sizes.cols k

    by : Dec (0 < length ((scan_by s may).strands k)) → 0 < length ((scan_by s may).strands k)
    by (yes l) = l
    by (no l) =
        let inside = bay_inside s.sizes.rows s.sizes.cols k h in
        let set = get_or (scan_sets s.sizes.rows s.sizes.cols (sets_to may (bays s.sizes))) k 0 in
        let fits : set < 2 ^ most_strands = subst (λ (w : ℕ). w < 2 ^ most_strands) (sym (scanned_set s may k h)) (word_lt (may bay) most_strands) in
        let none : set ≡ 0 = eqb-true set 0 (none_left most_strands set fits ∙ eq-eqb (length ((scan_by s may).strands k)) 0 (zero_length l)) in
        let empty : get_or (sets_to may (bays s.sizes)) bay 0 ≡ 0 = set_of_bay may (bays s.sizes) bay inside ∙ sym (scanned_set s may k h) ∙ none in
        absurd (not_both (empty_verdict s.sizes.rows s.sizes.cols (sets_to may (bays s.sizes))) _ passed (seven s.sizes.rows s.sizes.cols (sets_to may (bays s.sizes)) bay inside empty).0)
      where
        zero_length : (0 < length ((scan_by s may).strands k) → ⊥) → length ((scan_by s may).strands k) ≡ 0
        zero_length g = omega (arith, g)

-- once the tests before the ledger have passed, the run is what the customer asks for
pub least_by : (s : System) (may : ℕ → ℕ → Bool) (below : (b t : ℕ) → may b t ≡ true → t < s.sizes.strands) → Fine s
    → empty_verdict s.sizes.rows s.sizes.cols (sets_to may (bays s.sizes)) ≡ passes → LeastBy s may
least_by s may below f e = right_by s may below (fit s f) (filled_by s may e)

-- ---- of the legal strands
pub filled : (s : System) (c : Constraints) → empty_verdict s.sizes.rows s.sizes.cols (sets_of s c) ≡ passes → EachHasStrand (system_scan s c) (bays s.sizes)
filled s c = filled_by s (is_legal s c)

pub run_is_right : (s : System) (c : Constraints) → Fine s → empty_verdict s.sizes.rows s.sizes.cols (sets_of s c) ≡ passes → LeastLayoutTheorem s c
run_is_right s c = least_by s (is_legal s c) (strand_below s c)
