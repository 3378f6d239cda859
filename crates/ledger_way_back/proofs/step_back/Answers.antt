-- `ledger_way_back::step_back` meets its contract: each number of the code is the scan's. Assumes nothing.
use mathlib.Core.Path.{◌≡◌, sym, ap, ◌∙◌, subst}
use mathlib.Core.List.{List}
use Prim.Native.Nat.{ℕ, ◌+◌, ◌-◌, ◌*◌, ◌≤◌, ◌<◌}
use native.Mathlib.Omega.{arith}
use lib.ListN.{length, get_or}
use Rattle.units.specs.Limits.{most_rows, most_strands}
use Rattle.sets.specs.Set.{has, members}
use Rattle.ledger_rows.specs.Blocks.{leavers, need}
use Rattle.ledger_rows.specs.Trace.{below}
use Rattle.ledger_row_choice.specs.Row.{strands_of}
use Rattle.ledger_fill.specs.Handed.{set_scan}
use Rattle.ledger_fill.specs.Bays.{leaving_of}
use Rattle.ledger_way_back.specs.declared.Place.{Place}
use Rattle.ledger_way_back.specs.Tracing.{Traceable}
use Rattle.ledger_way_back.specs.Places.{OnBlock}
use Rattle.ledger_way_back.proofs.Backing.{OnRow, count_some, end_is, width_is, from_is, place_in, position_is, product_few, row_few, leaves_few, stepped}
use Rattle.ledger_way_back.proofs.step_back.Goals as goal

-- the row from which the step begins
on : {window : ℕ} {sets notes : List ℕ} {k : ℕ} {at : Place} → Traceable window sets notes → k < length sets → OnBlock (set_scan window sets) (k + 1) at → OnRow window sets notes k at
on t h b = record { tables = t; bay = h; place = b.0; inside = b.1 }

-- the position of the note among the strands that leave
place : {window : ℕ} {sets notes : List ℕ} {k : ℕ} {at : Place} (o : OnRow window sets notes k at) (leaves noted position : ℕ) → leaves ≡ leaving_of window sets k
    → noted ≡ get_or notes (at.end - at.rows + at.row) 0 → position ≡ length (members (has leaves) noted)
    → position ≡ below (leavers (set_scan window sets) (window - 1) k) (get_or notes (need (set_scan window sets) k + at.row) 0)
place {notes = notes} {at = at} o leaves noted position l n p =
    p
    ∙ ap (λ n. length (members (has leaves) n)) n
    ∙ ap (λ l. length (members (has l) (get_or notes (at.end - at.rows + at.row) 0))) l
    ∙ position_is o

pub nonzero_div-width : goal.nonzero_div-width
nonzero_div-width c = subst (λ n. 0 < n) (sym c.size-count.ensures) (count_some (on c.requires.traceable c.requires.k_in_bounds c.requires.on_block))

pub overflow_sub-from : goal.overflow_sub-from
overflow_sub-from c = omega (arith, end_is (on c.requires.traceable c.requires.k_in_bounds c.requires.on_block))

pub overflow_add-place : goal.overflow_add-place
overflow_add-place c = omega (arith, place_in (on c.requires.traceable c.requires.k_in_bounds c.requires.on_block))

pub bounds-notes-place : goal.bounds-notes-place
bounds-notes-place c = place_in (on c.requires.traceable c.requires.k_in_bounds c.requires.on_block)

pub overflow_mul-result : goal.overflow_mul-result
overflow_mul-result c = let o = on c.requires.traceable c.requires.k_in_bounds c.requires.on_block in
    let p = place o c.leaving-leaves.result c.from.result c.position-position.result c.leaving-leaves.ensures c.from.ensures c.position-position.ensures in
    let few = subst (λ w. c.position-position.result * w ≤ most_rows * most_strands) (sym (width_is o c.size-count.result c.size-count.ensures)) (product_few o c.position-position.result p) in
    omega (arith, few)

pub nonzero_div-result : goal.nonzero_div-result
nonzero_div-result c = subst (λ n. 0 < n) (sym c.size-count.ensures) (count_some (on c.requires.traceable c.requires.k_in_bounds c.requires.on_block))

pub overflow_add-result : goal.overflow_add-result
overflow_add-result c = let o = on c.requires.traceable c.requires.k_in_bounds c.requires.on_block in
    let p = place o c.leaving-leaves.result c.from.result c.position-position.result c.leaving-leaves.ensures c.from.ensures c.position-position.ensures in
    let few = subst (λ w. c.position-position.result * w ≤ most_rows * most_strands) (sym (width_is o c.size-count.result c.size-count.ensures)) (product_few o c.position-position.result p) in
    omega (arith, few, row_few o c.size-count.result)

pub overflow_mul-result-2 : goal.overflow_mul-result-2
overflow_mul-result-2 c = let o = on c.requires.traceable c.requires.k_in_bounds c.requires.on_block in
    let few = subst (λ w. c.size.result * w ≤ most_rows * most_strands) (sym (width_is o c.size-count.result c.size-count.ensures))
    (leaves_few o c.size.result (c.size.ensures ∙ ap (λ l. length (strands_of l)) c.leaving-leaves.ensures)) in
    omega (arith, few)

pub returns : goal.returns
returns c = let a = c.args in
    let o = on c.requires.traceable c.requires.k_in_bounds c.requires.on_block in
    let p = place o c.leaving-leaves.result c.from.result c.position-position.result c.leaving-leaves.ensures c.from.ensures c.position-position.ensures in
    stepped o c.size-count.result c.position-position.result c.size.result _ _ c.size-count.ensures p
    (c.size.ensures ∙ ap (λ l. length (strands_of l)) c.leaving-leaves.ensures) (width_is o c.size-count.result c.size-count.ensures) (from_is o)
