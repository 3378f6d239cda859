-- `ledger_block::put_line` meets its contract. The invariant: the rows of the strands that were taken are written. Assumes nothing.
use mathlib.Core.Path.{◌≡◌, sym, ap, ap₂, ◌∙◌, subst}
use mathlib.Core.List.{List}
use Prim.Native.Nat.{ℕ, ◌≤◌, ◌<◌}
use native.Mathlib.Omega.{arith}
use lib.Ieee.{Float}
use lib.ListN.{length, get_or}
use Rattle.units.specs.Limits.{most_strands}
use Rattle.floats.specs.declared.Choice.{Choice}
use Rattle.ledger_row_choice.specs.declared.Bonds.{Bonds}
use Rattle.ledger_row_choice.specs.declared.Own.{Own}
use Rattle.ledger_row_choice.specs.Row.{strands_of, own_row}
use Rattle.ledger_block.specs.Block.{over, part, own_of}
use Rattle.ledger_block.specs.declared.Bay.{Bay}
use Rattle.ledger_block.specs.declared.Stretch.{Stretch}
use Rattle.ledger_block.proofs.Lining.{who_small, line_starts, line_strand, line_small, line_fewer, line_turns, line_ends, energies_long, notes_long, energies_room, notes_room}
use Rattle.ledger_block.proofs.Over.{part_over}
use Rattle.ledger_block.proofs.put_line.Goals as goal

-- the row that a turn finds is the one at the strand's position: the block before is as it was
row_found : (b : Bay) (here : List Float) (bonds : Bonds) (q u : ℕ) (p : Stretch) (at : ℕ) (old now new : List Float) (own : Own) (best : Choice) (t s : ℕ)
    → now ≡ over old at new → p.from ≤ p.end → p.end ≤ at → at ≤ length old → own ≡ own_of b here bonds.side u t → t ≡ s
    → best ≡ own_row own bonds.major (part p now) b.leaving b.width q
    → best ≡ own_row (own_of b here bonds.side u s) bonds.major (part p old) b.leaving b.width q
row_found b here bonds q u p at old now new own best t s e ordered behind within o h f =
    let before : part p now ≡ part p old = ap (part p) e ∙ part_over old at new p ordered behind within in
    f ∙ ap₂ (λ (x : Own) (y : List Float). own_row x bonds.major y b.leaving b.width q) (o ∙ ap (own_of b here bonds.side u) h) before

pub loop-bay-init : goal.loop-bay-init
loop-bay-init c = let a = c.args in
    line_starts a.bay.set a.at
    (λ p. own_row (own_of a.bay a.here.now a.bonds.now.side a.u (get_or (strands_of a.bay.set) p 0)) a.bonds.now.major (part a.before a.energies.now) a.bay.leaving a.bay.width a.q)
    a.energies.now a.notes.now c.requires.writable.energies_fit c.requires.writable.notes_fit

pub overflow_cast-t : goal.overflow_cast-t
overflow_cast-t c = omega (arith, line_small c.loop-bay.invariant (sym c.is_empty.ensures ∙ c.loop-bay-test.true) c.first-t.ensures)

pub own_of-own-requires : goal.own_of-own-requires
own_of-own-requires c = (
  c.requires.u_lt_most_strands.0,
  line_small c.loop-bay.invariant (sym c.is_empty.ensures ∙ c.loop-bay-test.true) c.first-t.ensures,
  c.requires.u_lt_most_strands.2,
)

pub slice_bounds-held-count : goal.slice_bounds-held-count
slice_bounds-held-count c = c.requires.writable.from_end

pub slice_bounds-held-start : goal.slice_bounds-held-start
slice_bounds-held-start c = c.requires.writable.from_end

pub slice_bounds-held-end : goal.slice_bounds-held-end
slice_bounds-held-end c = omega (arith, c.requires.writable, energies_long c.loop-bay.invariant)

pub row-best-requires : goal.row-best-requires
row-best-requires c = (
  subst (λ t. t < most_strands) (sym (ap (λ (o : Own). o.strand) c.own_of-own.ensures))
      (line_small c.loop-bay.invariant (sym c.is_empty.ensures ∙ c.loop-bay-test.true) c.first-t.ensures),
  c.requires.u_lt_most_strands.1,
  c.requires.writable.small,
  c.requires.writable.some_leave,
)

pub bounds-energies-j : goal.bounds-energies-j
bounds-energies-j c = energies_room c.loop-bay.invariant (sym c.is_empty.ensures ∙ c.loop-bay-test.true)

pub overflow_cast-notes : goal.overflow_cast-notes
overflow_cast-notes c = let a = c.args in
    let p = c.loop-bay.invariant.count in
    let own = own_of a.bay a.here.now a.bonds.now.side a.u (get_or (strands_of a.bay.set) p 0) in
    let before = part a.before a.energies.now in
    let small = who_small own a.bonds.now.major before a.bay.leaving a.bay.width a.q c.requires.writable.some_leave in
    let best = row_found a.bay a.here.now a.bonds.now a.q a.u a.before a.at a.energies.now c.loop-bay.energies _ c.own_of-own.result c.row-best.result c.first-t.result
    (get_or (strands_of a.bay.set) p 0) c.loop-bay.invariant.energies_are c.requires.writable.from_end c.requires.writable.behind (omega (arith, c.requires.writable)) c.own_of-own.ensures
    (line_strand c.loop-bay.invariant (sym c.is_empty.ensures ∙ c.loop-bay-test.true) c.first-t.ensures) c.row-best.ensures in
    omega (arith, small, ap (λ (r : Choice). r.who) best)

pub bounds-notes-j : goal.bounds-notes-j
bounds-notes-j c = notes_room c.loop-bay.invariant (sym c.is_empty.ensures ∙ c.loop-bay-test.true)

pub overflow_add-j : goal.overflow_add-j
overflow_add-j c = omega (arith, energies_room c.loop-bay.invariant (sym c.is_empty.ensures ∙ c.loop-bay-test.true))

pub loop-bay-smaller : goal.loop-bay-smaller
loop-bay-smaller c = line_fewer c.loop-bay.invariant (sym c.is_empty.ensures ∙ c.loop-bay-test.true) c.rest-left.ensures

pub loop-bay-preserved : goal.loop-bay-preserved
loop-bay-preserved c = let a = c.args in
    let p = c.loop-bay.invariant.count in
    let more = sym c.is_empty.ensures ∙ c.loop-bay-test.true in
    line_turns c.loop-bay.invariant more c.row-best.result c.rest-left.ensures
    (row_found a.bay a.here.now a.bonds.now a.q a.u a.before a.at a.energies.now c.loop-bay.energies _ c.own_of-own.result c.row-best.result c.first-t.result
    (get_or (strands_of a.bay.set) p 0) c.loop-bay.invariant.energies_are c.requires.writable.from_end c.requires.writable.behind (omega (arith, c.requires.writable)) c.own_of-own.ensures
    (line_strand c.loop-bay.invariant more c.first-t.ensures) c.row-best.ensures)

pub shape_of-energies : goal.shape_of-energies
shape_of-energies c = energies_long c.loop-bay.invariant

pub shape_of-notes : goal.shape_of-notes
shape_of-notes c = notes_long c.loop-bay.invariant

pub returns : goal.returns
returns c = let p = line_ends c.loop-bay.invariant (sym c.is_empty.ensures ∙ c.loop-bay-test.false) in
    record {
      energies_after = p.0;
      notes_after = p.1;
    }
