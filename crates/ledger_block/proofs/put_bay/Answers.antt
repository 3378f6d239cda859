-- `ledger_block::put_bay` meets its contract. The invariant: the lines of the first q rows of what stays are written. Assumes nothing.
use native.Mathlib.Omega.{arith}
use Rattle.units.specs.Limits.{most_strands}
use Rattle.sets.specs.Set.{has}
use Rattle.sets.proofs.Members.{length_le}
use Rattle.ledger_block.proofs.Blocking.{block_starts, block_turns, block_ends, block_small, line_writable, energies_kept, notes_kept}
use Rattle.ledger_block.proofs.put_bay.Goals as goal

pub overflow_cast-count : goal.overflow_cast-count
overflow_cast-count c = omega (arith, c.size-count.ensures, length_le (has c.args.bay.set) most_strands)

pub loop-q-init : goal.loop-q-init
loop-q-init c = let a = c.args in (
  c.size-count.ensures,
  block_starts a.bay a.here.now a.bonds.now a.before a.energies.now a.notes.now c.next-u.result c.requires.nonzero.0 c.requires.writable c.next-u.ensures,
)

pub overflow_cast-u : goal.overflow_cast-u
overflow_cast-u c = omega (arith, block_small c.loop-q.invariant.1)

pub put_line-requires : goal.put_line-requires
put_line-requires c = record {
  u_lt_most_strands = (block_small c.loop-q.invariant.1, c.loop-q-test.true, c.requires.nonzero.1);
  writable = line_writable c.loop-q.invariant.1 c.loop-q-test.true;
}

pub following-u-requires : goal.following-u-requires
following-u-requires c = block_small c.loop-q.invariant.1

pub overflow_add-at : goal.overflow_add-at
overflow_add-at c = omega (arith, line_writable c.loop-q.invariant.1 c.loop-q-test.true, c.loop-q.invariant.0, energies_kept c.loop-q.invariant.1)

pub loop-q-preserved : goal.loop-q-preserved
loop-q-preserved c = (
  c.loop-q.invariant.0,
  block_turns c.loop-q.invariant.1 c.loop-q-test.true c.loop-q.invariant.0
      c.following-u.ensures c.put_line.ensures.energies_after c.put_line.ensures.notes_after,
)

pub shape_of-energies : goal.shape_of-energies
shape_of-energies c = energies_kept c.loop-q.invariant.1

pub shape_of-notes : goal.shape_of-notes
shape_of-notes c = notes_kept c.loop-q.invariant.1

pub returns : goal.returns
returns c = let p = block_ends c.loop-q.invariant.1 c.loop-q-test.false in
    record {
      energies_after = p.0;
      notes_after = p.1;
    }
