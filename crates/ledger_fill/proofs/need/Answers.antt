-- `ledger_fill::need` meets its contract. The invariant: the rows of the first k bays are counted. Assumes nothing.
use mathlib.Core.List.{[]}
use native.Mathlib.Omega.{arith}
use lib.ListN.{length}
use Rattle.ledger_fill.specs.Handed.{no_bonds}
use Rattle.ledger_fill.proofs.Sizes.{counting_starts, counting_comes, counting_turns, too_many, counting_ends, bay_small, bay_rows, rows_small}
use Rattle.ledger_fill.proofs.need.Goals as goal

pub loop-k-init : goal.loop-k-init
loop-k-init c = counting_starts c.args.window c.args.sets.now (λ k. []) no_bonds (length c.args.sets.now) c.requires.window_nonzero c.requires.each_has_strand

pub bay_at-requires : goal.bay_at-requires
bay_at-requires c =
    record {
      window_nonzero = (c.requires.window_nonzero, c.loop-k-test.true);
      nonzero = (counting_comes c.loop-k.invariant c.loop-k-test.true).some_leave;
    }

pub rows_of-rows-requires : goal.rows_of-rows-requires
rows_of-rows-requires c = bay_small (counting_comes c.loop-k.invariant c.loop-k-test.true) c.bay_at.ensures

pub overflow_add-used : goal.overflow_add-used
overflow_add-used c = omega (arith, c.loop-k.invariant.few, rows_small (counting_comes c.loop-k.invariant c.loop-k-test.true) c.bay_at.ensures c.rows_of-rows.result c.rows_of-rows.ensures)

pub returns-then-used-gt-MOST_ROWS : goal.returns-then-used-gt-MOST_ROWS
returns-then-used-gt-MOST_ROWS c = too_many c.loop-k.invariant c.loop-k-test.true (bay_rows (counting_comes c.loop-k.invariant c.loop-k-test.true) c.bay_at.ensures c.rows_of-rows.result c.rows_of-rows.ensures) c.if-used-gt-MOST_ROWS.true

pub loop-k-preserved : goal.loop-k-preserved
loop-k-preserved c = counting_turns c.loop-k.invariant c.loop-k-test.true (bay_rows (counting_comes c.loop-k.invariant c.loop-k-test.true) c.bay_at.ensures c.rows_of-rows.result c.rows_of-rows.ensures) c.if-used-gt-MOST_ROWS.false

pub returns : goal.returns
returns c = counting_ends c.loop-k.invariant c.loop-k-test.false
