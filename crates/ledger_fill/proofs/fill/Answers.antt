-- `ledger_fill::fill` meets its contract. The invariant: the blocks of the first k bays are written. Assumes nothing.
use mathlib.Core.Path.{refl}
use Prim.Native.Nat.{◌*◌}
use native.Mathlib.Omega.{arith}
use lib.ListN.{length}
use Rattle.ledger_row_choice.specs.Row.{strands_of}
use Rattle.ledger_block.specs.Block.{Writable}
use Rattle.ledger_fill.proofs.Filling.{filling_starts, fill_comes, here_long, bay_in, energies_whole, notes_whole, bay_writable, previous_some, filling_turns, filling_ends}
use Rattle.ledger_fill.proofs.fill.Goals as goal

pub loop-k-init : goal.loop-k-init
loop-k-init c = let a = c.args in
    filling_starts a.window a.sets.now a.bays.now a.bonds.now a.energies.now a.notes.now c.requires

pub bay_at-bay-requires : goal.bay_at-bay-requires
bay_at-bay-requires c =
    record {
      window_nonzero = (c.requires.room.some_window, c.loop-k-test.true);
      nonzero = (fill_comes c.loop-k.invariant c.loop-k-test.true).some_leave;
    }

pub overflow_mul-at : goal.overflow_mul-at
overflow_mul-at c = omega (arith, bay_in c.loop-k.invariant c.loop-k-test.true)

pub overflow_add-here : goal.overflow_add-here
overflow_add-here c = omega (arith, bay_in c.loop-k.invariant c.loop-k-test.true)

pub offset_bounds-bays-at : goal.offset_bounds-bays-at
offset_bounds-bays-at c = omega (arith, bay_in c.loop-k.invariant c.loop-k-test.true)

pub slice_bounds-here-end : goal.slice_bounds-here-end
slice_bounds-here-end c = bay_in c.loop-k.invariant c.loop-k-test.true

pub put_bay-requires : goal.put_bay-requires
put_bay-requires c = let w : Writable c.bay_at-bay.result c.loop-k.last c.loop-k.last.end (c.bay_at-bay.result.width * length (strands_of c.bay_at-bay.result.set)) (length c.loop-k.energies) (length c.loop-k.notes) = bay_writable c.loop-k.invariant c.loop-k-test.true c.bay_at-bay.ensures in
    record {
      nonzero = (
        previous_some c.loop-k.invariant c.loop-k-test.true c.bay_at-bay.ensures,
        here_long c.loop-k.invariant c.loop-k-test.true _ refl,
      );
      writable = record {
        small = w.small;
        some_leave = w.some_leave;
        from_end = omega (arith, w.from_end);
        behind = w.behind;
        energies_fit = w.energies_fit;
        notes_fit = w.notes_fit;
      };
    }

pub rows_of-rows-requires : goal.rows_of-rows-requires
rows_of-rows-requires c = (bay_writable c.loop-k.invariant c.loop-k-test.true c.bay_at-bay.ensures).small

pub overflow_add-last : goal.overflow_add-last
overflow_add-last c = omega (arith, c.rows_of-rows.ensures, (bay_writable c.loop-k.invariant c.loop-k-test.true c.bay_at-bay.ensures).energies_fit, energies_whole c.loop-k.invariant)

pub loop-k-preserved : goal.loop-k-preserved
loop-k-preserved c = let wrote = c.put_bay.ensures in
    filling_turns c.loop-k.invariant c.loop-k-test.true c.bay_at-bay.ensures _ _ _ c.rows_of-rows.result refl wrote.energies_after
    wrote.notes_after c.rows_of-rows.ensures

pub shape_of-energies : goal.shape_of-energies
shape_of-energies c = energies_whole c.loop-k.invariant

pub shape_of-notes : goal.shape_of-notes
shape_of-notes c = notes_whole c.loop-k.invariant

pub returns : goal.returns
returns c = filling_ends c.loop-k.invariant c.loop-k-test.false
