-- `key_tables::put_numbers` meets its contract. The loop's invariant is `InPairs`: the numbers that are left end the table. Assumes nothing.
use mathlib.Core.Path.{refl, ◌∙◌}
use lib.Ieee.{of_bits, round}
use Rattle.units.specs.Decimals.{decimal}
use native.Mathlib.Omega.{arith}
use lib.ListN.{length-set}
use Rattle.sheet_numbers.proofs.Pairs.{pairs_start, pairs_go_on, pairs_end}
use Rattle.sheet_keys.specs.SheetKeys.{number}
use Rattle.sheet_keys.proofs.key_tables.put_numbers.Goals as goal

pub loop-i-init : goal.loop-i-init
loop-i-init c = let a = c.args in pairs_start number a.records 5 2 a.sheet.now a.numbers.now

pub bounds-numbers-i-in-loop-i : goal.bounds-numbers-i-in-loop-i
bounds-numbers-i-in-loop-i c = let long = c.loop-i.invariant.long in
    simp length-set (omega arith)

pub loop-i-preserved : goal.loop-i-preserved
unfolding of_bits decimal round
loop-i-preserved c = let a = c.args in
    let s = c.loop-i in
    pairs_go_on number a.records 5 2 a.sheet.now a.numbers.now s.numbers s.next s.i s.invariant c.loop-i-test.true c.place_after-first.result c.place_after-second.result c.place_after-next.result c.place_after-first.ensures c.place_after-second.ensures c.place_after-next.ensures
    _ _ (c.unwrap_or.ensures ∙ rw c.decimal_at-dg.ensures refl) (c.unwrap_or-in-loop-i.ensures ∙ rw c.decimal_at-ds.ensures refl)

pub shape_of-numbers : goal.shape_of-numbers
shape_of-numbers c = c.loop-i.invariant.long

pub returns : goal.returns
returns c = let a = c.args in
    let s = c.loop-i in
    pairs_end number a.records 5 2 a.sheet.now a.numbers.now s.numbers s.next s.i s.invariant c.loop-i-test.false
