-- `key_tables::put_seconds` meets its contract. The loop's invariant is `InSeconds`: the flags that are left end the table. Assumes nothing.
use Rattle.sheet_keys.proofs.Seconds.{seconds_start, seconds_go_on, seconds_end}
use borrow.Author.Rules.{rules}
use Rattle.sheet_keys.proofs.key_tables.put_seconds.Goals as goal

pub loop-i-init : goal.loop-i-init
loop-i-init c = let a = c.args in seconds_start a.records a.present.now a.paired.now

pub bounds-paired-i : goal.bounds-paired-i
bounds-paired-i c = let s = c.loop-i in let long = s.invariant.long in search rules

pub loop-i-preserved : goal.loop-i-preserved
loop-i-preserved c = let a = c.args in
    let s = c.loop-i in
    seconds_go_on a.records a.present.now a.paired.now s.paired s.i s.invariant c.loop-i-test.true

pub shape_of-paired : goal.shape_of-paired
shape_of-paired c = c.loop-i.invariant.long

pub returns : goal.returns
returns c = let a = c.args in
    let s = c.loop-i in
    seconds_end a.records a.present.now a.paired.now s.paired s.i s.invariant c.loop-i-test.false
