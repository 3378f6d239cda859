-- `key_faults::check_keys` meets its contract. The loop's invariant is `InKeys`: the records passed are keys. Assumes nothing.
use mathlib.Core.Path.{sym, ◌∙◌}
use Rattle.sheet_keys.proofs.Checking.{keys_start, keys_stop, keys_go_on, keys_end}
use Rattle.sheet_keys.proofs.key_faults.check_keys.Goals as goal

pub loop-i-init : goal.loop-i-init
loop-i-init c = let a = c.args in keys_start a.records a.sheet.now

pub returns-in-Some : goal.returns-in-Some
returns-in-Some c = let a = c.args in
    let s = c.loop-i in
    keys_stop a.records a.sheet.now s.next s.i s.invariant c.loop-i-test.true _ (sym c.in-Some.is ∙ c.key_fault.ensures)

pub loop-i-preserved : goal.loop-i-preserved
loop-i-preserved c = let a = c.args in
    let s = c.loop-i in
    keys_go_on a.records a.sheet.now s.next s.i s.invariant c.loop-i-test.true (sym c.in_default.is ∙ c.key_fault.ensures) c.place_after-next.result c.place_after-next.ensures

pub returns : goal.returns
returns c = let a = c.args in
    let s = c.loop-i in
    keys_end a.records a.sheet.now s.next s.i s.invariant c.loop-i-test.false
