-- `text_decimals::digits_after` meets its contract. Assumes nothing.
use Rattle.std.proofs.Common.{◌≤◌, get_or, sym, refl, ◌∙◌, arith}
use Rattle.text_digits.specs.Digits.{digit}
use Rattle.text_digits.proofs.Worth.{digit_none, digit_some}
use Rattle.text_decimals.proofs.Digits.{read_starts, read_ends, read_stops, read_passes, read_goes_on}
use Rattle.text_decimals.proofs.digits_after.Goals as goal

pub loop-b-init : goal.loop-b-init
loop-b-init c = read_starts c.args.n c.args.digits.now c.requires

pub returns-in_err-d : goal.returns-in_err-d
returns-in_err-d c = let a = c.args in let s = c.loop-b in
    let none : 16 ≤ digit (get_or a.digits.now s.b-index 0) = digit_none _ (sym c.digit.ensures ∙ c.in_err-d.was) in
    c.from_residual.ensures ∙ read_stops a.n a.digits.now s.worth s.b-index s.invariant _ c.loop-b-test.true refl (omega arith)

pub returns-then-d-ge10 : goal.returns-then-d-ge10
returns-then-d-ge10 c = let a = c.args in let s = c.loop-b in
    let some = digit_some (get_or a.digits.now s.b-index 0) c.in_ok-d.d (sym c.digit.ensures ∙ c.in_ok-d.was) in
    read_stops a.n a.digits.now s.worth s.b-index s.invariant _ c.loop-b-test.true some.0 c.if-d-ge10.true

pub returns-then-worth-ge-TEN_TO_15 : goal.returns-then-worth-ge-TEN_TO_15
returns-then-worth-ge-TEN_TO_15 c = let a = c.args in let s = c.loop-b in
    let some = digit_some (get_or a.digits.now s.b-index 0) c.in_ok-d.d (sym c.digit.ensures ∙ c.in_ok-d.was) in
    read_passes a.n a.digits.now s.worth s.b-index s.invariant _ c.loop-b-test.true some.0 c.if-worth-ge-TEN_TO_15.true

pub loop-b-preserved : goal.loop-b-preserved
loop-b-preserved c = let a = c.args in let s = c.loop-b in
    let some = digit_some (get_or a.digits.now s.b-index 0) c.in_ok-d.d (sym c.digit.ensures ∙ c.in_ok-d.was) in
    read_goes_on a.n a.digits.now s.worth s.b-index s.invariant _ c.loop-b-test.true some.0 c.if-d-ge10.false c.if-worth-ge-TEN_TO_15.false

pub returns : goal.returns
returns c = let a = c.args in let s = c.loop-b in read_ends a.n a.digits.now s.worth s.b-index s.invariant c.loop-b-test.false
