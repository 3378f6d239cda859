-- `text_digits::whole` meets its contract: a turn stops at a byte that is no digit or where the worth passes 2^64. Assumes nothing.
use native.Mathlib.Omega.{arith}
use Rattle.std.proofs.Common.{◌≡◌, ◌+◌, ◌*◌, ◌^◌, ◌<◌, ◌≤◌, get_or, refl, sym, ◌∙◌}
use Rattle.text_digits.specs.Digits.{digit}
use Rattle.text_digits.proofs.Worth.{digit_none, digit_some, reading_starts, reading_ends, reading_stops, reading_passes, reading_goes_on}
use Rattle.text_digits.proofs.whole.Goals as goal

pub loop-b-init : goal.loop-b-init
loop-b-init c = reading_starts c.args.base c.args.value.now

pub returns-in_err-d : goal.returns-in_err-d
returns-in_err-d c = let a = c.args in let s = c.loop-b in
    let none : 16 ≤ digit (get_or a.value.now s.b-index 0) = digit_none _ (sym c.digit.ensures ∙ c.in_err-d.was) in
    c.from_residual.ensures ∙ reading_stops a.base a.value.now s.n s.b-index s.invariant _ c.loop-b-test.true refl (omega (arith, c.requires))

pub returns-then-base-d : goal.returns-then-base-d
returns-then-base-d c = let a = c.args in let s = c.loop-b in
    let some = digit_some (get_or a.value.now s.b-index 0) c.in_ok-d.d (sym c.digit.ensures ∙ c.in_ok-d.was) in
    reading_stops a.base a.value.now s.n s.b-index s.invariant _ c.loop-b-test.true some.0 c.if-base-d.true

pub returns-in_err-checked_mul : goal.returns-in_err-checked_mul
returns-in_err-checked_mul c = let a = c.args in let s = c.loop-b in
    let some = digit_some (get_or a.value.now s.b-index 0) c.in_ok-d.d (sym c.digit.ensures ∙ c.in_ok-d.was) in
    let past : 2 ^ 64 ≤ s.n * a.base + c.in_ok-d.d = (let over : s.n * a.base < 2 ^ 64 → ⊥ = c.in_err-checked_mul.ensures in omega arith) in
    c.from_residual-in_err-checked_mul.ensures ∙ reading_passes a.base a.value.now s.n s.b-index s.invariant _ c.loop-b-test.true some.0 (omega (arith, c.requires)) past

pub returns-in_err-n : goal.returns-in_err-n
returns-in_err-n c = let a = c.args in let s = c.loop-b in
    let some = digit_some (get_or a.value.now s.b-index 0) c.in_ok-d.d (sym c.digit.ensures ∙ c.in_ok-d.was) in
    let past : 2 ^ 64 ≤ s.n * a.base + c.in_ok-d.d = (let one = c.in_ok-checked_mul.ensures in let over : c.in_ok-checked_mul.field-0 + c.in_ok-d.d < 2 ^ 64 → ⊥ = c.in_err-n.ensures in omega arith) in
    c.from_residual-in_err-n.ensures ∙ reading_passes a.base a.value.now s.n s.b-index s.invariant _ c.loop-b-test.true some.0 (omega (arith, c.requires)) past

pub loop-b-preserved : goal.loop-b-preserved
loop-b-preserved c = let a = c.args in let s = c.loop-b in
    let some = digit_some (get_or a.value.now s.b-index 0) c.in_ok-d.d (sym c.digit.ensures ∙ c.in_ok-d.was) in
    let same : s.n * a.base + c.in_ok-d.d ≡ c.in_ok-n.n = omega (arith, c.in_ok-n.ensures, c.in_ok-checked_mul.ensures) in
    let fits : s.n * a.base + c.in_ok-d.d < 2 ^ 64 = omega (arith, c.in_ok-n.ensures, c.in_ok-checked_mul.ensures) in
    rw same at (reading_goes_on a.base a.value.now s.n s.b-index s.invariant _ c.loop-b-test.true some.0 c.if-base-d.false fits)

pub returns : goal.returns
returns c = reading_ends c.args.base c.args.value.now c.loop-b.n c.loop-b.b-index c.loop-b.invariant c.loop-b-test.false
