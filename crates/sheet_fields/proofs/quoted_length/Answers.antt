-- `sheet_fields::quoted_length` meets its contract. Assumes nothing.
use native.Mathlib.Omega.{arith}
use Rattle.sheet_fields.proofs.Scanning.{quoted_stops, quoted_next, quoted_room}
use Rattle.sheet_fields.proofs.quoted_length.Goals as goal

pub returns-then-step-eq0 : goal.returns-then-step-eq0
returns-then-step-eq0 c = let l = c.loop-passed in
    let s = c.quoted_step-step in
    omega (arith, l.invariant, quoted_stops c.args.text.now l.passed s.result s.ensures c.if-step-eq0.true)

pub overflow_add-passed : goal.overflow_add-passed
overflow_add-passed c = let l = c.loop-passed in
    let s = c.quoted_step-step in
    omega (arith, l.invariant, quoted_room c.args.text.now l.passed s.result s.ensures l.invariant.within)

pub loop-passed-smaller : goal.loop-passed-smaller
loop-passed-smaller c = let l = c.loop-passed in
    let s = c.quoted_step-step in
    let room = quoted_room c.args.text.now l.passed s.result s.ensures l.invariant.within in
    omega (arith, c.if-step-eq0.false)

pub loop-passed-preserved : goal.loop-passed-preserved
loop-passed-preserved c = let l = c.loop-passed in
    let text = c.args.text.now in
    let s = c.quoted_step-step in
    record {
      whole = omega (arith, l.invariant.whole, quoted_next text l.passed s.result s.ensures c.if-step-eq0.false);
      within = quoted_room text l.passed s.result s.ensures l.invariant.within;
    }
