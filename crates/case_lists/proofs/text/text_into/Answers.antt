-- `text::text_into` meets its contract. The loop's invariant: the signs before `at` have been read, as `Filling` says. Assumes nothing.
use Prim.Native.Nat.{◌-◌}
use mathlib.Core.Bool.{true}
use mathlib.Core.List.{[], ◌∷◌}
use mathlib.Core.Path.{◌≡◌, sym, ◌∙◌}
use native.Mathlib.Omega.{arith}
use lib.ListN.{take, drop}
use Rattle.case_lists.specs.Text.{signs, is_sign, byte_of}
use Rattle.case_lists.proofs.Filling.{Filling, filling_starts, filling_goes_on, filling_stops, filled_before, filling_is_full, filled_full, filling_ends, filled_all}
use Rattle.case_lists.proofs.Signs.{sign_of_lem, sign_not, sign_small, no_signs}
use Rattle.case_lists.proofs.text.text_into.Goals as goal

pub loop-at-init : goal.loop-at-init
loop-at-init c = let a = c.args in (omega arith, filling_starts is_sign byte_of (signs a.value.now) a.out.now)

pub shape_of-out-then-out-n : goal.shape_of-out-then-out-n
shape_of-out-then-out-n c = c.loop-at.invariant.1.long

pub returns-then-out-n : goal.returns-then-out-n
returns-then-out-n c = let a = c.args in
    let ws = signs a.value.now in
    let e = c.sign_end-end.result in
    let f : Filling is_sign byte_of (signs a.value.now) a.out.now (take (e - c.loop-at.at) (drop c.loop-at.at a.value.now) ∷ signs (drop e a.value.now)) c.loop-at.out c.loop-at.n = rw c.sign_end-end.ensures.split at c.loop-at.invariant.1 in
    record {
      value = filling_is_full is_sign byte_of ws a.out.now c.loop-at.out c.loop-at.n _ _ f (omega (arith, c.loop-at.invariant.1.long, c.if-out-n.true));
      out_after = filled_full is_sign byte_of ws a.out.now c.loop-at.out c.loop-at.n _ _ f (omega (arith, c.loop-at.invariant.1.long, c.if-out-n.true));
    }

pub overflow_cast-out : goal.overflow_cast-out
overflow_cast-out c =
    let part = take (c.sign_end-end.result - c.loop-at.at) (drop c.loop-at.at c.args.value.now) in
    let r : (is_sign part ≡ true) × (byte_of part ≡ c.in_ok-out.field-0) = sign_of_lem _ c.in_ok-out.field-0 (sym c.sign.ensures ∙ c.in_ok-out.was) in
    let same = r.1 in
    omega (arith, sign_small part r.0)

pub returns-in_err-out : goal.returns-in_err-out
returns-in_err-out c = let a = c.args in
    let ws = signs a.value.now in
    let bad = sign_not _ (sym c.sign.ensures ∙ c.in_err-out.was) in
    let e = c.sign_end-end.result in
    let f : Filling is_sign byte_of (signs a.value.now) a.out.now (take (e - c.loop-at.at) (drop c.loop-at.at a.value.now) ∷ signs (drop e a.value.now)) c.loop-at.out c.loop-at.n = rw c.sign_end-end.ensures.split at c.loop-at.invariant.1 in
    record {
      value = c.from_residual.ensures ∙ filling_stops is_sign byte_of ws a.out.now c.loop-at.out c.loop-at.n _ _ f bad;
      out_after = filled_before is_sign byte_of ws a.out.now c.loop-at.out c.loop-at.n _ _ f bad;
    }

pub loop-at-preserved : goal.loop-at-preserved
loop-at-preserved c = let a = c.args in
    (c.sign_end-end.ensures.within, filling_goes_on is_sign byte_of (signs a.value.now) a.out.now c.loop-at.out c.loop-at.n _ _ ((rw c.sign_end-end.ensures.split at c.loop-at.invariant.1)) c.in_ok-out.field-0 ((sign_of_lem _ c.in_ok-out.field-0 (sym c.sign.ensures ∙ c.in_ok-out.was))) ((omega (arith, c.loop-at.invariant.1.long, c.if-out-n.false))))

pub shape_of-out : goal.shape_of-out
shape_of-out c = c.loop-at.invariant.1.long

pub returns : goal.returns
returns c = let a = c.args in
    let value = a.value.now in
    let last : Filling is_sign byte_of (signs value) a.out.now [] c.loop-at.out c.loop-at.n = rw (no_signs value c.loop-at.at c.loop-at-test.false) at c.loop-at.invariant.1 in
    record {
      value = filling_ends is_sign byte_of (signs value) a.out.now c.loop-at.out c.loop-at.n last;
      out_after = filled_all is_sign byte_of (signs value) a.out.now c.loop-at.out c.loop-at.n last;
    }
