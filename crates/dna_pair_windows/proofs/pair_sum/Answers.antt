-- `dna_pair_windows::pair_sum` meets its contract. The invariant: the sum is that of the windows that end before place i. Assumes nothing.
use Rattle.std.proofs.Common.{◌≡◌, ◌∙◌, sym, ap, ◌+◌, ◌-◌, ◌≤◌, length, arith, rules}
use Rattle.std.proofs.lemmas.Result.{IfOk-at_ok, err_from_is_err_and}
use Rattle.dna_pair_windows.specs.declared.PairSum.{PairSum}
use Rattle.dna_pair_windows.specs.Windows.{windows_sum, after_window}
use Rattle.dna_pair_windows.proofs.Windows.{windows_more, ended}
use Rattle.dna_pair_windows.proofs.pair_sum.Goals as goal

pub loop-i-init : goal.loop-i-init
unfolding windows_sum
loop-i-init c = search rules

pub returns-in_err-sum : goal.returns-in_err-sum
returns-in_err-sum c = let l = c.loop-i in
    let more = windows_more c.args.a.now c.args.b.now l.i l.sum (omega arith) l.invariant.sum in
    let here = more ∙ ap (after_window l.sum) (sym c.ending_at.ensures) ∙ sym c.after_window.ensures.sum ∙ c.in_err-sum.was in
    let p = err_from_is_err_and c.from_residual.result c.from_residual.ensures.1 in
    rw (p.1, p.2) (sym (ended c.args.a.now c.args.b.now l.i (length c.args.a.now - 1) _ (omega arith) here))

pub loop-i-preserved : goal.loop-i-preserved
loop-i-preserved c = let l = c.loop-i in
    let more = windows_more c.args.a.now c.args.b.now l.i l.sum (omega arith) l.invariant.sum in
    let one_more = IfOk-at_ok (λ (s : PairSum). s.bad ≤ l.sum.bad + 1) c.in_ok-sum.was c.after_window.ensures.one_more in
    let next : l.i + 1 - 1 ≡ l.i = omega arith in
    record {
      in_range = omega arith;
      sum = rw next (more ∙ ap (after_window l.sum) (sym c.ending_at.ensures) ∙ sym c.after_window.ensures.sum ∙ c.in_ok-sum.was);
      bad = omega arith;
    }

pub returns : goal.returns
returns c = let last : length c.args.a.now - 1 ≡ c.loop-i.i - 1 = omega arith in
    rw last (sym c.loop-i.invariant.sum)
