-- `ledger_run::clear::clear` meets its contract. The invariant: the first i places are cleared, and the rest is as it was. Assumes nothing.
use mathlib.Core.Path.{◌≡◌, ap, ◌∙◌}
use native.Mathlib.Omega.{arith}
use lib.ListN.{replicate}
use Rattle.ledger_block.specs.Block.{over}
use Rattle.ledger_run.proofs.Clearing.{clearing_starts, clearing_turns}
use Rattle.ledger_run.proofs.clear.clear.Goals as goal

pub loop-i-init : goal.loop-i-init
loop-i-init g c = clearing_starts c.args.blank c.args.table.now

pub loop-i-preserved : goal.loop-i-preserved
loop-i-preserved g c = clearing_turns c.args.blank c.args.table.now c.loop-i.table c.loop-i.i c.loop-i.invariant (omega (arith, c.loop-i-test.true, c.requires))

pub returns : goal.returns
returns g c = let all : c.loop-i.i ≡ c.args.count = omega arith in
    c.loop-i.invariant ∙ ap (λ n. over c.args.table.now 0 (replicate n c.args.blank)) all
