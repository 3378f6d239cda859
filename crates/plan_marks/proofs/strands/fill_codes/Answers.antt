-- `plan_marks::strands::fill_codes` meets its contract: each turn writes the code of one strand. Assumes nothing.
use Prim.Native.Nat.{ℕ}
use mathlib.Core.Path.{◌≡◌, ◌∙◌, ap}
use native.Mathlib.Omega.{arith}
use lib.ListN.{length}
use Rattle.bay_system.specs.System.{system_of}
use Rattle.bay_lists.specs.Lists.{constraints_of}
use Rattle.plan_reasons.specs.Reasons.{rule_of}
use Rattle.run_scan_tables.proofs.Written.{one_more, whole, none_yet}
use Rattle.plan_marks.specs.Marks.{code_of}
use Rattle.plan_marks.proofs.strands.fill_codes.Goals as goal

pub loop-strand-init : goal.loop-strand-init
loop-strand-init c = none_yet _

pub overflow_cast-strand : goal.overflow_cast-strand
overflow_cast-strand c = omega (arith, c.requires.given.grid.readable.few_strands)

pub strand_rule-requires : goal.strand_rule-requires
strand_rule-requires c = record { on_grid = c.requires.given.grid.on_grid c.args.bay c.requires.bay_in_bounds; shaped = c.requires.given.shaped }

pub loop-strand-preserved : goal.loop-strand-preserved
loop-strand-preserved c =
    one_more (λ (t : ℕ). code_of (rule_of (system_of c.args.system.now) (constraints_of c.args.constraints.now) c.args.bay t)) c.loop-strand.rules c.loop-strand.strand c.loop-strand.invariant (omega arith)
    (c.code_of.ensures ∙ ap code_of c.strand_rule.ensures)

pub returns : goal.returns
returns c = let s = system_of c.args.system.now in
    let long : length c.loop-strand.rules ≡ s.sizes.strands = c.loop-strand.auto.rules ∙ c.requires.rules_len in
    whole (λ (t : ℕ). code_of (rule_of s (constraints_of c.args.constraints.now) c.args.bay t)) c.loop-strand.rules c.loop-strand.strand s.sizes.strands c.loop-strand.invariant (omega arith) long
