-- `plan_reasons::rules::strand_rule` meets its contract, by the strand's number, the bay's seed, its glue and its list. Assumes nothing.
use Prim.Native.Nat.{ℕ}
use mathlib.Core.List.{List}
use mathlib.Core.Path.{◌∙◌, ap}
use Rattle.bay_system.specs.System.{system_of}
use Rattle.bay_lists.specs.Lists.{constraints_of, list_allows}
use Rattle.plan_reasons.proofs.Chains.{no_strand, seeded_bay, unseeded_bay}
use Rattle.plan_reasons.proofs.rules.strand_rule.Goals as goal

pub returns-then-system-strand : goal.returns-then-system-strand
returns-then-system-strand c = let a = c.args in
    no_strand (system_of a.system.now) (constraints_of a.constraints.now) a.bay a.strand c.if-system-strand.true

pub returns-in-Some : goal.returns-in-Some
returns-in-Some c = let a = c.args in
    seeded_bay (system_of a.system.now) (constraints_of a.constraints.now) a.bay a.strand c.if-system-strand.false c.seed_at.ensures
    (c.list_allows-allowed.ensures ∙ ap (λ (l : List ℕ). list_allows l a.strand) c.bay_list-list.ensures)
    c.in-Some.is c.seed_rule.ensures

pub returns-in-None : goal.returns-in-None
returns-in-None c = let a = c.args in
    unseeded_bay (system_of a.system.now) (constraints_of a.constraints.now) a.bay a.strand c.if-system-strand.false c.seed_at.ensures
    (c.list_allows-allowed.ensures ∙ ap (λ (l : List ℕ). list_allows l a.strand) c.bay_list-list.ensures)
    c.in-None.is c.scaffold_glue_at-glue.ensures c.glue_rule.ensures
