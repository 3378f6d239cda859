-- `name_base_list::Bases::find` meets its contract. The invariant: the bases that are left have the answer. Assumes nothing.
use mathlib.Core.Path.{◌∙◌, sym}
use native.Mathlib.Omega.{arith}
use lib.ListN.{length}
use Rattle.text_entries.proofs.InOrder.{here, later, nowhere, found_at, found_nowhere, first_within}
use Rattle.name_base_list.proofs.Within.{base_within}
use Rattle.name_base_list.proofs.Bases.find.Goals as goal

pub overflow_add-to-in-loop-j-2 : goal.overflow_add-to-in-loop-j-2
overflow_add-to-in-loop-j-2 c =
    omega (arith, base_within (length c.args.self.now.text.now) c.args.self.now.numbers.now c.args.self.now.count c.loop-j.j c.args.self.now.searchable.within c.loop-j-test.true)

pub slice_bounds-eq-end : goal.slice_bounds-eq-end
slice_bounds-eq-end c =
    omega (arith, base_within (length c.args.self.now.text.now) c.args.self.now.numbers.now c.args.self.now.count c.loop-j.j c.args.self.now.searchable.within c.loop-j-test.true)

pub returns-then-eq-clause-place : goal.returns-then-eq-clause-place
returns-then-eq-clause-place c = found_at (c.loop-j.invariant ∙ here _ _ _ c.loop-j-test.true (sym c.eq.ensures ∙ c.if-eq.true)) c.loop-j-test.true

pub returns-then-eq-clause-within : goal.returns-then-eq-clause-within
returns-then-eq-clause-within c = first_within _ _

pub loop-j-preserved : goal.loop-j-preserved
loop-j-preserved c = c.loop-j.invariant ∙ later _ _ _ c.loop-j-test.true (sym c.eq.ensures ∙ c.if-eq.false)

pub returns-clause-place : goal.returns-clause-place
returns-clause-place c =
    let none = c.loop-j.invariant ∙ nowhere _ _ _ c.loop-j-test.false in
    found_nowhere (omega arith)

pub returns-clause-within : goal.returns-clause-within
returns-clause-within c = first_within _ _
