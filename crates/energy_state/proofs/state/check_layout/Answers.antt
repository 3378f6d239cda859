-- `energy_state::state::check_layout` meets its contract: the length first, then the strands. Assumes nothing.
use mathlib.Core.Path.{◌∙◌, sym}
use lib.Dec.{ltb}
use native.Mathlib.Nat.{zero-add}
use borrow.Author.Tests.{eq-eqb}
use Rattle.units.specs.declared.refusal.Refusal.TheVariants.{Strand}
use Rattle.bay_table_checks.proofs.Placed.{placed, none_placed}
use Rattle.energy_state.proofs.state.check_layout.Goals as goal

pub returns-in-Some : goal.returns-in-Some
returns-in-Some c = let a = c.args in
    rw (
      eq-eqb _ _ c.if-layout-z.false,
      placed Strand 0 (λ t. ltb t a.z.strands) a.layout.now _ (sym c.first_not_below.ensures ∙ c.in-Some.is),
      zero-add,
    )

pub returns-in-None : goal.returns-in-None
returns-in-None c = let a = c.args in
    rw (
      eq-eqb _ _ c.if-layout-z.false,
      none_placed Strand 0 (λ t. ltb t a.z.strands) a.layout.now (sym c.first_not_below.ensures ∙ c.in-None.is),
    )
