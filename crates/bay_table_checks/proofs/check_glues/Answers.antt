-- `bay_table_checks::check_glues` meets its contract: strand glues first, then the scaffold. Assumes nothing.
use mathlib.Core.Path.{◌∙◌, sym}
use native.Mathlib.Nat.{zero-add}
use lib.Dec.{ltb}
use lib.ListN.{length}
use Rattle.units.specs.declared.refusal.Refusal.TheVariants.{Glue}
use Rattle.bay_table_checks.proofs.Placed.{placed, none_placed}
use Rattle.bay_table_checks.proofs.check_glues.Goals as goal

pub returns-in-Some : goal.returns-in-Some
returns-in-Some c = let a = c.args in
    rw (placed Glue 0 (λ g. ltb g a.glues) a.strand_glues.now _ (sym c.first_not_below.ensures ∙ c.in-Some.is), zero-add)

pub returns-in-Some-first_not_below : goal.returns-in-Some-first_not_below
returns-in-Some-first_not_below c = let a = c.args in
    rw (
      none_placed Glue 0 (λ g. ltb g a.glues) a.strand_glues.now (sym c.first_not_below.ensures ∙ c.in_default.is),
      placed Glue (length a.strand_glues.now) (λ g. ltb g a.glues) a.scaffold.now _ (sym c.first_not_below-2.ensures ∙ c.in-Some-first_not_below.is),
    )

pub returns : goal.returns
returns c = let a = c.args in
    rw (
      none_placed Glue 0 (λ g. ltb g a.glues) a.strand_glues.now (sym c.first_not_below.ensures ∙ c.in_default.is),
      none_placed Glue (length a.strand_glues.now) (λ g. ltb g a.glues) a.scaffold.now (sym c.first_not_below-2.ensures ∙ c.in_default-first_not_below.is),
    )
