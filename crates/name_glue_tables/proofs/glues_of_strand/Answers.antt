-- `name_glue_tables::glues_of_strand` meets its contract. Assumes nothing.
use mathlib.Core.Path.{◌∙◌, sym}
use Rattle.name_glue_tables.proofs.Filling.{strand_above}
use Rattle.name_glue_tables.proofs.glues_of_strand.Goals as goal

pub returns : goal.returns
returns c = c.five_from.ensures ∙ sym (strand_above _ _ _ _ c.if-s-eq0.false)
