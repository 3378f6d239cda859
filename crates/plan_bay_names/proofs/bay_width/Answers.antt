-- `plan_bay_names::bay_width` meets its contract. Assumes nothing.
use mathlib.Core.Path.{◌∙◌}
use borrow.Author.Tests.{eq-eqb, ne_eqb}
use Rattle.plan_bay_names.specs.Bays.{bay_text, begun, character_count}
use Rattle.plan_bay_names.proofs.bay_width.Goals as goal

pub returns-then-tile-eq0 : goal.returns-then-tile-eq0
unfolding bay_text begun character_count
returns-then-tile-eq0 c = rw (eq-eqb _ _ c.if-tile-eq0.true)

pub returns : goal.returns
unfolding bay_text
returns c = c.characters.ensures ∙ rw (c.name_of.ensures, ne_eqb _ _ c.if-tile-eq0.false)
