-- `sheet_fields::field_or_empty` meets its contract. Assumes nothing.
use Rattle.sheet_fields.proofs.Answers.{or_empty}
use Rattle.sheet_fields.proofs.field_or_empty.Goals as goal

pub returns : goal.returns
returns c = or_empty c.args.text.now c.args.at c.unwrap_or.result cc
