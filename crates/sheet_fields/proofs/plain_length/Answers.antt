-- `sheet_fields::plain_length` meets its contract. Assumes nothing.
use Rattle.std.proofs.Common.{ℕ, not, ◌∙◌, rules, tests}
use Rattle.std.proofs.lemmas.Iterator.{YieldsList-from_slice}
use Rattle.std.proofs.lemmas.Iterator.Search.{position_from_yields_List}
use Rattle.sheet_fields.specs.Fields.{is_plain}
use Rattle.sheet_fields.proofs.Scanning.{end_of_plain}
use Rattle.sheet_fields.proofs.plain_length.Goals as goal

pub returns : goal.returns
returns c =
    let text = c.args.text.now in
    let first = position_from_yields_List (λ (b : ℕ). not (is_plain b)) _ _ _ c.position.ensures.ran (YieldsList-from_slice text cc) (λ x b q k. search (rules, tests)) in
    c.unwrap_or.ensures ∙ end_of_plain text c.position.result first
