-- `ledger_rows::lower` meets its contract: a bad energy is taken, and of two good ones the better. Assumes nothing.
use mathlib.Core.Path.{sym, ◌∙◌}
use borrow.Author.Tests.{not-true, not-false}
use Rattle.ledger_rows.proofs.Choosing.{takes_bad, takes_better}
use Rattle.ledger_rows.proofs.lower.Goals as goal

pub returns-then-is_bad : goal.returns-then-is_bad
returns-then-is_bad c = let a = c.args in
    sym (takes_bad a.old a.new (not-true _ (sym c.is_bad.ensures ∙ c.if-is_bad.true)))

pub returns : goal.returns
returns c = let a = c.args in
    c.better_choice.ensures ∙ takes_better a.old a.new (not-false _ (sym c.is_bad.ensures ∙ c.if-is_bad.false))
