-- `text::sign_end` meets its contract: each way out is a case of where a sign ends. Assumes nothing.
use Rattle.case_lists.proofs.Signs.{ends_plain, ends_short, ends_three}
use Rattle.case_lists.proofs.text.sign_end.Goals as goal

pub returns-then-value-at-ne37 : goal.returns-then-value-at-ne37
returns-then-value-at-ne37 c = ends_plain c.args.value.now c.args.at c.requires c.if-value-at-ne37.true

pub returns-then-value-at-lt3 : goal.returns-then-value-at-lt3
returns-then-value-at-lt3 c = ends_short c.args.value.now c.args.at c.requires c.if-value-at-ne37.false c.if-value-at-lt3.true

pub returns : goal.returns
returns c = ends_three c.args.value.now c.args.at c.requires c.if-value-at-ne37.false c.if-value-at-lt3.false
