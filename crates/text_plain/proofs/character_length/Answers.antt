-- `text_plain::character_length` meets its contract: each way through the tests is a case of the definition. Assumes nothing.
use mathlib.Core.Path.{sym, ◌∙◌}
use Rattle.text_plain.proofs.Characters.{one_byte, two_bytes, three_bytes, four_bytes, no_bytes}
use Rattle.text_plain.proofs.character_length.Goals as goal

pub returns-then-is_alone : goal.returns-then-is_alone
returns-then-is_alone c = one_byte c.args.text.now c.byte_at-first.ensures (sym c.is_alone.ensures ∙ c.if-is_alone.true)

pub returns-then-is_two : goal.returns-then-is_two
returns-then-is_two c = two_bytes c.args.text.now c.byte_at-first.ensures (sym c.is_alone.ensures ∙ c.if-is_alone.false)
    c.byte_at-second.ensures (sym c.is_two.ensures ∙ c.if-is_two.true)

pub returns-then-is_three : goal.returns-then-is_three
returns-then-is_three c = three_bytes c.args.text.now c.byte_at-first.ensures (sym c.is_alone.ensures ∙ c.if-is_alone.false)
    c.byte_at-second.ensures (sym c.is_two.ensures ∙ c.if-is_two.false)
    c.byte_at-third.ensures (sym c.is_three.ensures ∙ c.if-is_three.true)

pub returns-then-is_four : goal.returns-then-is_four
returns-then-is_four c = four_bytes c.args.text.now c.byte_at-first.ensures (sym c.is_alone.ensures ∙ c.if-is_alone.false)
    c.byte_at-second.ensures (sym c.is_two.ensures ∙ c.if-is_two.false)
    c.byte_at-third.ensures (sym c.is_three.ensures ∙ c.if-is_three.false)
    c.byte_at-fourth.ensures (sym c.is_four.ensures ∙ c.if-is_four.true)

pub returns : goal.returns
returns c = no_bytes c.args.text.now c.byte_at-first.ensures (sym c.is_alone.ensures ∙ c.if-is_alone.false)
    c.byte_at-second.ensures (sym c.is_two.ensures ∙ c.if-is_two.false)
    c.byte_at-third.ensures (sym c.is_three.ensures ∙ c.if-is_three.false)
    c.byte_at-fourth.ensures (sym c.is_four.ensures ∙ c.if-is_four.false)
