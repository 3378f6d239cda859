-- `coded::put_byte` meets its contract: a plain byte by itself, any other by its two digits. Assumes nothing.
use mathlib.Core.Path.{sym, ◌∙◌}
use Rattle.text_put.proofs.Putting.{put_as, then_put}
use Rattle.case_answer_lists.proofs.Bytes.{plain_byte, hidden_byte}
use Rattle.case_answer_lists.proofs.coded.put_byte.Goals as goal

pub returns-then-is_plain : goal.returns-then-is_plain
returns-then-is_plain c = let b = c.args.byte in
    put_as (plain_byte b (sym c.is_plain.ensures ∙ c.if-is_plain.true)) c.put_text.ensures

pub returns : goal.returns
returns c = let spelt = c.hex-k.ensures in
    put_as (hidden_byte c.args.byte c.hex-k.result _ (sym c.is_plain.ensures ∙ c.if-is_plain.false) c.ranges.byte.fits spelt.len spelt.digits)
    (then_put c.put_text-sign.ensures c.put_text-2.ensures)
