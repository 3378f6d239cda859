-- `text_put::put_float` meets its contract: the digits that `io` makes of the bits are the float's text. Assumes nothing.
use mathlib.Core.Path.{sym, ◌∙◌}
use Rattle.text_put.proofs.Putting.{put_as}
use Rattle.text_put.proofs.Spelling.{float_text_lem, nan_text}
use Rattle.text_put.proofs.put_float.Goals as goal

pub returns-then-is_nan : goal.returns-then-is_nan
returns-then-is_nan c = put_as (nan_text c.args.x (sym c.is_nan.ensures.value ∙ c.if-is_nan.true)) c.put_text.ensures

pub returns : goal.returns
returns c = let a = c.args in
    let spelt = c.hex-k.ensures in
    let text = spelt.digits ∙ float_text_lem a.x c.hex-k.result (sym c.is_nan.ensures.value ∙ c.if-is_nan.false) c.well_formed.1.1.0.1 spelt.len in
    put_as text c.put_text-2.ensures
