-- `text_put::put_signed` meets its contract: the sign and the digits, put one after the other, are one text. Assumes nothing.
use Prim.Native.Nat.{ℕ}
use mathlib.Core.List.{[], ◌∷◌, ◌++◌}
use mathlib.Core.Path.{ap, ◌∙◌}
use mir.Facts.{to_z-of_z}
use mir.Syntax.{w32}
use mir.Val.{to_z, of_z}
use Rattle.text_put.specs.Puts.{number_text, signed_text}
use Rattle.text_put.proofs.Putting.{put_as, then_put}
use Rattle.text_put.proofs.Spelling.{text_up, text_down}
use Rattle.text_put.proofs.put_signed.Goals as goal

pub returns-then-n-lt0 : goal.returns-then-n-lt0
returns-then-n-lt0 c = let a = c.args in
    let size = c.from.ensures ∙ c.unsigned_abs.ensures.value in
    let text = ap (λ (k : ℕ). (45 ∷ []) ++ number_text k) size ∙ text_down (to_z w32 (of_z w32 a.n)) c.if-n-lt0.true ∙ ap signed_text (to_z-of_z c.ranges.n) in
    put_as text (then_put c.put_text-next.ensures c.put_number.ensures)

pub returns-else-n-lt0 : goal.returns-else-n-lt0
returns-else-n-lt0 c = let a = c.args in
    let size = c.from-else-n-lt0.ensures ∙ c.unsigned_abs-else-n-lt0.ensures.value in
    let text = ap number_text size ∙ text_up (to_z w32 (of_z w32 a.n)) c.if-n-lt0.false ∙ ap signed_text (to_z-of_z c.ranges.n) in
    put_as text c.put_number-else-n-lt0.ensures
