-- `text_put::put_sign` meets its contract. Assumes nothing.
use native.Mathlib.Omega.{arith}
use borrow.Author.Tests.{eq-eqb, ne_eqb}
use Rattle.text_put.specs.Forms.{filled_byte}
use Rattle.text_put.proofs.Putting.{put_as}
use Rattle.text_put.proofs.put_sign.Goals as goal

pub returns-in-36 : goal.returns-in-36
unfolding filled_byte
returns-in-36 c = put_as (rw (eq-eqb _ _ c.in-36.is)) c.put_number.ensures

pub returns-in-64 : goal.returns-in-64
unfolding filled_byte
returns-in-64 c = put_as (rw (ne_eqb c.args.byte 36 (λ e. omega arith), eq-eqb _ _ c.in-64.is)) c.put_number-in-64.ensures

pub returns-in_default : goal.returns-in_default
unfolding filled_byte
returns-in_default c = put_as (rw (ne_eqb c.args.byte 36 (λ e. omega arith), ne_eqb c.args.byte 64 (λ e. omega arith))) c.put_text.ensures
