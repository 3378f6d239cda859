-- `sheet_fields::quoted_field` meets its contract. Assumes nothing.
use mathlib.Core.Path.{◌≡◌, sym, ap, ◌∙◌}
use native.Mathlib.Omega.{arith}
use Prim.Native.Nat.{◌+◌, ◌≤◌}
use lib.ListN.{length, drop}
use Rattle.std.specs.Prelude.{Some, None}
use Rattle.std.specs.Option.{option_map}
use Rattle.sheet_fields.specs.Fields.{quoted_length, ending_of}
use Rattle.sheet_fields.specs.Answers.{ending_answer}
use Rattle.sheet_fields.proofs.Scanning.{quoted_within, front_fits, width_fits, quote_within, quoted_open, quoted_found, closed}
use Rattle.sheet_fields.proofs.quoted_field.Goals as goal

pub overflow_add-to : goal.overflow_add-to
overflow_add-to c = let a = c.args in
    let within : c.quoted_length.result ≤ length (drop (a.at + 1) a.text.now) = rw (c.quoted_length.ensures, c.rest.ensures) (quoted_within (drop (a.at + 1) a.text.now)) in
    omega (arith, front_fits a.text.now (a.at + 1) c.quoted_length.result within (omega arith) (omega arith))

pub returns-then-byte_at-ne34 : goal.returns-then-byte_at-ne34
returns-then-byte_at-ne34 c = let a = c.args in
    let to = a.at + 1 + c.quoted_length.result in
    let p : to ≡ a.at + 1 + quoted_length (drop (a.at + 1) a.text.now) = cc in
    sym (quoted_open a.text.now a.at to p (λ e. c.if-byte_at-ne34.true (c.byte_at.ensures ∙ e)))

pub overflow_add-close : goal.overflow_add-close
overflow_add-close c = let a = c.args in
    omega (arith, quote_within a.text.now (a.at + 1 + c.quoted_length.result) (sym c.byte_at.ensures ∙ c.if-byte_at-ne34.false))

pub returns-in_err-ending : goal.returns-in_err-ending
returns-in_err-ending c = let a = c.args in
    let to = a.at + 1 + c.quoted_length.result in
    let p : to ≡ a.at + 1 + quoted_length (drop (a.at + 1) a.text.now) = cc in
    let none : ending_answer (ending_of (drop (to + 1) a.text.now)) ≡ None = cc c.in_err-ending.was in
    c.from_residual.ensures ∙ sym (quoted_found a.text.now a.at to p (sym c.byte_at.ensures ∙ c.if-byte_at-ne34.false) ∙ ap (option_map (closed (a.at + 1) to (to + 1))) none)

pub overflow_add-result : goal.overflow_add-result
overflow_add-result c = let a = c.args in
    let to = a.at + 1 + c.quoted_length.result in
    let some : ending_answer (ending_of (drop (to + 1) a.text.now)) ≡ Some c.in_ok-ending.ending = cc c.in_ok-ending.was in
    let inside = quote_within a.text.now to (sym c.byte_at.ensures ∙ c.if-byte_at-ne34.false) in
    omega (arith, width_fits a.text.now (to + 1) c.in_ok-ending.ending some (omega arith) (omega arith))

pub returns : goal.returns
returns c = let a = c.args in
    let to = a.at + 1 + c.quoted_length.result in
    let p : to ≡ a.at + 1 + quoted_length (drop (a.at + 1) a.text.now) = cc in
    let some : ending_answer (ending_of (drop (to + 1) a.text.now)) ≡ Some c.in_ok-ending.ending = cc c.in_ok-ending.was in
    sym (quoted_found a.text.now a.at to p (sym c.byte_at.ensures ∙ c.if-byte_at-ne34.false) ∙ ap (option_map (closed (a.at + 1) to (to + 1))) some)
