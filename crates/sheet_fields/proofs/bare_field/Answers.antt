-- `sheet_fields::bare_field` meets its contract. Assumes nothing.
use mathlib.Core.List.{List}
use mathlib.Core.Path.{◌≡◌, sym, ap, ◌∙◌}
use native.Mathlib.Omega.{arith}
use Prim.Native.Nat.{ℕ, ◌+◌, ◌-◌, ◌≤◌}
use lib.ListN.{length, take, drop, length-drop}
use lib.Seq.{drop-drop, take_all}
use Rattle.std.specs.Option.{option_map}
use Rattle.sheet_fields.specs.Fields.{plain_length, ending_of}
use Rattle.sheet_fields.specs.Answers.{ending_answer}
use Rattle.sheet_fields.proofs.Scanning.{plain_within, front_fits, width_fits, bare_found, closed}
use Rattle.sheet_fields.proofs.bare_field.Goals as goal

-- the plain bytes are counted within what they are counted in
within : (t : List ℕ) (n : ℕ) → n ≡ plain_length t → n ≤ length t
within t n e = rw e (plain_within t)

-- what is found of the bytes behind the plain ones, as the code cuts them, is found of the text there
found_behind : {A : Type 0} (f : List ℕ → A) (text field : List ℕ) (at n : ℕ) (found end : A) → field ≡ drop at text
    → found ≡ f (take (length field - n) (drop n field)) → found ≡ end → f (drop (at + n) text) ≡ end
found_behind f text field at n found end e found_is end_is =
    let cut : take (length field - n) (drop n field) ≡ drop (at + n) text = take_all (length field - n) (drop n field) (omega (arith, length-drop n field)) ∙ rw e (drop-drop n at text) in
    ap f (sym cut) ∙ sym found_is ∙ end_is

pub slice_bounds-ending_of-count : goal.slice_bounds-ending_of-count
slice_bounds-ending_of-count c = omega (arith, within c.rest-field.result.now c.plain_length-length.result c.plain_length-length.ensures)

pub slice_bounds-ending_of-start : goal.slice_bounds-ending_of-start
slice_bounds-ending_of-start c = omega (arith, within c.rest-field.result.now c.plain_length-length.result c.plain_length-length.ensures)

pub overflow_add-to : goal.overflow_add-to
overflow_add-to c = let a = c.args in
    let n = c.plain_length-length.result in
    let fits : n ≤ length (drop a.at a.text.now) = within (drop a.at a.text.now) n cc in
    omega (arith, front_fits a.text.now a.at n fits (omega arith) (omega arith))

pub returns-in_err-ending : goal.returns-in_err-ending
returns-in_err-ending c = let a = c.args in
    let n = c.plain_length-length.result in
    let to = a.at + n in
    let p : to ≡ a.at + plain_length (drop a.at a.text.now) = cc in
    let none = found_behind (λ (t : List ℕ). ending_answer (ending_of t)) a.text.now c.rest-field.result.now a.at n _ _ c.rest-field.ensures c.ending_of.ensures c.in_err-ending.was in
    c.from_residual.ensures ∙ sym (bare_found a.text.now a.at to p ∙ ap (option_map (closed a.at to to)) none)

pub overflow_add-result : goal.overflow_add-result
overflow_add-result c = let a = c.args in
    let n = c.plain_length-length.result in
    let to = a.at + n in
    let some = found_behind (λ (t : List ℕ). ending_answer (ending_of t)) a.text.now c.rest-field.result.now a.at n _ _ c.rest-field.ensures c.ending_of.ensures c.in_ok-ending.was in
    let fits = front_fits a.text.now a.at n (within (drop a.at a.text.now) n cc) (omega arith) (omega arith) in
    omega (arith, width_fits a.text.now to c.in_ok-ending.ending some (omega arith) (omega arith))

pub returns : goal.returns
returns c = let a = c.args in
    let n = c.plain_length-length.result in
    let to = a.at + n in
    let p : to ≡ a.at + plain_length (drop a.at a.text.now) = cc in
    let some = found_behind (λ (t : List ℕ). ending_answer (ending_of t)) a.text.now c.rest-field.result.now a.at n _ _ c.rest-field.ensures c.ending_of.ensures c.in_ok-ending.was in
    sym (bare_found a.text.now a.at to p ∙ ap (option_map (closed a.at to to)) some)
