-- `plan_name_drawing::put_two_lines` meets its contract. Assumes nothing.
use native.Mathlib.Omega.{arith}
use Rattle.text_put.proofs.Putting.{put_as, then_put}
use Rattle.plan_bay_names.proofs.Fronts.{front_within}
use Rattle.plan_name_drawing.proofs.Sizes.{letters_fit, front_length, on_halves}
use Rattle.plan_name_drawing.proofs.put_two_lines.Goals as goal

pub slice_bounds-put_line-end : goal.slice_bounds-put_line-end
slice_bounds-put_line-end c = let a = c.args in
    front_length a.first a.text.now c.front_bytes-end.ensures

pub overflow_add-size : goal.overflow_add-size
overflow_add-size c = omega (arith, c.letter_size-size.ensures, letters_fit c.args.first)

pub slice_bounds-put_line-count : goal.slice_bounds-put_line-count
slice_bounds-put_line-count c = let a = c.args in
    omega (arith, c.front_bytes-end.ensures, front_within a.first a.text.now)

pub slice_bounds-put_line-start : goal.slice_bounds-put_line-start
slice_bounds-put_line-start c = let a = c.args in
    omega (arith, c.front_bytes-end.ensures, front_within a.first a.text.now)

pub returns : goal.returns
returns c = let a = c.args in
    put_as (on_halves a.first a.text.now c.letter_size-size.ensures c.front_bytes-end.ensures) (then_put c.put_line-next.ensures c.put_line.ensures)
