-- A sheet put at the front of a text with room for it. Assumes nothing.
use Prim.Native.Nat.{ℕ, ◌+◌, ◌-◌, ◌^◌, ◌≤◌, ◌<◌, min}
use mathlib.Core.List.{List}
use mathlib.Core.Path.{◌≡◌, ◌∙◌}
use native.Mathlib.Omega.{arith}
use lib.ListN.{length}
use lib.Seq.{take-length}
use Rattle.text_put.specs.Puts.{written, Put}
use Rattle.sheet_cells.specs.Cells.{front}
use Rattle.sheet_text.specs.Lengths.{capped}

-- a text that is put at the start of a slice with room for it is the slice's front
front_written : (old text : List ℕ) → length text ≤ length old → written old 0 text ≡ front text old
unfolding written
front_written old text h =
    let all : min (length text) (length old - 0) ≡ length text = omega arith in
    let from : 0 + length text ≡ length text = omega arith in
    rw (all, take-length text, from)

-- a slice is shorter than the largest usize, so that a need at which it is not stopped is the whole
pub filled : (need : ℕ) (sheet old : List ℕ) → need ≡ capped (length sheet) → need ≤ length old → length old < 2 ^ 63 → (r : ℕ) (new : List ℕ) → Put old 0 sheet r new
    → (r ≡ need) × (new ≡ front sheet old)
filled need sheet old e h small r new p =
    let fits : length sheet ≤ length old = omega arith in
    ((let place = p.place in omega arith), p.slice ∙ front_written old sheet fits)
