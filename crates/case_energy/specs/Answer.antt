-- The line that answers a case of `state_g`. Assumes nothing.
use Rattle.std.specs.Prelude.{ℕ, ◌^◌, Bool, cond, List, is_some}
use Rattle.text_digits.specs.Digits.{worth, is_number}
use Rattle.text_put.specs.Words.{bytes}
use Rattle.case_text.specs.Fields.{words, first_field}
use Rattle.case_lists.specs.Lists.{items, values}
use Rattle.case_fields.specs.Values.{field_count}
use Rattle.case_answer_lines.specs.Lines.{unreadable_text}
use Rattle.case_replies.specs.Replies.{energy_text}
use Rattle.bay_system.specs.System.{System}
use Rattle.energy_state.specs.StateG.{state_g}

-- whether the field `layout` is a list of numbers below 2^32, of which there are at most 1,089
abbrev pub readable_layout : (line : List ℕ) → Bool
readable_layout line = is_some (field_count (is_number (2 ^ 32)) items (bytes "layout") line 1089)

-- the numbers of that field
abbrev pub layout_in : (line : List ℕ) → List ℕ
layout_in line = values (is_number (2 ^ 32)) (worth 10 0) (items (first_field (bytes "layout") (words line)))

-- the energy of the layout on a system, or `unreadable`
abbrev pub answer_text : System → (line : List ℕ) → List ℕ
answer_text s line = cond (readable_layout line) (energy_text (state_g s (layout_in line))) unreadable_text
