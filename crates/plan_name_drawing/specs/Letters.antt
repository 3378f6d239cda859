-- A name in the middle of a square of 72 pixels. Assumes nothing.
use Rattle.std.specs.Prelude.{ℕ, ◌+◌, ◌-◌, ◌/◌, cond, List, ◌++◌, ltb, take, drop}
use Rattle.text_put.specs.Words.{bytes}
use Rattle.text_put.specs.Forms.{filled}
use Rattle.plan_bay_names.specs.Bays.{character_count, front_bytes}
use Rattle.plan_name_drawing.specs.Escaped.{escaped}

-- the size of letters of which so many fit into the square side by side: at most 16, at least 1
unfoldable pub letter_size : (count : ℕ) → ℕ
letter_size count = cond (ltb count 7) 16 (cond (ltb count 101) (100 / count) 1)

-- letters of a size on one line, so many pixels down
abbrev pub line : (down size : ℕ) → (text : List ℕ) → List ℕ
line down size text = filled down size (bytes "<text class=\"name\" x=\"36\" y=\"$\" font-size=\"@\">") ++ escaped text ++ bytes "</text>"

-- a text on one line, and on two of which the first has so many characters
abbrev pub one_line : (size : ℕ) → (text : List ℕ) → List ℕ
one_line size text = line (36 + size / 3) size text

abbrev pub two_lines : (first : ℕ) → (text : List ℕ) → List ℕ
two_lines first text =
    line 33 (letter_size first) (take (front_bytes first text) text)
    ++ line (35 + letter_size first) (letter_size first) (drop (front_bytes first text) text)

-- a name: on one line as far as ten characters, else its halves on two
unfoldable pub label : (name : List ℕ) → List ℕ
label name =
    let count = character_count name in
    cond (ltb count 11) (one_line (letter_size count) name) (two_lines (count - count / 2) name)
