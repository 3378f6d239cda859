-- Laws of the size of letters, and of a name on one line or on two. Assumes nothing.
use Prim.Native.Nat.{ℕ, ◌+◌, ◌-◌, ◌/◌, ◌≤◌, ◌<◌}
use mathlib.Core.Bool.{Bool, true, false, cond}
use mathlib.Core.List.{List, ◌++◌}
use mathlib.Core.Path.{◌≡◌, sym}
use native.Mathlib.Omega.{arith}
use borrow.Author.Tests.{lt-ltb, le-ltb}
use native.Mathlib.Nat.{div-le_self}
use borrow.Author.Rules.{part_to_end}
use lib.Dec.{ltb}
use lib.ListN.{length, take, drop}
use lib.Seq.{length-take-le}
use Rattle.plan_bay_names.specs.Bays.{character_count, front_bytes}
use Rattle.plan_bay_names.proofs.Fronts.{front_within}
use Rattle.plan_name_drawing.specs.Letters.{letter_size, line, one_line, two_lines, label}

-- no letter is larger than 100
pub letters_fit : (count : ℕ) → letter_size count ≤ 100
unfolding letter_size
letters_fit count = go (ltb count 7) (ltb count 101)
  where
    go : (a b : Bool) → cond a 16 (cond b (100 / count) 1) ≤ 100
    go true b = omega arith
    go false true = div-le_self 100 count
    go false false = omega arith

module _ (name : List ℕ) {count : ℕ} (e : count ≡ character_count name) where
  pub on_one_line : count < 11 → {size : ℕ} → size ≡ letter_size count → one_line size name ≡ label name
  unfolding label
  on_one_line h s = let few : character_count name < 11 = omega arith in rw (lt-ltb (character_count name) 11 few, s, e)

  pub on_two_lines : 11 ≤ count → two_lines (count - count / 2) name ≡ label name
  unfolding label
  on_two_lines h = let many : 11 ≤ character_count name = omega arith in rw (le-ltb (character_count name) 11 many, e)

-- a text in two parts, the first of so many characters
module _ (first : ℕ) (text : List ℕ) {end : ℕ} where
  pub front_length : end ≡ front_bytes first text → end ≡ length (take end text)
  front_length e = let within = front_within first text in sym (length-take-le end text (omega arith))

  pub on_halves : {size : ℕ} → size ≡ letter_size first → end ≡ front_bytes first text
      → line 33 size (take end text) ++ line (35 + size) size (take (length text - end) (drop end text)) ≡ two_lines first text
  on_halves s e = rw (part_to_end text end, s, e)
