-- `fields::value_in` meets its contract: the search from the front ends at the first `=`. Assumes nothing.
use Prim.Native.Nat.{ℕ, suc, ◌+◌, ◌-◌, ◌≤◌}
use mathlib.Core.List.{List, []}
use mathlib.Core.Path.{◌≡◌, refl, sym, ◌∙◌}
use native.Mathlib.Numerals.{add-one}
use native.Mathlib.Omega.{arith}
use lib.ListN.{length, take, drop, length-drop, drop_of_length-le}
use lib.Seq.{take-length}
use Rattle.case_text.specs.Places.{place_of}
use Rattle.case_text.specs.Fields.{value_in}
use Rattle.case_text.proofs.Cuts.{place_first}
use Rattle.case_text.proofs.fields.value_in.Goals as goal

module _ (word : List ℕ) (n : ℕ) (p : n ≡ place_of 61 word 0) where
  no_value : n ≡ length word → [] ≡ value_in word
  unfolding value_in
  no_value e = let s = p ∙ place_first 61 word in let past : length word ≤ suc n = omega arith in rw (← s) (sym (drop_of_length-le word past))

  a_value : take (length word - (n + 1)) (drop (n + 1) word) ≡ value_in word
  unfolding value_in
  a_value = let s = p ∙ place_first 61 word in rw (← s, add-one, ← length-drop (suc n) word, take-length)

pub slice_bounds-result-end : goal.slice_bounds-result-end
slice_bounds-result-end c = refl

pub returns-then-n-word : goal.returns-then-n-word
returns-then-n-word c = no_value c.args.word.now c.place_of-n.result c.place_of-n.ensures.value c.if-n-word.true

pub returns : goal.returns
returns c = a_value c.args.word.now c.place_of-n.result c.place_of-n.ensures.value
