-- `fields::has_key` meets its contract: the search from the front ends at the first `=`. Assumes nothing.
use Prim.Native.Nat.{ℕ, ◌<◌}
use mathlib.Core.Bool.{false}
use mathlib.Core.List.{List}
use mathlib.Core.Path.{◌≡◌, sym, ◌∙◌}
use native.Mathlib.Omega.{arith}
use borrow.Author.Tests.{lt-ltb, le-ltb}
use lib.ListN.{length, take}
use lib.Seq.{length-take-le}
use Rattle.case_text.specs.Places.{place_of}
use Rattle.text_entries.specs.Entries.{same_bytes}
use Rattle.case_text.specs.Fields.{has_key}
use Rattle.case_text.proofs.Cuts.{place_first}
use Rattle.case_text.proofs.fields.has_key.Goals as goal

no_sign : (key word : List ℕ) (n : ℕ) → n ≡ place_of 61 word 0 → n ≡ length word → false ≡ has_key key word
unfolding has_key
no_sign key word n p e = let s = p ∙ place_first 61 word in rw (← s, e, le-ltb (length word) (length word) (omega arith))

a_sign : (key word : List ℕ) (n : ℕ) → n ≡ place_of 61 word 0 → n < length word → same_bytes (take n word) key ≡ has_key key word
unfolding has_key
a_sign key word n p h = let s = p ∙ place_first 61 word in rw (← s, lt-ltb n (length word) h)

pub returns-then-n-word : goal.returns-then-n-word
returns-then-n-word c = let a = c.args in
    no_sign a.key.now a.word.now c.place_of-n.result c.place_of-n.ensures.value c.if-n-word.true

pub slice_bounds-same-end : goal.slice_bounds-same-end
slice_bounds-same-end c = sym (length-take-le c.place_of-n.result c.args.word.now c.place_of-n.ensures.onward.1)

pub returns : goal.returns
returns c = let a = c.args in
    c.same.ensures ∙ a_sign a.key.now a.word.now c.place_of-n.result c.place_of-n.ensures.value (omega (arith, c.place_of-n.ensures.onward.1, c.if-n-word.false))
