-- Laws of a walk over bytes and over bays: the characters counted so far, and the widest bay so far. Assumes nothing.
use Prim.Native.Nat.{ℕ, ◌+◌, ◌≤◌, ◌<◌, max}
use mathlib.Core.Bool.{Bool, true, false, cond}
use mathlib.Core.List.{List}
use mathlib.Core.Path.{◌≡◌}
use native.Mathlib.Numerals.{add-one}
use native.Mathlib.Omega.{arith}
use lib.Dec.{ltb}
use lib.ListN.{length, get_or, drop, drop_of_length-le}
use lib.Seq.{drop-cons}
use Rattle.std.proofs.Common.{nat_cmp}
use Rattle.std.proofs.lemmas.Bool.Decides.{nat_tests}
use Rattle.std.specs.Ordering.{ord_max}
use Rattle.name_strands.specs.Names.{StrandNames}
use Rattle.plan_bay_names.specs.Bays.{bay_text, begun, character_count, widest_bay}

-- a byte begins at most one character
pub begun_few : (byte : ℕ) → begun byte ≤ 1
unfolding begun
begun_few byte = go (ltb byte 128) (ltb byte 192)
  where
    go : (a b : Bool) → cond a 1 (cond b 0 1) ≤ 1
    go true b = omega arith
    go false true = omega arith
    go false false = omega arith

-- so many characters in the bytes before place i
pub record Counted (text : List ℕ) (count i : ℕ) : Type 0 where
  pub few : count ≤ i
  pub rest : count + character_count (drop i text) ≡ character_count text

module _ (text : List ℕ) where
  pub counted_starts : Counted text 0 0
  counted_starts = record { few = omega arith; rest = omega arith }

  module _ (count i : ℕ) (s : Counted text count i) where
    next_byte : i < length text → character_count (drop i text) ≡ begun (get_or text i 0) + character_count (drop (i + 1) text)
    unfolding character_count
    next_byte h = rw (drop-cons text i 0 h, add-one i)

    pub counted_goes_on : i < length text → {more : ℕ} → more ≡ begun (get_or text i 0) → Counted text (count + more) (i + 1)
    counted_goes_on h e =
        let f = s.few in
        let r = s.rest in
        record { few = omega (arith, begun_few (get_or text i 0)); rest = omega (arith, next_byte h) }

    no_byte : length text ≤ i → character_count (drop i text) ≡ 0
    unfolding character_count
    no_byte h = rw (drop_of_length-le text h)

    pub counted_ends : length text ≤ i → count ≡ character_count text
    counted_ends h = let r = s.rest in omega (arith, no_byte h)

-- the larger of two numbers
pub max_is : (a b : ℕ) → ord_max nat_cmp a b ≡ max a b
max_is a b = grind (arith, nat_tests)

module _ (n : StrandNames) (layout : List ℕ) (widest i : ℕ) (s : max widest (widest_bay n (drop i layout)) ≡ widest_bay n layout) where
  next_bay : i < length layout → widest_bay n (drop i layout) ≡ max (character_count (bay_text n (get_or layout i 0))) (widest_bay n (drop (i + 1) layout))
  unfolding widest_bay
  next_bay h = rw (drop-cons layout i 0 h, add-one i)

  pub widest_goes_on : i < length layout → {r width : ℕ} → width ≡ character_count (bay_text n (get_or layout i 0)) → r ≡ max widest width
      → max r (widest_bay n (drop (i + 1) layout)) ≡ widest_bay n layout
  widest_goes_on h e g = omega (arith, next_bay h)

  no_bay : length layout ≤ i → widest_bay n (drop i layout) ≡ 0
  unfolding widest_bay
  no_bay h = rw (drop_of_length-le layout h)

  pub widest_ends : length layout ≤ i → widest ≡ widest_bay n layout
  widest_ends h = omega (arith, no_bay h)
