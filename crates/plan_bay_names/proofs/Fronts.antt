-- Laws of the first characters of a text: a walk over its bytes, and that they lie within it. Assumes nothing.
use Prim.Native.Nat.{ℕ, suc, ◌+◌, ◌-◌, ◌≤◌, ◌<◌}
use mathlib.Core.Bool.{Bool, true, false, cond}
use mathlib.Core.List.{List, [], ◌∷◌}
use mathlib.Core.Path.{◌≡◌}
use native.Mathlib.Numerals.{add-one}
use native.Mathlib.Omega.{arith}
use borrow.Author.Tests.{lt-ltb, le-ltb}
use lib.Dec.{ltb}
use lib.ListN.{length, get_or, drop, drop_of_length-le}
use lib.Seq.{drop-cons}
use Rattle.plan_bay_names.specs.Bays.{begun, front_bytes}

pub front_within : (count : ℕ) (text : List ℕ) → front_bytes count text ≤ length text
unfolding front_bytes
front_within count [] = omega arith
front_within count (byte ∷ bytes) = go (ltb count (begun byte)) (front_within (count - begun byte) bytes)
  where
    go : (t : Bool) {n : ℕ} → n ≤ length bytes → cond t 0 (suc n) ≤ suc (length bytes)
    go true h = omega arith
    go false h = omega arith

module _ (text : List ℕ) (count left i : ℕ) (s : i + front_bytes left (drop i text) ≡ front_bytes count text) where
  module _ (h : i < length text) {b : ℕ} (e : b ≡ begun (get_or text i 0)) where
    no_more : left < b → front_bytes left (drop i text) ≡ 0
    unfolding front_bytes
    no_more k = let small : left < begun (get_or text i 0) = omega arith in rw (drop-cons text i 0 h, lt-ltb left (begun (get_or text i 0)) small)

    pub front_found : left < b → i ≡ front_bytes count text
    front_found k = omega (arith, no_more k)

    one_more : b ≤ left → front_bytes left (drop i text) ≡ suc (front_bytes (left - b) (drop (i + 1) text))
    unfolding front_bytes
    one_more k = let large : begun (get_or text i 0) ≤ left = omega arith in rw (drop-cons text i 0 h, le-ltb left (begun (get_or text i 0)) large, add-one i, e)

    pub front_goes_on : b ≤ left → i + 1 + front_bytes (left - b) (drop (i + 1) text) ≡ front_bytes count text
    front_goes_on k = omega (arith, one_more k)

  none_left : length text ≤ i → front_bytes left (drop i text) ≡ 0
  unfolding front_bytes
  none_left h = rw (drop_of_length-le text h)

  pub front_ends : length text ≤ i → i ≡ front_bytes count text
  front_ends h = omega (arith, none_left h)
