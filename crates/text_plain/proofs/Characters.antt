-- Laws of the character at the front of a text: how long it is by its tests, and that it lies within the text. Assumes nothing.
use Prim.Native.Nat.{ℕ, ◌≤◌}
use mathlib.Core.Bool.{Bool, true, false, cond}
use mathlib.Core.List.{List, [], ◌∷◌}
use mathlib.Core.Path.{◌≡◌, refl}
use native.Mathlib.Omega.{arith}
use lib.ListN.{length, get_or}
use Rattle.units.proofs.Tests.{and_false}
use Rattle.text_plain.specs.Texts.{is_between, is_alone, is_second, is_two, is_third, is_three, is_four, width_of, character_length}

-- ---- the length by the tests

module _ (t : List ℕ) {a : ℕ} (ea : a ≡ get_or t 0 0) where
  pub one_byte : is_alone a ≡ true → 1 ≡ character_length t
  unfolding character_length width_of
  one_byte h = rw (← ea, h)

  module _ (ha : is_alone a ≡ false) {b : ℕ} (eb : b ≡ get_or t 1 0) where
    pub two_bytes : is_two a b ≡ true → 2 ≡ character_length t
    unfolding character_length width_of
    two_bytes h = rw (← ea, ← eb, ha, h)

    module _ (hb : is_two a b ≡ false) {c : ℕ} (ec : c ≡ get_or t 2 0) where
      pub three_bytes : is_three a b c ≡ true → 3 ≡ character_length t
      unfolding character_length width_of
      three_bytes h = rw (← ea, ← eb, ← ec, ha, hb, h)

      module _ (hc : is_three a b c ≡ false) {d : ℕ} (ed : d ≡ get_or t 3 0) where
        pub four_bytes : is_four a b c d ≡ true → 4 ≡ character_length t
        unfolding character_length width_of
        four_bytes h = rw (← ea, ← eb, ← ec, ← ed, ha, hb, hc, h)

        pub no_bytes : is_four a b c d ≡ false → 0 ≡ character_length t
        unfolding character_length width_of
        no_bytes h = rw (← ea, ← eb, ← ec, ← ed, ha, hb, hc, h)

-- ---- a character lies within the text: no byte 0 goes on with one

cond_same : (p : Bool) → cond p false false ≡ false
cond_same true = refl
cond_same false = refl

not_alone : is_alone 0 ≡ false
unfolding is_alone is_between
not_alone = refl

no_second : (a : ℕ) → is_second a 0 ≡ false
unfolding is_second is_between
no_second a = simp cond_same

no_third : (a b : ℕ) → is_third a b 0 ≡ false
unfolding is_third is_between
no_third a b = simp cond_same

no_two : (a : ℕ) → is_two a 0 ≡ false
unfolding is_two
no_two a = simp (no_second, and_false)

no_three : (a b : ℕ) → is_three a b 0 ≡ false
unfolding is_three
no_three a b = simp (no_third, and_false)

no_four : (a b c : ℕ) → is_four a b c 0 ≡ false
unfolding is_four is_between
no_four a b c = simp and_false

up_to_four : (p q r s : Bool) → cond p 1 (cond q 2 (cond r 3 (cond s 4 0))) ≤ 4
up_to_four true q r s = omega arith
up_to_four false true r s = omega arith
up_to_four false false true s = omega arith
up_to_four false false false true = omega arith
up_to_four false false false false = omega arith

up_to_three : (p q r : Bool) → cond p 1 (cond q 2 (cond r 3 0)) ≤ 3
up_to_three true q r = omega arith
up_to_three false true r = omega arith
up_to_three false false true = omega arith
up_to_three false false false = omega arith

up_to_two : (p q : Bool) → cond p 1 (cond q 2 0) ≤ 2
up_to_two true q = omega arith
up_to_two false true = omega arith
up_to_two false false = omega arith

up_to_one : (p : Bool) → cond p 1 0 ≤ 1
up_to_one true = omega arith
up_to_one false = omega arith

pub character_fits : (t : List ℕ) → character_length t ≤ length t
unfolding character_length width_of
character_fits [] = rw (not_alone, no_two 0, no_three 0 0, no_four 0 0 0) (omega arith)
character_fits (a ∷ []) = rw (no_two a, no_three a 0, no_four a 0 0) (up_to_one (is_alone a))
character_fits (a ∷ b ∷ []) = rw (no_three a b, no_four a b 0) (up_to_two (is_alone a) (is_two a b))
character_fits (a ∷ b ∷ c ∷ []) = rw (no_four a b c) (up_to_three (is_alone a) (is_two a b) (is_three a b c))
character_fits (a ∷ b ∷ c ∷ d ∷ t) = let few = up_to_four (is_alone a) (is_two a b) (is_three a b c) (is_four a b c d) in omega arith
