-- What is taken for a character is one. Assumes nothing.
use Prim.Native.Nat.{ℕ, ◌+◌, ◌-◌, ◌*◌, ◌≤◌, ◌<◌}
use mathlib.Core.Bool.{Bool, true, false, cond, ◌&&◌}
use mathlib.Core.List.{List, [], ◌∷◌}
use mathlib.Core.Logic.{◌⊎◌, inl, inr, ⊎_elim}
use mathlib.Core.Path.{◌≡◌, refl, ap}
use native.Mathlib.Omega.{arith}
use borrow.Author.Tests.{leb-true, leb-false}
use lib.Dec.{leb}
use lib.ListN.{length, get_or, take}
use Rattle.text_plain.specs.Texts.{is_between, is_alone, is_second, is_two, is_third, is_three, is_four, width_of, character_length}
use Rattle.text_plain.specs.Characters.{Allowed, tab, line_feed, carriage_return, ascii, below_surrogates, above_surrogates, far, Character, one, two, three, four}
use Rattle.text_plain.proofs.Characters.{character_fits}
use Rattle.units.proofs.Tests.{and_left, and_right}
use Rattle.text_plain.proofs.Tests.{cases, Between, between_says, Alone, alone_says, Second, after_c2, after_e0, after_ed, after_f0, after_f4, after_other, second_says, Third, low, not_ef, not_bf, third_says}
use Rattle.text_plain.proofs.Tests as tests

-- ---- of one byte

alone_allowed : {b : ℕ} → Alone b → (b < 128) × Allowed b
alone_allowed tests.tab = (omega arith, tab)
alone_allowed tests.line_feed = (omega arith, line_feed)
alone_allowed tests.carriage_return = (omega arith, carriage_return)
alone_allowed (tests.ascii h) = (omega arith, ascii h.least h.most)

one_sound : (a : ℕ) → is_alone a ≡ true → Character (a ∷ [])
one_sound a e = let h = alone_allowed (alone_says a e) in one h.0 h.1

-- ---- of two, over the bits that the bytes hold

second_bounds : {a b : ℕ} → Second a b → Between 128 191 b
second_bounds (after_c2 e h) = record { least = omega arith; most = h.most }
second_bounds (after_e0 e h) = record { least = omega arith; most = h.most }
second_bounds (after_ed e h) = record { least = h.least; most = omega arith }
second_bounds (after_f0 e h) = record { least = omega arith; most = h.most }
second_bounds (after_f4 e h) = record { least = h.least; most = omega arith }
second_bounds (after_other c2 e0 ed f0 f4 h) = h

two_bits : (x y : ℕ) → Between 194 223 (192 + x) → Second (192 + x) (128 + y) → 160 ≤ x * 64 + y
two_bits x y f (after_c2 e h) = omega arith
two_bits x y f (after_e0 e h) = absurd (omega arith)
two_bits x y f (after_ed e h) = absurd (omega arith)
two_bits x y f (after_f0 e h) = absurd (omega arith)
two_bits x y f (after_f4 e h) = absurd (omega arith)
two_bits x y f (after_other c2 e0 ed f0 f4 h) = omega arith

two_made : (x y : ℕ) → Between 194 223 (192 + x) → Second (192 + x) (128 + y) → Character ((192 + x) ∷ (128 + y) ∷ [])
two_made x y f s = let h = second_bounds s in let l = two_bits x y f s in two x y (omega arith) (omega arith) (omega arith) (below_surrogates l (omega arith))

two_sound : (a b : ℕ) → is_two a b ≡ true → Character (a ∷ b ∷ [])
unfolding is_two
two_sound a b e =
    let f = between_says 194 223 a (and_left (is_between 194 223 a) (is_second a b) e) in
    let s = second_says a b (and_right (is_between 194 223 a) (is_second a b) e) in
    let h = second_bounds s in
    let ea : 192 + (a - 192) ≡ a = omega arith in
    let eb : 128 + (b - 128) ≡ b = omega arith in
    rw (ea, eb) at (two_made (a - 192) (b - 128) (rw ea f) (rw (ea, eb) s))

-- ---- of three

third_bounds : {a b c : ℕ} → Third a b c → Between 128 191 c
third_bounds (low h) = record { least = h.least; most = omega arith }
third_bounds (not_ef n h) = h
third_bounds (not_bf n h) = h

-- what the first two bytes hold: enough for three bytes, and no surrogate
record Front (u : ℕ) : Type 0 where
  many : 32 ≤ u
  beside : (u ≤ 863) ⊎ (896 ≤ u)

three_front : (x y : ℕ) → Between 224 239 (224 + x) → Second (224 + x) (128 + y) → Front (x * 64 + y)
three_front x y f (after_c2 e h) = absurd (omega arith)
three_front x y f (after_e0 e h) = record { many = omega arith; beside = inl (omega arith) }
three_front x y f (after_ed e h) = record { many = omega arith; beside = inl (omega arith) }
three_front x y f (after_f0 e h) = absurd (omega arith)
three_front x y f (after_f4 e h) = absurd (omega arith)
three_front x y f (after_other c2 e0 ed f0 f4 h) =
    record { many = omega arith; beside = cases (leb x 12) (λ k. let few = leb-true x 12 k in inl (omega arith)) (λ k. let many = leb-false x 12 k in inr (omega arith)) }

-- the last two numbers of three bytes are left out
three_end : (x y z : ℕ) → Between 224 239 (224 + x) → Between 128 191 (128 + y) → Third (224 + x) (128 + y) (128 + z) → x * 4096 + y * 64 + z ≤ 65533
three_end x y z f h (low k) = omega arith
three_end x y z f h (not_ef n k) = omega arith
three_end x y z f h (not_bf n k) = omega arith

three_made : (x y z : ℕ) → Between 224 239 (224 + x) → Second (224 + x) (128 + y) → Third (224 + x) (128 + y) (128 + z)
    → Character ((224 + x) ∷ (128 + y) ∷ (128 + z) ∷ [])
three_made x y z f s t =
    let h = second_bounds s in
    let k = third_bounds t in
    let g = three_front x y f s in
    let end = three_end x y z f h t in
    let m = g.many in
    three x y z (omega arith) (omega arith) (omega arith) (omega arith)
    (⊎_elim (λ l. below_surrogates {p = x * 4096 + y * 64 + z} (omega arith) (omega arith)) (λ l. above_surrogates {p = x * 4096 + y * 64 + z} (omega arith) end) g.beside)

three_sound : (a b c : ℕ) → is_three a b c ≡ true → Character (a ∷ b ∷ c ∷ [])
unfolding is_three
three_sound a b c e =
    let r = and_right (is_between 224 239 a) (is_second a b && is_third a b c) e in
    let f = between_says 224 239 a (and_left (is_between 224 239 a) (is_second a b && is_third a b c) e) in
    let s = second_says a b (and_left (is_second a b) (is_third a b c) r) in
    let t = third_says a b c (and_right (is_second a b) (is_third a b c) r) in
    let h = second_bounds s in
    let k = third_bounds t in
    let ea : 224 + (a - 224) ≡ a = omega arith in
    let eb : 128 + (b - 128) ≡ b = omega arith in
    let ec : 128 + (c - 128) ≡ c = omega arith in
    rw (ea, eb, ec) at (three_made (a - 224) (b - 128) (c - 128) (rw ea f) (rw (ea, eb) s) (rw (ea, eb, ec) t))

-- ---- of four

four_front : (x y : ℕ) → Between 240 244 (240 + x) → Second (240 + x) (128 + y) → Between 16 271 (x * 64 + y)
four_front x y f (after_c2 e h) = absurd (omega arith)
four_front x y f (after_e0 e h) = absurd (omega arith)
four_front x y f (after_ed e h) = absurd (omega arith)
four_front x y f (after_f0 e h) = record { least = omega arith; most = omega arith }
four_front x y f (after_f4 e h) = record { least = omega arith; most = omega arith }
four_front x y f (after_other c2 e0 ed f0 f4 h) = record { least = omega arith; most = omega arith }

four_made : (x y z w : ℕ) → Between 240 244 (240 + x) → Second (240 + x) (128 + y) → Between 128 191 (128 + z) → Between 128 191 (128 + w)
    → Character ((240 + x) ∷ (128 + y) ∷ (128 + z) ∷ (128 + w) ∷ [])
four_made x y z w f s t u =
    let h = second_bounds s in
    let g = four_front x y f s in
    four x y z w (omega arith) (omega arith) (omega arith) (omega arith) (far {p = x * 262144 + y * 4096 + z * 64 + w} (omega arith) (omega arith))

four_sound : (a b c d : ℕ) → is_four a b c d ≡ true → Character (a ∷ b ∷ c ∷ d ∷ [])
unfolding is_four
four_sound a b c d e =
    let last = is_between 128 191 c && is_between 128 191 d in
    let r = and_right (is_between 240 244 a) (is_second a b && last) e in
    let q = and_right (is_second a b) last r in
    let f = between_says 240 244 a (and_left (is_between 240 244 a) (is_second a b && last) e) in
    let s = second_says a b (and_left (is_second a b) last r) in
    let t = between_says 128 191 c (and_left (is_between 128 191 c) (is_between 128 191 d) q) in
    let u = between_says 128 191 d (and_right (is_between 128 191 c) (is_between 128 191 d) q) in
    let h = second_bounds s in
    let ea : 240 + (a - 240) ≡ a = omega arith in
    let eb : 128 + (b - 128) ≡ b = omega arith in
    let ec : 128 + (c - 128) ≡ c = omega arith in
    let ed : 128 + (d - 128) ≡ d = omega arith in
    rw (ea, eb, ec, ed) at (four_made (a - 240) (b - 128) (c - 128) (d - 128) (rw ea f) (rw (ea, eb) s) (rw ec t) (rw ed u))

-- ---- of so many as its length says

data Width (a b c d : ℕ) : ℕ → Type 0 where
  none : Width a b c d 0
  of_one : is_alone a ≡ true → Width a b c d 1
  of_two : is_two a b ≡ true → Width a b c d 2
  of_three : is_three a b c ≡ true → Width a b c d 3
  of_four : is_four a b c d ≡ true → Width a b c d 4

width_says : (a b c d : ℕ) → Width a b c d (width_of a b c d)
unfolding width_of
width_says a b c d = go (is_alone a) (is_two a b) (is_three a b c) (is_four a b c d) refl refl refl refl
  where
    go : (p q r s : Bool) → is_alone a ≡ p → is_two a b ≡ q → is_three a b c ≡ r → is_four a b c d ≡ s → Width a b c d (cond p 1 (cond q 2 (cond r 3 (cond s 4 0))))
    go true q r s h1 h2 h3 h4 = of_one h1
    go false true r s h1 h2 h3 h4 = of_two h2
    go false false true s h1 h2 h3 h4 = of_three h3
    go false false false true h1 h2 h3 h4 = of_four h4
    go false false false false h1 h2 h3 h4 = none

front_one : (t : List ℕ) → 1 ≤ length t → take 1 t ≡ get_or t 0 0 ∷ []
front_one [] h = absurd (omega arith)
front_one (a ∷ t) h = refl

front_two : (t : List ℕ) → 2 ≤ length t → take 2 t ≡ get_or t 0 0 ∷ get_or t 1 0 ∷ []
front_two [] h = absurd (omega arith)
front_two (a ∷ t) h = ap (λ (l : List ℕ). a ∷ l) (front_one t (omega arith))

front_three : (t : List ℕ) → 3 ≤ length t → take 3 t ≡ get_or t 0 0 ∷ get_or t 1 0 ∷ get_or t 2 0 ∷ []
front_three [] h = absurd (omega arith)
front_three (a ∷ t) h = ap (λ (l : List ℕ). a ∷ l) (front_two t (omega arith))

front_four : (t : List ℕ) → 4 ≤ length t → take 4 t ≡ get_or t 0 0 ∷ get_or t 1 0 ∷ get_or t 2 0 ∷ get_or t 3 0 ∷ []
front_four [] h = absurd (omega arith)
front_four (a ∷ t) h = ap (λ (l : List ℕ). a ∷ l) (front_three t (omega arith))

taken : (t : List ℕ) {n : ℕ} → Width (get_or t 0 0) (get_or t 1 0) (get_or t 2 0) (get_or t 3 0) n → n ≤ length t → 1 ≤ n → Character (take n t)
taken t none fits some = absurd (omega arith)
taken t (of_one h) fits some = rw (front_one t fits) (one_sound (get_or t 0 0) h)
taken t (of_two h) fits some = rw (front_two t fits) (two_sound (get_or t 0 0) (get_or t 1 0) h)
taken t (of_three h) fits some = rw (front_three t fits) (three_sound (get_or t 0 0) (get_or t 1 0) (get_or t 2 0) h)
taken t (of_four h) fits some = rw (front_four t fits) (four_sound (get_or t 0 0) (get_or t 1 0) (get_or t 2 0) (get_or t 3 0) h)

pub character_sound : (t : List ℕ) → 1 ≤ character_length t → Character (take (character_length t) t)
unfolding character_length
character_sound t some = taken t (width_says (get_or t 0 0) (get_or t 1 0) (get_or t 2 0) (get_or t 3 0)) (character_fits t) some
