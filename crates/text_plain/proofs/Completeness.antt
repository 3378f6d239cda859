-- A character is taken for one, by as many bytes as it has. Assumes nothing.
use Prim.Native.Nat.{ℕ, ◌+◌, ◌*◌, ◌≤◌, ◌<◌}
use mathlib.Core.Bool.{true, false}
use mathlib.Core.List.{List, ◌∷◌, ◌++◌}
use mathlib.Core.Path.{◌≡◌, refl, sym}
use native.Mathlib.Omega.{arith}
use borrow.Author.Tests.{leb-true, leb-false}
use lib.Dec.{leb}
use lib.ListN.{length}
use Rattle.text_plain.specs.Texts.{is_two, is_three, is_four, character_length}
use Rattle.text_plain.specs.Characters.{Allowed, tab, line_feed, carriage_return, ascii, below_surrogates, above_surrogates, far, Character, one, two, three, four}
use Rattle.text_plain.proofs.Characters.{one_byte, two_bytes, three_bytes, four_bytes}
use Rattle.text_plain.proofs.Tests.{cases, is_between_lem, too_high, Alone, is_alone_lem, not_alone, is_second_lem, is_third_lem}
use Rattle.text_plain.proofs.Tests as tests

-- what a number says of it where it is allowed: it is none of those that are left out
record Kept (p : ℕ) : Type 0 where
  no_control : 127 ≤ p → 160 ≤ p
  no_surrogate : 55296 ≤ p → 57344 ≤ p
  no_end : 65534 ≤ p → 65536 ≤ p
  no_more : p ≤ 1114111

small : {p : ℕ} → p ≤ 126 → Kept p
small few = record { no_control = λ h. omega arith; no_surrogate = λ h. omega arith; no_end = λ h. omega arith; no_more = omega arith }

kept : {p : ℕ} → Allowed p → Kept p
kept tab = small (omega arith)
kept line_feed = small (omega arith)
kept carriage_return = small (omega arith)
kept (ascii l m) = small m
kept (below_surrogates l m) = record { no_control = λ h. omega arith; no_surrogate = λ h. omega arith; no_end = λ h. omega arith; no_more = omega arith }
kept (above_surrogates l m) = record { no_control = λ h. omega arith; no_surrogate = λ h. omega arith; no_end = λ h. omega arith; no_more = omega arith }
kept (far l m) = record { no_control = λ h. omega arith; no_surrogate = λ h. omega arith; no_end = λ h. omega arith; no_more = omega arith }

-- ---- of one byte

alone : {p : ℕ} → p < 128 → Allowed p → Alone p
alone h tab = tests.tab
alone h line_feed = tests.line_feed
alone h carriage_return = tests.carriage_return
alone h (ascii l m) = tests.ascii (record { least = l; most = m })
alone h (below_surrogates l m) = absurd (omega arith)
alone h (above_surrogates l m) = absurd (omega arith)
alone h (far l m) = absurd (omega arith)

-- ---- of two

is_two_lem : (x y : ℕ) → y < 64 → 160 ≤ x * 64 + y → x * 64 + y < 2048 → is_two (192 + x) (128 + y) ≡ true
unfolding is_two
is_two_lem x y hy l m =
    rw (is_between_lem 194 223 (192 + x) (omega arith) (omega arith))
    (is_second_lem (192 + x) (128 + y) (omega arith) (omega arith) (λ e. omega arith) (λ e. omega arith) (λ e. omega arith) (λ e. omega arith) (λ e. omega arith))

not_two : (a b : ℕ) → 223 < a → is_two a b ≡ false
unfolding is_two
not_two a b h = rw (too_high 194 223 a h)

-- ---- of three

is_three_lem : (x y z : ℕ) → y < 64 → z < 64 → 2048 ≤ x * 4096 + y * 64 + z → Kept (x * 4096 + y * 64 + z) → x * 4096 + y * 64 + z < 65536
    → is_three (224 + x) (128 + y) (128 + z) ≡ true
unfolding is_three
is_three_lem x y z hy hz l k m =
    rw (is_between_lem 224 239 (224 + x) (omega arith) (omega arith))
    (rw (is_second_lem (224 + x) (128 + y) (omega arith) (omega arith) (λ e. omega arith) (λ e. omega arith) surrogate (λ e. omega arith) (λ e. omega arith))
    (is_third_lem (224 + x) (128 + y) (128 + z) (omega arith) (omega arith) end))
  where
    surrogate : 224 + x ≡ 237 → 128 + y ≤ 159
    surrogate e = cases (leb y 31) (λ t. let few = leb-true y 31 t in omega arith) (λ t. let many = leb-false y 31 t in let past = k.no_surrogate (omega arith) in omega arith)

    end : 224 + x ≡ 239 → 128 + y ≡ 191 → 128 + z ≤ 189
    end e f = cases (leb z 61) (λ t. let few = leb-true z 61 t in omega arith) (λ t. let many = leb-false z 61 t in let past = k.no_end (omega arith) in omega arith)

not_three : (a b c : ℕ) → 239 < a → is_three a b c ≡ false
unfolding is_three
not_three a b c h = rw (too_high 224 239 a h)

-- ---- of four

is_four_lem : (x y z w : ℕ) → y < 64 → z < 64 → w < 64 → 65536 ≤ x * 262144 + y * 4096 + z * 64 + w → x * 262144 + y * 4096 + z * 64 + w ≤ 1114111
    → is_four (240 + x) (128 + y) (128 + z) (128 + w) ≡ true
unfolding is_four
is_four_lem x y z w hy hz hw l m =
    rw (is_between_lem 240 244 (240 + x) (omega arith) (omega arith))
    (rw (is_second_lem (240 + x) (128 + y) (omega arith) (omega arith) (λ e. omega arith) (λ e. omega arith) (λ e. omega arith) (λ e. omega arith) (λ e. omega arith))
    (rw (is_between_lem 128 191 (128 + z) (omega arith) (omega arith)) (is_between_lem 128 191 (128 + w) (omega arith) (omega arith))))

-- ---- of any length

pub character_complete : {c : List ℕ} → Character c → (rest : List ℕ) → character_length (c ++ rest) ≡ length c
character_complete (one {p} h a) rest = sym (one_byte (p ∷ rest) refl (is_alone_lem p (alone h a)))
character_complete (two x y hy l m a) rest =
    let k = kept a in
    sym (two_bytes ((192 + x) ∷ (128 + y) ∷ rest) refl (not_alone (192 + x) (omega arith)) refl (is_two_lem x y hy (k.no_control (omega arith)) m))
character_complete (three x y z hy hz l m a) rest =
    sym (three_bytes ((224 + x) ∷ (128 + y) ∷ (128 + z) ∷ rest) refl (not_alone (224 + x) (omega arith)) refl (not_two (224 + x) (128 + y) (omega arith)) refl
    (is_three_lem x y z hy hz l (kept a) m))
character_complete (four x y z w hy hz hw l a) rest =
    let k = kept a in
    sym (four_bytes ((240 + x) ∷ (128 + y) ∷ (128 + z) ∷ (128 + w) ∷ rest) refl (not_alone (240 + x) (omega arith)) refl (not_two (240 + x) (128 + y) (omega arith)) refl
    (not_three (240 + x) (128 + y) (128 + z) (omega arith)) refl (is_four_lem x y z w hy hz hw l k.no_more))
