-- What the tests on bytes say, as facts about numbers, both ways. Assumes nothing.
use Prim.Native.Nat.{ℕ, ◌≤◌, ◌<◌}
use mathlib.Core.Bool.{Bool, true, false}
use mathlib.Core.Path.{◌≡◌, refl}
use native.Mathlib.Omega.{arith}
use borrow.Author.Tests.{ne_eqb, le-leb, lt-leb, leb-true, eqb-true, eqb-false}
use lib.Dec.{eqb, leb}
use Rattle.units.proofs.Tests.{and_left, and_right, and_false}
use Rattle.text_plain.specs.Texts.{is_between, is_alone, is_second, is_third}

never : {A : Type 0} → false ≡ true → A
never e = let z : ◌≡◌ {A = ℕ} 0 1 = cc in absurd (omega arith)

pub record Between (low high b : ℕ) : Type 0 where
  pub least : low ≤ b
  pub most : b ≤ high

pub between_says : (low high b : ℕ) → is_between low high b ≡ true → Between low high b
unfolding is_between
between_says low high b e = record { least = leb-true low b (and_left (leb low b) (leb b high) e); most = leb-true b high (and_right (leb low b) (leb b high) e) }

pub is_between_lem : (low high b : ℕ) → low ≤ b → b ≤ high → is_between low high b ≡ true
unfolding is_between
is_between_lem low high b h k = rw (le-leb low b h, le-leb b high k)

pub too_high : (low high b : ℕ) → high < b → is_between low high b ≡ false
unfolding is_between
too_high low high b h = rw (lt-leb b high h) (and_false (leb low b))

-- a test, and what it says either way
pub cases : {A : Type 0} (p : Bool) → (p ≡ true → A) → (p ≡ false → A) → A
cases true f g = f refl
cases false f g = g refl

-- ---- one byte

pub data Alone : ℕ → Type 0 where
  tab : Alone 9
  line_feed : Alone 10
  carriage_return : Alone 13
  ascii : {b : ℕ} → Between 32 126 b → Alone b

pub alone_says : (b : ℕ) → is_alone b ≡ true → Alone b
unfolding is_alone
alone_says b e =
    cases (eqb b 9) (λ h. rw (eqb-true b 9 h) tab)
    (λ h. let e1 = rw h at e in cases (eqb b 10) (λ k. rw (eqb-true b 10 k) line_feed)
    (λ k. let e2 = rw k at e1 in cases (eqb b 13) (λ l. rw (eqb-true b 13 l) carriage_return)
    (λ l. let e3 = rw l at e2 in ascii (between_says 32 126 b e3))))

pub is_alone_lem : (b : ℕ) → Alone b → is_alone b ≡ true
unfolding is_alone
is_alone_lem _ tab = refl
is_alone_lem _ line_feed = refl
is_alone_lem _ carriage_return = refl
is_alone_lem b (ascii h) =
    simp (ne_eqb b 9 (λ e. omega arith), ne_eqb b 10 (λ e. omega arith), ne_eqb b 13 (λ e. omega arith)) (is_between_lem 32 126 b h.least h.most)

pub not_alone : (b : ℕ) → 127 ≤ b → is_alone b ≡ false
unfolding is_alone
not_alone b h =
    simp (ne_eqb b 9 (λ e. omega arith), ne_eqb b 10 (λ e. omega arith), ne_eqb b 13 (λ e. omega arith)) (too_high 32 126 b (omega arith))

-- ---- the second byte of a character

pub data Second (a b : ℕ) : Type 0 where
  after_c2 : a ≡ 194 → Between 160 191 b → Second a b
  after_e0 : a ≡ 224 → Between 160 191 b → Second a b
  after_ed : a ≡ 237 → Between 128 159 b → Second a b
  after_f0 : a ≡ 240 → Between 144 191 b → Second a b
  after_f4 : a ≡ 244 → Between 128 143 b → Second a b
  after_other : (a ≡ 194 → ⊥) → (a ≡ 224 → ⊥) → (a ≡ 237 → ⊥) → (a ≡ 240 → ⊥) → (a ≡ 244 → ⊥) → Between 128 191 b → Second a b

pub second_says : (a b : ℕ) → is_second a b ≡ true → Second a b
unfolding is_second
second_says a b e0 =
    cases (eqb a 194) (λ h. after_c2 (eqb-true a 194 h) (between_says 160 191 b (rw h at e0)))
    (λ n1. let e1 = rw n1 at e0 in cases (eqb a 224) (λ h. after_e0 (eqb-true a 224 h) (between_says 160 191 b (rw h at e1)))
    (λ n2. let e2 = rw n2 at e1 in cases (eqb a 237) (λ h. after_ed (eqb-true a 237 h) (between_says 128 159 b (rw h at e2)))
    (λ n3. let e3 = rw n3 at e2 in cases (eqb a 240) (λ h. after_f0 (eqb-true a 240 h) (between_says 144 191 b (rw h at e3)))
    (λ n4. let e4 = rw n4 at e3 in cases (eqb a 244) (λ h. after_f4 (eqb-true a 244 h) (between_says 128 143 b (rw h at e4)))
    (λ n5. after_other (eqb-false a 194 n1) (eqb-false a 224 n2) (eqb-false a 237 n3) (eqb-false a 240 n4) (eqb-false a 244 n5) (between_says 128 191 b (rw n5 at e4)))))))

pub is_second_lem : (a b : ℕ) → 128 ≤ b → b ≤ 191 → (a ≡ 194 → 160 ≤ b) → (a ≡ 224 → 160 ≤ b) → (a ≡ 237 → b ≤ 159) → (a ≡ 240 → 144 ≤ b) → (a ≡ 244 → b ≤ 143) → is_second a b ≡ true
unfolding is_second
is_second_lem a b l m c2 e0 ed f0 f4 =
    cases (eqb a 194) (λ h. rw h (is_between_lem 160 191 b (c2 (eqb-true a 194 h)) m))
    (λ n1. rw n1 (cases (eqb a 224) (λ h. rw h (is_between_lem 160 191 b (e0 (eqb-true a 224 h)) m))
    (λ n2. rw n2 (cases (eqb a 237) (λ h. rw h (is_between_lem 128 159 b l (ed (eqb-true a 237 h))))
    (λ n3. rw n3 (cases (eqb a 240) (λ h. rw h (is_between_lem 144 191 b (f0 (eqb-true a 240 h)) m))
    (λ n4. rw n4 (cases (eqb a 244) (λ h. rw h (is_between_lem 128 143 b l (f4 (eqb-true a 244 h))))
    (λ n5. rw n5 (is_between_lem 128 191 b l m))))))))))

-- ---- the last byte of three

pub data Third (a b c : ℕ) : Type 0 where
  low : Between 128 189 c → Third a b c
  not_ef : (a ≡ 239 → ⊥) → Between 128 191 c → Third a b c
  not_bf : (b ≡ 191 → ⊥) → Between 128 191 c → Third a b c

pub third_says : (a b c : ℕ) → is_third a b c ≡ true → Third a b c
unfolding is_third
third_says a b c e =
    cases (eqb a 239) (λ h. let e1 = rw h at e in cases (eqb b 191) (λ k. low (between_says 128 189 c (rw k at e1)))
    (λ k. not_bf (eqb-false b 191 k) (between_says 128 191 c (rw k at e1))))
    (λ h. not_ef (eqb-false a 239 h) (between_says 128 191 c (rw h at e)))

pub is_third_lem : (a b c : ℕ) → 128 ≤ c → c ≤ 191 → (a ≡ 239 → b ≡ 191 → c ≤ 189) → is_third a b c ≡ true
unfolding is_third
is_third_lem a b c l m ef =
    cases (eqb a 239) (λ h. rw h (cases (eqb b 191) (λ k. rw k (is_between_lem 128 189 c l (ef (eqb-true a 239 h) (eqb-true b 191 k)))) (λ k. rw k (is_between_lem 128 191 c l m))))
    (λ h. rw h (is_between_lem 128 191 c l m))
