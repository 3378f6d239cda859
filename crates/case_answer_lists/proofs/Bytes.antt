-- Laws of a byte of a text as it is written. Assumes nothing.
use Prim.Native.Nat.{ℕ, ◌<◌}
use mathlib.Core.Bool.{true, false}
use mathlib.Core.List.{List, [], ◌∷◌, ◌++◌}
use mathlib.Core.Path.{◌≡◌}
use native.Mathlib.Omega.{arith}
use lib.Dec.{lit<, lit≤}
use Rattle.io.specs.Digits.{last_digits, IsDigitCount}
use Rattle.case_text.specs.Plain.{is_plain}
use Rattle.text_put.proofs.Spelling.{at_most}
use Rattle.case_answer_lists.specs.Coded.{coded_byte}

pub plain_byte : (b : ℕ) → is_plain b ≡ true → b ∷ [] ≡ coded_byte b
unfolding coded_byte
plain_byte b e = rw e

pub hidden_byte : (b k : ℕ) (spelt : List ℕ) → is_plain b ≡ false → b < 256 → IsDigitCount 16 2 b k → spelt ≡ last_digits 16 k b → (37 ∷ []) ++ spelt ≡ coded_byte b
unfolding coded_byte
hidden_byte b k spelt e small w s =
    let two : k ≡ 2 = let least = w.0 in omega (arith, at_most 16 2 b k 2 (lit< tt) w (lit≤ tt) (omega arith)) in
    rw (e, s, two)
