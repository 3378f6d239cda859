-- An energy as people read it: the nearest hundredth, and its text. Assumes nothing.
use Rattle.std.specs.Prelude.{ℕ, ◌+◌, ◌*◌, ◌/◌, ◌%◌, ◌^◌, Bool, false, cond, ◌&&◌, List, [], ◌∷◌, ◌++◌, ltb, Float, Option, Some, None}
use Rattle.std.specs.Float.{nan, inf, fin}
use Rattle.std.specs.Float.Ieee.{up, down}
use Rattle.text_put.specs.Puts.{number_text, float_text}
use Rattle.text_energy.specs.declared.Hundredths.{Hundredths}

-- a float's size in whole hundredths, the nearest number, a half counted up: m · 2^e is m · up e / down e
unfoldable pub hundredths : Float → ℕ
hundredths nan = 0
hundredths (inf negative) = 0
hundredths (fin negative m e) = (200 * (m * up e) + down e) / (2 * down e)

-- a size below 2^52: from there on a float has no hundredths
unfoldable pub is_small : Float → Bool
is_small nan = false
is_small (inf negative) = false
is_small (fin negative m e) = ltb (m * up e / down e) (2 ^ 52)

unfoldable pub is_negative : Float → Bool
is_negative nan = false
is_negative (inf negative) = negative
is_negative (fin negative m e) = negative

unfoldable pub nearest_hundredth : Float → Option Hundredths
nearest_hundredth x = cond (is_small x) (Some (record { negative = is_negative x; count = hundredths x })) None

-- two digits after a point
abbrev pub pointed : ℕ → List ℕ
pointed count = number_text (count / 100) ++ 46 ∷ (48 + count % 100 / 10) ∷ (48 + count % 10) ∷ []

-- kcal/mol with two decimals, a minus where it is below zero as shown; a float without hundredths by its bits
unfoldable pub energy_text : Float → List ℕ
energy_text x = cond (is_small x) (cond (is_negative x && ltb 0 (hundredths x)) (45 ∷ pointed (hundredths x)) (pointed (hundredths x))) (float_text x)
