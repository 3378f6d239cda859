-- The shown hundredths are at most half a hundredth away from the energy. Assumes nothing.
use Prim.Native.Nat.{ℕ, ◌+◌, ◌*◌, ◌/◌, ◌≤◌, ◌<◌}
use mathlib.Core.Bool.{Bool}
use mathlib.Core.Path.{◌≡◌, sym, ◌∙◌, ap}
use native.Mathlib.Nat.{mul-pos, mul_comm, mul_assoc, div-mul-le_self, lt-div-mul-add}
use native.Mathlib.Omega.{arith}
use lib.Dec.{lit<}
use lib.Ieee.{fin, up, down}
use lib.Ieee.Fits.{down_pos}
use lib.IntN.{ℤ}
use Rattle.text_energy.specs.Hundredths.{hundredths}

-- a quotient's remainder is below the divisor
halves : (a d : ℕ) → 0 < d → (2 * ((a + d) / (2 * d)) * d ≤ a + d) × (a < 2 * ((a + d) / (2 * d)) * d + d)
halves a d p =
    let q = (a + d) / (2 * d) in
    let same : q * (2 * d) ≡ 2 * q * d = sym (mul_assoc q 2 d) ∙ ap (λ (n : ℕ). n * d) (mul_comm q 2) in
    let low = div-mul-le_self (a + d) (2 * d) in
    let high = lt-div-mul-add {a = a + d} {b = 2 * d} (mul-pos (lit< tt) p) in
    (omega arith, omega arith)

-- with v the size of the energy and c its hundredths: |100 · v − c| ≤ 1/2, written without fractions for v = m · up e / down e
pub within_half_a_hundredth : (negative : Bool) (m : ℕ) (e : ℤ)
    → (2 * hundredths (fin negative m e) * down e ≤ 200 * (m * up e) + down e) × (200 * (m * up e) < 2 * hundredths (fin negative m e) * down e + down e)
unfolding hundredths
within_half_a_hundredth negative m e = halves (200 * (m * up e)) (down e) (down_pos e)
