-- Laws of `Within`: distances add up, sums of near fractions are near, and a distance may be said in coarser parts. Assumes nothing.
use mathlib.Core.Path.{◌≡◌, ap}
use Prim.Native.Nat.{ℕ, ◌+◌, ◌*◌, ◌≤◌, ◌<◌}
use native.Mathlib.Nat.{mul_comm, mul-mul-mul_comm, mul-le-mul_right, le_of_mul-le-mul_right}
use native.Mathlib.Omega.{arith}
use lib.Ieee.{Float}
use Rattle.floats.specs.Fractions.{Fraction, sum, UpTo, Within, Close}
use Rattle.floats.proofs.Signed.{through}

pub within_self : {k d : ℕ} (a : Fraction) → Within k d a a
within_self a = record { above = omega arith; below = omega arith }

-- ---- from a to b, and from b to c
up_to_trans : (i j k u : ℕ) (a b c : Fraction) → 0 < b.per → i + j ≤ k → UpTo i u a b → UpTo j u b c → UpTo k u a c
up_to_trans i j k u a b c B K h g =
    let moved = b.plus * u + i * b.per in
    let all = through (a.plus * u) (a.less * u) a.per moved (b.less * u) b.per (c.plus * u + (i + j) * c.per) (c.less * u) c.per B (omega arith) (omega arith) in
    omega (arith, mul-le-mul_right (a.per * c.per) K)

pub within_trans : {i j u : ℕ} {a b c : Fraction} (k : ℕ) → 0 < b.per → i + j ≤ k → Within i u a b → Within j u b c → Within k u a c
within_trans {i} {j} {u} {a} {b} {c} k B K h g =
    record { above = up_to_trans i j k u a b c B K h.above g.above; below = up_to_trans j i k u c b a B (omega arith) g.below h.below }

-- ---- two sums, summand by summand
spread : (p e r c u : ℕ) → (p * e + r * c) * u ≡ p * u * e + r * u * c
spread p e r c u = omega arith

regrouped : (p c d k r e g n : ℕ) → (p * e + r * c) * (d * g) + (k * g + n * d) * (c * e) ≡ (p * d + k * c) * (e * g) + (r * g + n * e) * (c * d)
regrouped p c d k r e g n = omega arith

weighed : (a b c d x y i j : ℕ) → a ≤ c + i * y → b ≤ d + j * x → a * x + b * y ≤ c * x + d * y + (i + j) * (y * x)
weighed a b c d x y i j h f = omega (arith, mul-le-mul_right x h, mul-le-mul_right y f)

summands : (p l c q k d r m e s n g i j : ℕ)
    → p * d + k * c ≤ q * c + l * d + i * (c * d)
    → r * g + n * e ≤ s * e + m * g + j * (e * g)
    → (p * e + r * c) * (d * g) + (k * g + n * d) * (c * e) ≤ (q * g + s * d) * (c * e) + (l * e + m * c) * (d * g) + (i + j) * (c * e * (d * g))
summands p l c q k d r m e s n g i j h f =
    rw (regrouped p c d k r e g n, regrouped q d c l s g e m, mul_comm g e, mul_comm d c, mul-mul-mul_comm c e d g)
    (weighed (p * d + k * c) (r * g + n * e) (q * c + l * d) (s * e + m * g) (e * g) (c * d) i j h f)

up_to_sum : (i j u : ℕ) (a b c d : Fraction) → UpTo i u a b → UpTo j u c d → UpTo (i + j) u (sum a c) (sum b d)
up_to_sum i j u a b c d h g =
    rw (
      spread a.plus c.per c.plus a.per u,
      spread b.less d.per d.less b.per u,
      spread b.plus d.per d.plus b.per u,
      spread a.less c.per c.less a.per u,
    )
    (summands (a.plus * u) (a.less * u) a.per (b.plus * u) (b.less * u) b.per (c.plus * u) (c.less * u) c.per (d.plus * u) (d.less * u) d.per i j h g)

pub within_sum : {i j u : ℕ} {a b c d : Fraction} → Within i u a b → Within j u c d → Within (i + j) u (sum a c) (sum b d)
within_sum {i} {j} {u} {a} {b} {c} {d} h g = record { above = up_to_sum i j u a b c d h.above g.above; below = up_to_sum i j u b a d c h.below g.below }

-- ---- k / d, which is at most j / e
up_to_coarser : (k d j e : ℕ) (a b : Fraction) → 0 < d → k * e ≤ j * d → UpTo k d a b → UpTo j e a b
up_to_coarser k d j e a b D c h =
    let both = mul-le-mul_right e h in
    let parts = mul-le-mul_right (a.per * b.per) c in
    le_of_mul-le-mul_right (omega arith) D

within_coarser : {k d j e : ℕ} {a b : Fraction} → 0 < d → k * e ≤ j * d → Within k d a b → Within j e a b
within_coarser {k} {d} {j} {e} {a} {b} D c h = record { above = up_to_coarser k d j e a b D c h.above; below = up_to_coarser k d j e b a D c h.below }

pub close_coarser : {k d j e : ℕ} {x : Float} {a : Fraction} → 0 < d → k * e ≤ j * d → Close k d x a → Close j e x a
close_coarser D c h = record { finite = h.finite; near = within_coarser D c h.near }

-- ---- one number in two forms
abbrev pub Same : Fraction → Fraction → Type 0
Same a b = a.plus * b.per + b.less * a.per ≡ b.plus * a.per + a.less * b.per

pub within_same : (u : ℕ) (a b : Fraction) → Same a b → Within 0 u a b
within_same u a b e =
    let scaled = ap (λ n. n * u) e in
    record { above = omega arith; below = omega arith }

pub close_same : {k d : ℕ} {x : Float} {a b : Fraction} → 0 < a.per → Same a b → Close k d x a → Close k d x b
close_same {k} {d} {x} {a} {b} A e h = record { finite = h.finite; near = within_trans k A (omega arith) h.near (within_same d a b e) }
