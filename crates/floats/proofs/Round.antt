-- Rounding keeps the order of fractions of either sign, in either format, subnormal results and overflow to an infinity included.
-- The kit's `round_mono` has it for fractions that are not negative; a negative one rounds to the mirror image. Assumes nothing.
use mathlib.Core.Path.{◌≡◌, refl, sym, ◌∙◌, ap}
use mathlib.Core.Bool.{Bool, true, false, not, cond, false≢true}
use Prim.Native.Nat.{ℕ, zero, suc, ◌+◌, ◌*◌, ◌^◌, ◌≤◌, ◌<◌}
use native.Mathlib.Nat.{le_of_mul-le-mul_right}
use native.Mathlib.Omega.{arith}
use lib.IntN.{pos}
use lib.Dec.{ltb}
use lib.Ieee.{Float, nan, inf, fin, Format, binary32, binary64, prec, emax, low, up, down, odd, units, round, neg, le, is_nan}
use lib.Ieee.Fits.{round_is}
use lib.Ieee.Order.{round_mono, kept, drop}
use Rattle.floats.specs.Values.{Number}
use Rattle.floats.proofs.Tests.{T→true}
use Rattle.floats.proofs.Signed.{AtMost, at_most_mirror}
use Rattle.floats.proofs.Finite.{finite_le, finite_at_most}
use Rattle.floats.proofs.Order.{le_number_right, le_top, above_top, le_trans}

-- ---- the mirror image
odd_mirror : (d q k l : ℕ) → odd d true q k l ≡ neg (odd d false q k l)
unfolding odd neg
odd_mirror d zero k l = refl
odd_mirror d (suc q) k l = refl

units_mirror : (f : Format) (q k : ℕ) → units f true q k ≡ neg (units f false q k)
unfolding units neg
units_mirror f q k = go (ltb (q * 2 ^ k) (2 ^ (low f + suc (emax f))))
  where
    go : (b : Bool) → cond b (odd (suc (prec f)) true q k (low f)) (inf true) ≡ neg (cond b (odd (suc (prec f)) false q k (low f)) (inf false))
    go true = odd_mirror (suc (prec f)) q k (low f)
    go false = refl

pub round_mirror : (f : Format) (a c : ℕ) → round f true a c ≡ neg (round f false a c)
round_mirror f a c =
    let n = a * 2 ^ low f in
    round_is f true a c ∙ units_mirror f (kept (prec f) n c) (drop (prec f) n c) ∙ ap neg (sym (round_is f false a c))

neg_number : (x : Float) → Number x → Number (neg x)
unfolding neg is_nan
neg_number nan p = p
neg_number (inf s) p = refl
neg_number (fin s m e) p = refl

pub le_mirror : (x y : Float) → le x y ≡ true → le (neg y) (neg x) ≡ true
unfolding le neg
le_mirror nan y h = absurd (false≢true h)
le_mirror (inf true) y h = le_top (neg y) (neg_number y (le_number_right (inf true) y h))
le_mirror (inf false) y h = rw (above_top y h)
le_mirror (fin s m e) nan h = absurd (false≢true h)
le_mirror (fin s m e) (inf true) h = absurd (false≢true h)
le_mirror (fin s m e) (inf false) h = refl
le_mirror (fin s m e) (fin t n d) h =
    finite_le (not t) n d (not s) m e (at_most_mirror s (m * up e * down d) t (n * up d * down e) (finite_at_most s m e t n d h))

-- ---- fractions of one sign, and the zeros between the two signs
positive_mono : (f : Format) (a c b d : ℕ) → 0 < c → 0 < d → a * d ≤ b * c → le (round f false a c) (round f false b d) ≡ true
positive_mono f a c b d C D h = T→true _ (round_mono f a c b d C D h)

negative_mono : (f : Format) (a c b d : ℕ) → 0 < c → 0 < d → b * c ≤ a * d → le (round f true a c) (round f true b d) ≡ true
negative_mono f a c b d C D h =
    rw (round_mirror f a c, round_mirror f b d) (le_mirror (round f false b d) (round f false a c) (positive_mono f b d a c D C h))

round_zero : (f : Format) (s : Bool) → round f s 0 1 ≡ fin s 0 (pos 0)
unfolding round
round_zero binary32 s = refl
round_zero binary64 s = refl

zeros : (f : Format) (s : Bool) → le (round f s 0 1) (round f (not s) 0 1) ≡ true
unfolding le
zeros f true = rw (round_zero f true, round_zero f false)
zeros f false = rw (round_zero f true, round_zero f false)

-- ---- any two fractions
pub round_signed_mono : (f : Format) (s : Bool) (a c : ℕ) (t : Bool) (b d : ℕ)
    → 0 < c → 0 < d → AtMost s (a * d) t (b * c) → le (round f s a c) (round f t b d) ≡ true
round_signed_mono f false a c false b d C D h = positive_mono f a c b d C D (omega arith)
round_signed_mono f true a c true b d C D h = negative_mono f a c b d C D (omega arith)
round_signed_mono f true a c false b d C D h =
    le_trans (round f true a c) (round f true 0 1) (round f false b d) (negative_mono f a c 0 1 C (omega arith) (omega arith))
    (le_trans (round f true 0 1) (round f false 0 1) (round f false b d) (zeros f true) (positive_mono f 0 1 b d (omega arith) D (omega arith)))
round_signed_mono f false a c true b d C D h =
    let a_zero : a ≤ 0 = le_of_mul-le-mul_right (omega arith) D in
    let b_zero : b ≤ 0 = le_of_mul-le-mul_right (omega arith) C in
    le_trans (round f false a c) (round f false 0 1) (round f true b d) (positive_mono f a c 0 1 C (omega arith) (omega arith))
    (le_trans (round f false 0 1) (round f true 0 1) (round f true b d) (zeros f false) (negative_mono f 0 1 b d (omega arith) D (omega arith)))
