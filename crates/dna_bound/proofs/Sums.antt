-- A running sum of printed decimals, each at most 2.24 in size, beside their exact sum. Each of up to 256 additions costs at most two roundings
-- of numbers below 1024, the decimal's own and the sum's, and each of these is off by at most 2 ^ -44: 512 of them are 2 ^ -35. Assumes nothing.
use mathlib.Core.Path.{◌≡◌, refl}
use mathlib.Core.Bool.{Bool, true, false}
use Prim.Native.Nat.{ℕ, zero, suc, ◌+◌, ◌*◌, ◌^◌, ◌≤◌}
use native.Mathlib.Omega.{arith}
use lib.Dec.{lit≤}
use lib.Ieee.{Float, binary64, add}
use Rattle.floats.specs.Fractions.{signed, nothing, sum, Within, Close}
use Rattle.floats.proofs.Add.{add_comm}
use Rattle.floats.proofs.Distances.{close_same, close_coarser}
use Rattle.floats.proofs.HalfUnit.{half_unit, sum_close}
use Rattle.units.specs.Decimals.{decimal, plus, minus}

-- the hundredths of each step, their total, and the decimals' rounded sum, grown as the program does
pub record Running (step total : ℕ → ℕ) (rounded : ℕ → Float) : Type 0 where
  pub small : (n : ℕ) → step n ≤ 224
  pub none : total 0 ≡ 0
  pub more : (n : ℕ) → total (suc n) ≡ total n + step n
  pub start : rounded 0 ≡ plus 0 1
  pub next : (n : ℕ) → rounded (suc n) ≡ add binary64 (minus (step n) 100) (rounded n)

-- a printed decimal of size 2.24 at most
decimal_close : (s : Bool) (n : ℕ) → n ≤ 224 → Close 1 (2 ^ 44) (decimal s n 100) (signed s n 100)
unfolding decimal
decimal_close s n h = (half_unit binary64).rounded s n 100 (lit≤ tt) 0 44 (lit≤ tt) (lit≤ tt) (sized s)
  where
    sized : (s : Bool) → Within (2 ^ 54) (2 ^ 44) (signed s n 100) nothing
    sized false = record { above = omega arith; below = omega arith }
    sized true = record { above = omega arith; below = omega arith }

-- ---- the exact sums stay below 600
total_small : {step total : ℕ → ℕ} {rounded : ℕ → Float} → Running step total rounded → (n : ℕ) → total n ≤ 224 * n
total_small r zero = omega (arith, r.none)
total_small r (suc n) = omega (arith, r.more n, r.small n, total_small r n)

sum_small : (s : Bool) (a b : ℕ) → a ≤ 224 → b ≤ 57120 → Within (600 * 2 ^ 44) (2 ^ 44) (sum (signed s a 100) (signed true b 100)) nothing
sum_small false a b h g = record { above = omega arith; below = omega arith }
sum_small true a b h g = record { above = omega arith; below = omega arith }

-- ---- one printed decimal more
added : (s : Bool) (a b k : ℕ) {x y : Float} → a ≤ 224 → b ≤ 57120 → k ≤ 510 → Close 1 (2 ^ 44) x (signed s a 100) → Close k (2 ^ 44) y (signed true b 100)
    → Close (1 + (1 + k)) (2 ^ 44) (add binary64 x y) (sum (signed s a 100) (signed true b 100))
added s a b k h g K X Y = sum_close binary64 0 44 (lit≤ tt) (lit≤ tt) (lit≤ tt) (lit≤ tt) X Y (sum_small s a b h g) (omega arith)

-- ---- the first n steps, and the start
module _ {step total : ℕ → ℕ} {rounded : ℕ → Float} (r : Running step total rounded) where
  steps_close : (n : ℕ) → n ≤ 255 → Close (2 * n) (2 ^ 44) (rounded n) (signed true (total n) 100)
  unfolding decimal lib.Ieee.round
  steps_close zero h = rw (r.start, r.none) (record { finite = refl; near = record { above = lit≤ tt; below = lit≤ tt } })
  steps_close (suc n) h =
      let below : total n ≤ 57120 = omega (arith, total_small r n) in
      let decimal_near = decimal_close true (step n) (r.small n) in
      let one_more = added true (step n) (total n) (2 * n) (r.small n) below (omega arith) decimal_near (steps_close n (omega arith)) in
      rw (r.next n, r.more n)
      (close_coarser (lit≤ tt) (omega arith)
      (close_same {a = sum (signed true (step n) 100) (signed true (total n) 100)} (lit≤ tt) (omega arith) one_more))

  pub all_close : (n start : ℕ) → n ≤ 255 → start ≤ 224
      → Close 512 (2 ^ 44) (add binary64 (rounded n) (plus start 100)) (record { plus = start; less = total n; per = 100 })
  all_close n start h g =
      let below : total n ≤ 57120 = omega (arith, total_small r n) in
      let whole = added false start (total n) (2 * n) g below (omega arith) (decimal_close false start g) (steps_close n h) in
      rw (add_comm binary64 (rounded n) (plus start 100))
      (close_coarser (lit≤ tt) (omega arith)
      (close_same {a = sum (signed false start 100) (signed true (total n) 100)} (lit≤ tt) (omega arith) whole))
