-- `case_parts::grid::bays_of` meets its contract, and fits: no side is past 33. Assumes nothing.
use Prim.Native.Nat.{ℕ, ◌≤◌, ◌*◌, min}
use mathlib.Core.Path.{◌≡◌}
use native.Mathlib.Nat.{mul-le-mul}
use native.Mathlib.Omega.{arith}
use Rattle.case_parts.proofs.grid.bays_of.Goals as goal

within : (rows cols : ℕ) {r c : ℕ} → r ≡ min rows 33 → c ≡ min cols 33 → r * c ≤ 1089
within rows cols {r} {c} e f =
    let a : r ≤ 33 = omega arith in
    let b : c ≤ 33 = omega arith in
    mul-le-mul a b

pub overflow_mul-result : goal.overflow_mul-result
overflow_mul-result c = record { fits = omega (arith, within _ _ c.least.ensures c.least-2.ensures) }

pub returns : goal.returns
returns c =
    record {
      within = within _ _ c.least.ensures c.least-2.ensures;
      answer = rw (c.least.ensures, c.least-2.ensures);
    }
