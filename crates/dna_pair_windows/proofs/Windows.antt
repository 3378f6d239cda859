-- How the sum over the windows grows by one window, and that it stays where it ended. Assumes nothing.
use Prim.Native.Nat.{ℕ, zero, suc, ◌+◌, ◌-◌, ◌<◌, ◌≤◌}
use mathlib.Core.Path.{◌≡◌}
use mathlib.Core.List.{List}
use native.Mathlib.Nat.{add-zero, add-suc}
use native.Mathlib.Numerals.{sub-one}
use native.Mathlib.Omega.{arith}
use Rattle.std.specs.Prelude.{Ok, Err}
use Rattle.units.specs.declared.refusal.Refusal.{Refusal}
use Rattle.dna_pair_windows.specs.declared.PairSum.{PairSum}
use Rattle.dna_pair_windows.specs.Windows.{after_window, window_at, windows_sum}

pub windows_more : (a b : List ℕ) (i : ℕ) (sum : PairSum) → 0 < i → windows_sum a b (i - 1) ≡ Ok sum → windows_sum a b i ≡ after_window sum (window_at a b (i - 1))
unfolding windows_sum
windows_more a b zero sum h e = absurd (omega arith)
windows_more a b (suc n) sum h e = rw (sub-one (suc n)) (rw (rw (sub-one (suc n)) at e))

stays : (a b : List ℕ) (i k : ℕ) (refusal : Refusal) → windows_sum a b i ≡ Err refusal → windows_sum a b (i + k) ≡ Err refusal
unfolding windows_sum
stays a b i zero refusal e = rw (add-zero i) e
stays a b i (suc k) refusal e = rw (add-suc i k, stays a b i k refusal e)

-- the whole sum, where it ended at an earlier window
pub ended : (a b : List ℕ) (i n : ℕ) (refusal : Refusal) → i ≤ n → windows_sum a b i ≡ Err refusal → windows_sum a b n ≡ Err refusal
ended a b i n refusal h e =
    let whole : i + (n - i) ≡ n = omega arith in
    rw (← whole) (stays a b i (n - i) refusal e)
