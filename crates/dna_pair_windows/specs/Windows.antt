-- The windows of two sequences written letter over letter: steps where both letters match, penalties where not, loops when they close. Assumes nothing.
use Rattle.std.specs.Prelude.{ℕ, zero, suc, ◌+◌, ◌-◌, Bool, cond, ◌&&◌, List, Option, None, Some, Result, Ok, Err, ltb, Float, length}
use Rattle.std.specs.Float.{binary64}
use Rattle.std.specs.Float.Ieee.{add}
use Rattle.units.specs.declared.BaseEnergy.{BaseEnergy}
use Rattle.units.specs.declared.refusal.Refusal.{Refusal}
use Rattle.units.specs.declared.refusal.Refusal.TheVariants.{LoopLength}
use Rattle.dna_pair_windows.specs.declared.PairSum.{PairSum}
use Rattle.dna_pair_windows.specs.declared.Window.{Window}
use Rattle.dna_letters.specs.Bases.{base_at, good_match}
use Rattle.dna_steps.specs.Steps.{dg_ds, add_energy, no_energy}
use Rattle.dna_mismatches.specs.Mismatches.{single_mismatch_penalty}
use Rattle.dna_loops.specs.Loops.{loop_penalty}

-- the window that begins at this place
abbrev pub window_at : List ℕ → List ℕ → ℕ → Window
window_at a b n = record { a1 = base_at a n; a2 = base_at a (suc n); b1 = base_at b n; b2 = base_at b (suc n) }

-- both letters of a window bind
abbrev pub both_match : Window → Bool
both_match w = good_match w.a1 w.b1 && good_match w.a2 w.b2

-- the penalty where they do not
abbrev pub penalty : Window → Float
penalty w = single_mismatch_penalty w.a1 w.a2 w.b1 w.b2

-- a number added to ΔG alone
abbrev pub add_to_dg : BaseEnergy → Float → BaseEnergy
add_to_dg energy dg = record { dg = add binary64 energy.dg dg; ds = energy.ds }

-- the windows so far, with this energy and this many bad windows last
abbrev pub so_far : BaseEnergy → ℕ → PairSum
so_far energy bad = record { energy = energy; bad = bad }

-- a step that closes a loop of this length is added, then the loop's value; the sum ends where the loop has none
abbrev pub closed_by : PairSum → (step : BaseEnergy) → ℕ → Option Float → Result PairSum Refusal
closed_by sum step length (Some value) = Ok (so_far (add_to_dg (add_energy sum.energy step) value) 0)
closed_by sum step length None = Err (LoopLength length)

-- a step that matches after bad windows: it closes a loop where those are more than 2
abbrev pub matched : PairSum → Window → Result PairSum Refusal
matched sum w =
    cond (ltb 2 sum.bad)
    (closed_by sum (dg_ds w.a1 w.a2) (sum.bad - 1) (loop_penalty (sum.bad - 1)))
    (Ok (so_far (add_energy sum.energy (dg_ds w.a1 w.a2)) 0))

-- the sum after one window more
abbrev pub after_window : PairSum → Window → Result PairSum Refusal
after_window sum w = cond (both_match w) (matched sum w) (Ok (so_far (add_to_dg sum.energy (penalty w)) (sum.bad + 1)))

-- the same of a sum that may have ended
abbrev pub then_window : Result PairSum Refusal → Window → Result PairSum Refusal
then_window (Ok sum) w = after_window sum w
then_window (Err refusal) w = Err refusal

-- the first n windows
unfoldable pub windows_sum : List ℕ → List ℕ → ℕ → Result PairSum Refusal
windows_sum a b zero = Ok (so_far no_energy 0)
windows_sum a b (suc n) = then_window (windows_sum a b n) (window_at a b n)

abbrev pub pair_sum : List ℕ → List ℕ → Result PairSum Refusal
pair_sum a b = windows_sum a b (length a - 1)
