-- The definitions compute: two rows of two bays with two strands each, where strand 1 gains 3, and loses 2 beside another 1 and 2 more below one. Assumes nothing.
use mathlib.Core.Path.{◌≡◌, refl}
use mathlib.Core.Bool.{true, false, cond, ◌&&◌}
use mathlib.Core.List.{[], ◌∷◌}
use Prim.Native.Nat.{ℕ}
use lib.Dec.{eqb}
use lib.IntN.{pos}
use lib.Ieee.{Float, fin, binary64, of_bits, add, lt, round, sum}
use Rattle.ledger_rows.specs.Scan.{Scan}
use Rattle.ledger_rows.specs.Blocks.{tab, flat, size, leavers, newest, lower, lowest, energies, notes, need}
use Rattle.ledger_rows.specs.Trace.{below, trace, answer_row, layout}
use Rattle.ledger_rows.specs.LeastEnergyTheorem.{choices, each_with}

gain : ℕ → Float
gain t = cond (eqb t 1) (fin true 3 (pos 0)) (fin false 0 (pos 0))

loss : ℕ → ℕ → Float
loss s t = cond (eqb s 1 && eqb t 1) (fin false 2 (pos 0)) (fin false 0 (pos 0))

two : ℕ → Scan
two kept = record { kept = kept; strands = λ k. 0 ∷ 1 ∷ []; added = λ k s u t. add binary64 (add binary64 (gain t) (loss s t)) (loss u t) }

-- 2×2 needs 14 rows, 2×3 needs 22, 1×3 needs 6
rows : (need (two 1) 4 ≡ 14) × (need (two 1) 6 ≡ 22) × (need (two 0) 3 ≡ 6)
unfolding need size two
rows = (refl, refl, refl)

-- the newest bay is the fastest
in_order : choices (two 1) 2 2 ≡ (0 ∷ 0 ∷ []) ∷ (1 ∷ 0 ∷ []) ∷ (0 ∷ 1 ∷ []) ∷ (1 ∷ 1 ∷ []) ∷ []
unfolding choices each_with two
in_order = refl

-- newest bay first: strand 1 on two bays that do not touch
found : layout (two 1) 4 ≡ 1 ∷ 0 ∷ 0 ∷ 1 ∷ []
unfolding trace answer_row lowest lower energies notes flat tab size leavers newest below two gain loss add sum round lt of_bits
found = refl
