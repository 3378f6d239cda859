-- The definitions compute: the rules' single bays, and two bays in a line whose bond decides. Assumes nothing.
use mathlib.Core.Path.{◌≡◌, refl}
use mathlib.Core.Bool.{true, false}
use mathlib.Core.List.{List, [], ◌∷◌, ◌++◌}
use Prim.Native.Nat.{ℕ}
use lib.IntN.{pos}
use lib.Ieee.{Float, inf, fin, binary64, of_bits, add, lt, round, sum}
use lib.ListN.{replicate}
use Rattle.sets.specs.Set.{has, members}
use Rattle.ledger_rows.specs.Blocks.{tab, flat, size, leavers, newest, lower, lowest, energies, notes}
use Rattle.ledger_rows.specs.Trace.{below, trace, answer_row, answer, layout}
use Rattle.ledger_fill.specs.Handed.{no_bonds, run_scan}
use Rattle.ledger_way_back.specs.Tracing.{in_order}

none : Float
none = of_bits binary64 0

minus : ℕ → Float
minus n = fin true n (pos 0)

-- one bay with strands 0 and 1, whose energies are 0.0 and this
abbrev single : Float → List ℕ
single x = in_order (layout (run_scan 1 (3 ∷ []) (none ∷ x ∷ []) no_bonds) 1)

-- a smaller energy replaces, a larger and an equal one do not
single_bays : (single (minus 1) ≡ 1 ∷ []) × (single (fin false 1 (pos 0)) ≡ 0 ∷ []) × (single none ≡ 0 ∷ [])
unfolding in_order trace answer_row lowest lower energies notes flat tab size leavers newest below members has none minus add sum round lt of_bits
single_bays = (refl, refl, refl)

-- minus infinity on a legal strand is refused, plus infinity is answered where nothing else is legal
single_refused : (lt (inf true) (answer (run_scan 1 (3 ∷ []) (none ∷ inf true ∷ []) no_bonds) 1) ≡ false) × (answer (run_scan 1 (2 ∷ []) (none ∷ inf false ∷ []) no_bonds) 1 ≡ inf false)
unfolding answer_row lowest lower energies flat tab size leavers newest members has none add sum round lt of_bits
single_refused = (refl, refl)

-- two bays of one line, where strand 1 beside strand 1 gains 5 and costs 1 a bay
bonded : in_order (layout (run_scan 2 (3 ∷ 3 ∷ []) ((none ∷ fin false 1 (pos 0) ∷ replicate 62 none) ++ (none ∷ fin false 1 (pos 0) ∷ [])) (record { major = []; side = replicate 65 none ++ (minus 5 ∷ []) })) 2) ≡ 1 ∷ 1 ∷ []
unfolding in_order trace answer_row lowest lower energies notes flat tab size leavers newest below members has none minus add sum round lt of_bits
bonded = refl
