-- The rows of the ledger: which choices they stand for, where they stand, and what a row says of a filling. Here bay k is the one that is scanned as
-- number k, from 0; a filling has the strands of the first bays in that order, so that after bay k it has k + 1. Assumes nothing.
use Rattle.std.specs.Prelude.{ℕ, zero, suc, ◌+◌, ◌-◌, min, ◌≡◌, cond, List, [], ◌∷◌, ◌++◌, map, leb, Float, length, get_or, drop}
use Rattle.bay_system.specs.System.{System, bays}
use Rattle.bay_lists.specs.Lists.{Constraints}
use Rattle.bay_legal_at.specs.Layouts.{legal_strands}
use Rattle.energy_bays.specs.ScanSum.{scan_sum_to}

-- the shorter side of the grid, the smaller of rows and columns: the `window` of scan_order is the same number (`side_is` in proofs/Choices.antt)
abbrev pub shorter_side : System → ℕ
shorter_side s = min s.sizes.rows s.sizes.cols

-- how many bays the window has after bay k, the (k + 1)-th: as many as the shorter side, fewer at the start
abbrev pub window_after : System → (k : ℕ) → ℕ
window_after s k = min (suc k) (shorter_side s)

-- the oldest bay of the window after bay k
abbrev pub oldest : System → (k : ℕ) → ℕ
oldest s k = suc k - window_after s k

-- each choice with each strand behind it: the strand is the fastest
unfoldable pub each_then : (choices : List (List ℕ)) → (strands : List ℕ) → List (List ℕ)
each_then [] strands = []
each_then (choice ∷ choices) strands = map (λ t. choice ++ (t ∷ [])) strands ++ each_then choices strands

-- the choices of legal strands on `count` bays from bay `from` on: oldest bay slowest, newest fastest
unfoldable pub choices : System → Constraints → (from count : ℕ) → List (List ℕ)
choices s c from zero = [] ∷ []
choices s c from (suc count) = each_then (choices s c from count) (legal_strands s c (from + count))

-- the rows of the block after bay k: one for each choice of legal strands on the window
abbrev pub rows_after : System → Constraints → (k : ℕ) → List (List ℕ)
rows_after s c k = choices s c (oldest s k) (window_after s k)

-- the place at which the block after bay k begins: the first at 0, and the next where this one ends
unfoldable pub begins : System → Constraints → (k : ℕ) → ℕ
begins s c zero = 0
begins s c (suc k) = begins s c k + length (rows_after s c k)

-- how many rows the ledger needs
abbrev pub needed : System → Constraints → ℕ
needed s c = begins s c (bays s.sizes)

-- a filling of bays 0 to k ends in the choice of row i of the block after bay k
abbrev pub EndsIn : System → Constraints → (k i : ℕ) → (filling : List ℕ) → Type 0
EndsIn s c k i filling = drop (oldest s k) filling ≡ get_or (rows_after s c k) i []

-- the strand of a filling that left the window when bay k came: it lay on bay k − m, where m is the shorter side; 0 while none has left
abbrev pub strand_that_left : System → (k : ℕ) → (filling : List ℕ) → ℕ
strand_that_left s k filling = cond (leb (shorter_side s) k) (get_or filling (k - shorter_side s) 0) 0

-- the scan sum of a filling of the first `count` bays
abbrev pub filling_sum : System → (count : ℕ) → (filling : List ℕ) → Float
filling_sum s count filling = scan_sum_to s (λ j. get_or filling j 0) count
