-- Legal layouts, and legal fillings of the first bays in scan order. Assumes nothing.
use Rattle.std.specs.Prelude.{ℕ, ◌<◌, ◌≡◌, Bool, true, List, length, get_or}
use Rattle.sets.specs.Set.{members}
use Rattle.bay_system.specs.System.{System, bays}
use Rattle.bay_lists.specs.Lists.{Constraints}
use Rattle.bay_scan_order.specs.Scan.{bay_at}
use Rattle.bay_legal_at.specs.Legal.{is_legal}

-- a strand for each bay, row by row, each of which may lie there by the test `may`
pub record LayoutBy (s : System) (may : (bay strand : ℕ) → Bool) (layout : List ℕ) : Type 0 where
  pub long : length layout ≡ bays s.sizes
  pub each : (bay : ℕ) → bay < bays s.sizes → may bay (get_or layout bay 0) ≡ true

-- each legal where it lies
abbrev pub LegalLayout : System → Constraints → (layout : List ℕ) → Type 0
LegalLayout s c layout = LayoutBy s (is_legal s c) layout

-- a strand for each of the first `count` bays in scan order, each legal where it lies
pub record LegalFilling (s : System) (c : Constraints) (count : ℕ) (filling : List ℕ) : Type 0 where
  pub long : length filling ≡ count
  pub each : (j : ℕ) → j < count → is_legal s c (bay_at s.sizes.rows s.sizes.cols j) (get_or filling j 0) ≡ true

-- the legal strands of the bay that is scanned as number k, by rising number
abbrev pub legal_strands : System → Constraints → (k : ℕ) → List ℕ
legal_strands s c k = members (is_legal s c (bay_at s.sizes.rows s.sizes.cols k)) s.sizes.strands
