-- Bays in scan order, whatever their strands are and whatever a strand adds; the fillings of the first bays, and their scan sums.
-- A filling is a list of strands, newest bay first: the previous bay is its head, and the bay of the previous major line is as far back as a line is long.
-- Assumes nothing.
use Rattle.std.specs.Prelude.{◌≡◌, List, [], ◌∷◌, ℕ, zero, suc, ◌<◌, Float, length, get_or}
use Rattle.std.specs.Float.{binary64}
use Rattle.std.specs.Float.Ieee.{of_bits, add}

-- what a least-energy run is about
pub record Scan : Type 0 where
  -- a major line is this long and one bay more: so many bays of the window stay when a new bay comes
  pub kept : ℕ
  -- the legal strands of bay k in scan order, by rising number
  pub strands : (k : ℕ) → List ℕ
  -- what strand t on bay k adds to the sum, with s on the bay of the previous major line and u on the previous bay
  pub added : (k s u t : ℕ) → Float

-- a strand stands in a list, at some position
abbrev pub In : List ℕ → ℕ → Type 0
In l t = (p : ℕ) × (p < length l) × (get_or l p 0 ≡ t)

-- a filling of the first k bays, newest first, has a legal strand on each
abbrev pub Legal : Scan → ℕ → List ℕ → Type 0
Legal z zero [] = Unit {0}
Legal z zero (t ∷ f) = ⊥
Legal z (suc k) [] = ⊥
Legal z (suc k) (t ∷ f) = In (z.strands k) t × Legal z k f

-- the scan sum: from 0.0 on, one rounded number a bay
unfoldable pub scan_sum : Scan → List ℕ → Float
scan_sum z [] = of_bits binary64 0
scan_sum z (t ∷ f) = add binary64 (scan_sum z f) (z.added (length f) (get_or f z.kept 0) (get_or f 0 0) t)

-- each of the first n bays has a legal strand
abbrev pub EachHasStrand : Scan → ℕ → Type 0
EachHasStrand z n = (k : ℕ) → k < n → 0 < length (z.strands k)

-- the strands of a list rise
abbrev pub Rising : List ℕ → Type 0
Rising l = (p q : ℕ) → p < q → q < length l → get_or l p 0 < get_or l q 0
