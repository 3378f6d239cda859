-- Whether bases lie within a text: how the walk over them goes on by one, and what it tells of each. Assumes nothing.
use Prim.Native.Nat.{ℕ, zero, suc, ◌+◌, ◌-◌, ◌≤◌, ◌<◌}
use mathlib.Core.Path.{◌≡◌, refl}
use mathlib.Core.Bool.{true, false}
use mathlib.Core.List.{List}
use native.Mathlib.Nat.{not-suc-le-zero, le_of_suc-le-suc, zero-add, add-zero, add-suc, suc-add}
use native.Mathlib.Numerals.{add-one}
use native.Mathlib.Omega.{arith}
use lib.Dec.{leb}
use borrow.Author.Tests.{le-leb, lt-leb, leb-true}
use Rattle.units.proofs.Tests.{both}
use Rattle.text_entries.proofs.InOrder.{one_less, none_left}
use Rattle.name_base_list.specs.Bases.{base_end, bases_fit_from, bases_fit}

module _ (end : ℕ) (bases : List ℕ) (j count : ℕ) where
  pub base_fits : j < count → base_end bases j ≤ end → bases_fit_from end bases j (count - j) ≡ bases_fit_from end bases (j + 1) (count - (j + 1))
  unfolding bases_fit_from
  base_fits h fits = rw (one_less j count h, le-leb (base_end bases j) end fits, add-one j)

  pub base_overruns : j < count → end < base_end bases j → bases_fit_from end bases j (count - j) ≡ false
  unfolding bases_fit_from
  base_overruns h over = rw (one_less j count h, lt-leb (base_end bases j) end over)

  pub bases_done : count ≤ j → bases_fit_from end bases j (count - j) ≡ true
  unfolding bases_fit_from
  bases_done h = rw (none_left j count h)

-- each base of a list that passed lies within the text
from_on : (end : ℕ) (bases : List ℕ) (j k i : ℕ) → bases_fit_from end bases j k ≡ true → i < k → base_end bases (i + j) ≤ end
unfolding bases_fit_from
from_on end bases j zero i e h = absurd (not-suc-le-zero h)
from_on end bases j (suc k) zero e h = rw (zero-add j) (leb-true (base_end bases j) end (both (leb (base_end bases j) end) (bases_fit_from end bases (suc j) k) e).0)
from_on end bases j (suc k) (suc i) e h =
    rw (suc-add i j, ← add-suc i j)
    (from_on end bases (suc j) k i (both (leb (base_end bases j) end) (bases_fit_from end bases (suc j) k) e).1 (le_of_suc-le-suc h))

pub base_within : (end : ℕ) (bases : List ℕ) (count i : ℕ) → bases_fit end bases count ≡ true → i < count → base_end bases i ≤ end
base_within end bases count i e h = rw (add-zero i) at (from_on end bases 0 count i e h)

-- bases that each lie within the text pass the test
all_fit_from : (end : ℕ) (bases : List ℕ) (j k : ℕ) → ((i : ℕ) → j ≤ i → i < j + k → base_end bases i ≤ end) → bases_fit_from end bases j k ≡ true
unfolding bases_fit_from
all_fit_from end bases j zero f = refl
all_fit_from end bases j (suc k) f =
    rw (le-leb (base_end bases j) end (f j (omega arith) (omega arith))) (all_fit_from end bases (suc j) k λ i h l. f i (omega arith) (omega arith))

pub all_fit : (end : ℕ) (bases : List ℕ) (count : ℕ) → ((i : ℕ) → i < count → base_end bases i ≤ end) → bases_fit end bases count ≡ true
all_fit end bases count f = all_fit_from end bases 0 count λ i h l. f i (omega arith)
