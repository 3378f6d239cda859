-- The blocks of the ledger: how many rows each has, what a row holds, and where a block stands.
-- Block k is written after the k-th bay; block 0 has no row, and 0.0 stands for the sum of no bay. Assumes nothing.
use Rattle.std.specs.Prelude.{true, cond, List, [], ◌∷◌, ◌++◌, ℕ, zero, suc, ◌+◌, ◌*◌, ◌%◌, Float, length, get_or}
use Rattle.std.specs.Float.{binary64, inf}
use Rattle.std.specs.Float.Ieee.{of_bits, add, lt}
use Rattle.floats.specs.declared.Choice.{Choice}
use Rattle.floats.specs.Least.{better}
use Rattle.ledger_rows.specs.Scan.{Scan}

-- the first n values of f, in order
unfoldable pub tab : {A : Type 0} → (ℕ → A) → ℕ → List A
tab f zero = []
tab f (suc n) = tab f n ++ (f n ∷ [])

-- the first n lists of f, one behind the other
unfoldable pub flat : {A : Type 0} → (ℕ → List A) → ℕ → List A
flat f zero = []
flat f (suc n) = flat f n ++ f n

-- one row for each choice of legal strands on the last j of the first k bays, on all of them where they are fewer
unfoldable pub size : Scan → (k j : ℕ) → ℕ
size z zero j = 1
size z (suc k) zero = 1
size z (suc k) (suc j) = size z k j * length (z.strands k)

-- the strands of the bay that is the j-th before the last of the first k, and 0 alone while there is none
unfoldable pub leavers : Scan → (j k : ℕ) → List ℕ
leavers z j zero = 0 ∷ []
leavers z zero (suc k) = z.strands k
leavers z (suc j) (suc k) = leavers z j k

-- the strand on the last of the first k bays, in row i: the newest bay is the fastest
unfoldable pub newest : Scan → (k i : ℕ) → ℕ
newest z zero i = 0
newest z (suc k) i = get_or (z.strands k) (i % length (z.strands k)) 0

-- the energy in row i, and 0.0 where no bay is before
abbrev pub held_at : List Float → ℕ → Float
held_at before i = get_or before i (of_bits binary64 0)

-- a new one replaces where its energy is smaller, never where it is equal; one that is NaN or minus infinity replaces whatever was
unfoldable pub lower : Choice → Choice → Choice
lower old new = cond (lt (inf true) new.energy) (better (λ c. c.energy) old new) new

-- the choice after the first n candidates, where candidate 0 is held first
unfoldable pub lowest : (ℕ → Choice) → ℕ → Choice
lowest next zero = next 0
lowest next (suc n) = lower (lowest next n) (next n)

-- what row a·width + q of the block before comes to if the strand at position a leaves and `adds` is what the new bay adds beside it
abbrev pub candidate_from : List Float → (width : ℕ) → (leaving : List ℕ) → (adds : ℕ → ℕ → Float) → (q a : ℕ) → Choice
candidate_from before width leaving adds q a =
    record { energy = add binary64 (held_at before (a * width + q)) (adds a (get_or leaving a 0)); who = get_or leaving a 0 }

-- a row: the lowest over the strands that leave
abbrev pub row_from : List Float → (width : ℕ) → (leaving : List ℕ) → (adds : ℕ → ℕ → Float) → (q : ℕ) → Choice
row_from before width leaving adds q = lowest (candidate_from before width leaving adds q) (length leaving)

-- the row of block k from which row q·c + p of block k + 1 comes if the strand at position a leaves
abbrev pub came_from : Scan → (k q a : ℕ) → ℕ
came_from z k q a = a * size z k z.kept + q

-- what the strand at position p of bay k adds, where strand s at position a leaves
abbrev pub adds_at : Scan → (k q p a s : ℕ) → Float
adds_at z k q p a s = z.added k s (newest z k (came_from z k q a)) (get_or (z.strands k) p 0)

abbrev pub candidate : Scan → List Float → (k q p a : ℕ) → Choice
candidate z before k q p = candidate_from before (size z k z.kept) (leavers z z.kept k) (adds_at z k q p) q

-- row q·c + p of block k + 1
abbrev pub row_of : Scan → List Float → (k q p : ℕ) → Choice
row_of z before k q p = row_from before (size z k z.kept) (leavers z z.kept k) (adds_at z k q p) q

-- one part of each row of block k + 1: the strand of bay k is the fastest
abbrev pub block_of : {A : Type 0} → (Choice → A) → Scan → List Float → ℕ → List A
block_of part z before k = flat (λ q. tab (λ p. part (row_of z before k q p)) (length (z.strands k))) (size z k z.kept)

-- the energies of block k
unfoldable pub energies : Scan → ℕ → List Float
energies z zero = []
energies z (suc k) = block_of (λ c. c.energy) z (energies z k) k

-- the strands that left the window, in block k
unfoldable pub notes : Scan → ℕ → List ℕ
notes z zero = []
notes z (suc k) = block_of (λ c. c.who) z (energies z k) k

-- how many rows the first k blocks have: where the next one begins
unfoldable pub need : Scan → ℕ → ℕ
need z zero = 0
need z (suc k) = need z k + size z (suc k) (suc z.kept)

-- both tables as the run leaves them: the blocks follow one another
unfoldable pub energy_table : Scan → ℕ → List Float
energy_table z n = flat (λ k. energies z (suc k)) n

unfoldable pub note_table : Scan → ℕ → List ℕ
note_table z n = flat (λ k. notes z (suc k)) n
