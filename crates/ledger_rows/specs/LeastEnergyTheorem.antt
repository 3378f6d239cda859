-- THE THEOREM of the least energy: what the ledger of n bays is, in the customer's own sentences, over any legal strands and any added numbers.
-- `proofs/TheLedgerIsRight.antt` proves that the definitions of `Blocks` and `Trace` have it. Assumes nothing.
use Rattle.std.specs.Prelude.{◌≡◌, ◌↔◌, true, List, [], ◌∷◌, ◌++◌, map, ℕ, zero, suc, ◌+◌, ◌-◌, ◌≤◌, ◌<◌, length, get_or, take, drop}
use Rattle.std.specs.Float.Ieee.{lt, le}
use Rattle.floats.specs.Values.{Good, Bad}
use Rattle.ledger_rows.specs.Scan.{Scan, Legal, scan_sum}
use Rattle.ledger_rows.specs.Blocks.{held_at, energies, notes, need, energy_table, note_table}
use Rattle.ledger_rows.specs.Trace.{trace, answer_row, answer, layout}

-- each list with each strand in front of it: the strand is the fastest
unfoldable pub each_with : List (List ℕ) → List ℕ → List (List ℕ)
each_with [] l = []
each_with (w ∷ ws) l = map (λ t. t ∷ w) l ++ each_with ws l

-- the choices of legal strands on the last j of the first k bays, on all of them where they are fewer: oldest bay slowest, newest fastest
unfoldable pub choices : Scan → (k j : ℕ) → List (List ℕ)
choices z zero j = [] ∷ []
choices z (suc k) zero = [] ∷ []
choices z (suc k) (suc j) = each_with (choices z k j) (z.strands k)

-- the choices on the window after the k-th bay, one for each row of block k
abbrev pub windows : Scan → ℕ → List (List ℕ)
windows z k = choices z k (suc z.kept)

-- a filling of the first k bays ends in the choice of row i
abbrev pub EndsIn : Scan → (k i : ℕ) → List ℕ → Type 0
EndsIn z k i f = take (suc z.kept) f ≡ get_or (windows z k) i []

-- a filling to which row i of block k leads back: legal, it ends in the row's choice, its scan sum is the row's energy to the bit, and the row's note is
-- the strand that left the window in it, 0 while none has
pub record LeadsBack (z : Scan) (k i : ℕ) (f : List ℕ) : Type 0 where
  pub legal : Legal z k f
  pub ends : EndsIn z k i f
  pub sum : scan_sum z f ≡ held_at (energies z k) i
  pub noted : get_or (notes z k) i 0 ≡ get_or f (suc z.kept) 0

-- no legal filling of the first k bays that ends in the choice of row i has a smaller scan sum than the row's energy
abbrev pub LeastOf : Scan → (k i : ℕ) → Type 0
LeastOf z k i = (f : List ℕ) → Legal z k f → EndsIn z k i f → le (held_at (energies z k) i) (scan_sum z f) ≡ true

-- the run over n bays is answered: it is not refused with 10
abbrev pub Answered : Scan → ℕ → Type 0
Answered z n = Good (answer z n)

pub record LeastEnergyTheorem (z : Scan) (n : ℕ) : Type 0 where
  -- "one row for each choice of legal strands on the last bays": a block has as many rows as there are choices, in both tables,
  pub energy_rows : (k : ℕ) → k < n → length (energies z (suc k)) ≡ length (windows z (suc k))
  pub note_rows : (k : ℕ) → k < n → length (notes z (suc k)) ≡ length (windows z (suc k))
  -- each legal filling so far ends in the choice of a row,
  pub every_choice : (k : ℕ) → k < n → (f : List ℕ) → Legal z (suc k) f → (i : ℕ) × (i < length (windows z (suc k))) × EndsIn z (suc k) i f
  -- and no choice has two rows
  pub one_row : (k : ℕ) → k < n → (i j : ℕ) → i < length (windows z (suc k)) → j < length (windows z (suc k))
      → get_or (windows z (suc k)) i [] ≡ get_or (windows z (suc k)) j [] → i ≡ j
  -- "the blocks follow one another; the need is the sum of their sizes"
  pub energies_follow : (k i : ℕ) → k < n → i < length (windows z (suc k)) → held_at (energy_table z n) (need z k + i) ≡ held_at (energies z (suc k)) i
  pub notes_follow : (k i : ℕ) → k < n → i < length (windows z (suc k)) → get_or (note_table z n) (need z k + i) 0 ≡ get_or (notes z (suc k)) i 0
  pub needed : (length (energy_table z n) ≡ need z n) × (length (note_table z n) ≡ need z n)
  -- "a row's energy is the smallest rounded scan sum of any legal filling so far that ends in that choice",
  pub least : Answered z n → (k i : ℕ) → k < n → i < length (windows z (suc k)) → LeastOf z (suc k) i
  -- "and the noted strands lead back to such a filling, whose scan sum is that energy to the bit"
  pub leads_back : (k i : ℕ) → k < n → i < length (windows z (suc k)) → LeadsBack z (suc k) i (trace z (suc k) i)
  -- on the way back, at each bay j, a row leads to the filling as far as that bay
  pub on_the_way : (k i j : ℕ) → k < n → i < length (windows z (suc k)) → j ≤ k
      → (p : ℕ) × (p < length (windows z (suc j))) × LeadsBack z (suc j) p (drop (suc k - suc j) (trace z (suc k) i))
  -- "an equal one never replaces, so the lowest leaving strand stays": a filling from which a lower strand left has a larger scan sum
  pub lowest_leaver : Answered z n → (k i : ℕ) → k < n → i < length (windows z (suc k)) → (f : List ℕ) → Legal z (suc k) f → EndsIn z (suc k) i f
      → get_or f (suc z.kept) 0 < get_or (notes z (suc k)) i 0 → lt (held_at (energies z (suc k)) i) (scan_sum z f) ≡ true
  -- "so the layout is legal, its scan sum is the answer, and no legal layout has a smaller scan sum"
  pub legal_layout : Legal z n (layout z n)
  pub answered_sum : scan_sum z (layout z n) ≡ answer z n
  pub no_smaller : Answered z n → (f : List ℕ) → Legal z n f → le (answer z n) (scan_sum z f) ≡ true
  -- "the answer is the first least row of the last block"
  pub answer_there : (answer_row z n).who < length (windows z n)
  pub least_row : Answered z n → (i : ℕ) → i < length (windows z n) → le (answer z n) (held_at (energies z n) i) ≡ true
  pub first_row : Answered z n → (i : ℕ) → i < (answer_row z n).who → lt (answer z n) (held_at (energies z n) i) ≡ true
  -- "refused with 10 exactly when some legal layout's scan sum is NaN or minus infinity"
  pub refused : Bad (answer z n) ↔ ((f : List ℕ) × Legal z n f × Bad (scan_sum z f))
