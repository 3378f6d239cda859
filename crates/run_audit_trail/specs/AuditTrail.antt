-- DEMAND 3: the ledger of a run is an audit trail. The customer's sentences, about what `sdc2d_thermo::mfe_configuration` was lent and what it left.
-- `proofs/TheLedgerIsAnAuditTrail.antt` proves them of the call's own contract, with the system and the lists that it was lent. All NaN are one value here.
-- Assumes nothing.
use Rattle.std.specs.Prelude.{ℕ, suc, ◌+◌, ◌≤◌, ◌<◌, ◌≡◌, true, false, List, [], ◌↔◌, Float, Result, Ok, Err, length, get_or, take, drop, replicate}
use Rattle.std.specs.Float.{nan, binary64}
use Rattle.std.specs.Float.Ieee.{of_bits, mul, lt, le}
use Rattle.units.specs.Limits.{most_rows}
use Rattle.units.specs.declared.refusal.Refusal.{Refusal}
use Rattle.units.specs.declared.refusal.Refusal.TheVariants.{BadSum}
use Rattle.units.specs.Kelvin.{rtval}
use Rattle.units.specs.Refusals.{passes}
use Rattle.bay_system.specs.System.{System, bays, system_verdict}
use Rattle.bay_lists.specs.Lists.{Constraints, offsets_shaped}
use Rattle.bay_legal_at.specs.Legal.{is_legal}
use Rattle.bay_legal_at.specs.Layouts.{LegalLayout, LegalFilling}
use Rattle.energy_bays.specs.Energies.{is_bad}
use Rattle.energy_bays.specs.ScanSum.{scanned_strand, scan_sum_of}
use Rattle.run_audit_trail.specs.Rows.{rows_after, begins, needed, EndsIn, strand_that_left, filling_sum}

-- what the two tables of a ledger hold, row by row
module _ (s : System) (c : Constraints) (energies : List Float) (leaving : List ℕ) where
  -- the energy in row i of the block after bay k, in units of R·T, and the byte noted there
  abbrev pub energy_in : (k i : ℕ) → Float
  energy_in k i = get_or energies (begins s c k + i) nan

  abbrev pub noted_in : (k i : ℕ) → ℕ
  noted_in k i = get_or leaving (begins s c k + i) 0

  -- Row i of the block after bay k leads back to a filling: it is legal, it ends in the row's choice, its scan sum is the row's energy to the bit; and for
  -- each bay j on the way, in the row in which its first j + 1 strands end, the byte is the strand that left the window in it when bay j came.
  pub record LeadsBack (k i : ℕ) (filling : List ℕ) : Type 0 where
    pub legal : LegalFilling s c (suc k) filling
    pub ends : EndsIn s c k i filling
    pub sum : filling_sum s (suc k) filling ≡ energy_in k i
    pub noted : (j p : ℕ) → j ≤ k → p < length (rows_after s c j) → EndsIn s c j p (take (suc j) filling) → noted_in j p ≡ strand_that_left s j filling

  -- The ledger is an audit trail.
  pub record AuditTrail : Type 0 where
    -- "each block has one row for each choice of legal strands on the last bays", as Rows.antt lists and places them: every legal filling of the bays so far
    -- ends in the choice of a row,
    pub every_choice : (k : ℕ) → k < bays s.sizes → (filling : List ℕ) → LegalFilling s c (suc k) filling
        → (i : ℕ) × (i < length (rows_after s c k)) × EndsIn s c k i filling
    -- no choice has two rows,
    pub one_row : (k i j : ℕ) → k < bays s.sizes → i < length (rows_after s c k) → j < length (rows_after s c k)
        → get_or (rows_after s c k) i [] ≡ get_or (rows_after s c k) j [] → i ≡ j
    -- and all rows stand in both tables
    pub all_there : (needed s c ≤ length energies) × (needed s c ≤ length leaving)
    -- "a row's energy is the smallest rounded scan sum of any legal filling that ends so",
    pub least : (k i : ℕ) → k < bays s.sizes → i < length (rows_after s c k) → (filling : List ℕ) → LegalFilling s c (suc k) filling
        → EndsIn s c k i filling → le (energy_in k i) (filling_sum s (suc k) filling) ≡ true
    -- "and the notes lead back to it"
    pub leads_back : (k i : ℕ) → k < bays s.sizes → i < length (rows_after s c k) → (filling : List ℕ) × LeadsBack k i filling
    -- the noted strand is the lowest that left among the fillings of least sum: one from which a lower strand left has a larger sum
    pub lowest_leaver : (k i : ℕ) → k < bays s.sizes → i < length (rows_after s c k) → (filling : List ℕ) → LegalFilling s c (suc k) filling
        → EndsIn s c k i filling → strand_that_left s k filling < noted_in k i → lt (energy_in k i) (filling_sum s (suc k) filling) ≡ true

  -- The layout is the filling to which the first least row of the last block leads back: row i of the block after bay `last`.
  pub record FirstLeast (layout : List ℕ) (last i : ℕ) (filling : List ℕ) : Type 0 where
    pub all_bays : suc last ≡ bays s.sizes
    pub inside : i < length (rows_after s c last)
    pub leads : LeadsBack last i filling
    pub laid : (k : ℕ) → k ≤ last → scanned_strand s layout k ≡ get_or filling k 0
    pub least_row : (j : ℕ) → j < length (rows_after s c last) → le (energy_in last i) (energy_in last j) ≡ true
    pub first : (j : ℕ) → j < i → lt (energy_in last i) (energy_in last j) ≡ true

-- What an answered run leaves.
pub record AnsweredRun (s : System) (c : Constraints) (energy : Float) (layout : List ℕ) (energies : List Float) (leaving : List ℕ) : Type 0 where
  pub trail : AuditTrail s c energies leaving
  -- "so the layout is legal",
  pub legal : LegalLayout s c layout
  -- its scan sum times (R·T) is the answer in kcal/mol,
  pub energy_is : energy ≡ mul binary64 (scan_sum_of s layout) (rtval s.sizes.kelvin)
  -- "and none has a smaller sum"
  pub no_smaller : (other : List ℕ) → LegalLayout s c other → le (scan_sum_of s layout) (scan_sum_of s other) ≡ true
  -- the trail ends in it
  pub at_the_end : (last i : ℕ) × (filling : List ℕ) × FirstLeast s c energies leaving layout last i filling

-- The tests before the energies pass, each by the refusal that it would be; which number a failed one gives is the contract's matter. What is lent to be
-- written counts here by its length alone.
pub record EarlierTestsPass (s : System) (c : Constraints) (layout_length energies_length leaving_length : ℕ) : Type 0 where
  -- 1 to 4
  pub system : system_verdict s ≡ passes
  -- 5
  pub layout_fits : layout_length ≡ bays s.sizes
  pub offsets_shaped_holds : offsets_shaped (bays s.sizes) c ≡ true
  -- 7, where bays count row by row
  pub some_strand : (bay : ℕ) → bay < bays s.sizes → (strand : ℕ) × (is_legal s c bay strand ≡ true)
  -- 8
  pub few_rows : needed s c ≤ most_rows
  -- 9
  pub energies_fit : needed s c ≤ energies_length
  pub leaving_fits : needed s c ≤ leaving_length

-- Demand 3 of one call: the answer, and each lent slice before it (₀) and after it (₁).
pub record Demand3
    (s : System) (c : Constraints) (answer : Result Float Refusal) (layout₀ layout₁ : List ℕ) (energies₀ energies₁ : List Float) (leaving₀ leaving₁ : List ℕ) : Type 0
  where
    -- what stands where an energy is answered
    pub answered : (energy : Float) → answer ≡ Ok energy → AnsweredRun s c energy layout₁ energies₁ leaving₁
    -- an energy is answered exactly when the earlier tests pass and no legal layout's scan sum is NaN or minus infinity
    pub answers : ((energy : Float) × (answer ≡ Ok energy))
        ↔ (EarlierTestsPass s c (length layout₀) (length energies₀) (length leaving₀)
        × ((layout : List ℕ) → LegalLayout s c layout → is_bad (scan_sum_of s layout) ≡ false))
    -- "a run is refused for its energies", as 10, "exactly when some legal layout's scan sum is NaN or minus infinity": the earlier tests pass and there is one
    pub refused : (answer ≡ Err BadSum)
        ↔ (EarlierTestsPass s c (length layout₀) (length energies₀) (length leaving₀)
        × ((layout : List ℕ) × LegalLayout s c layout × (is_bad (scan_sum_of s layout) ≡ true)))
    -- then the needed places are 0, and the layout stays
    pub cleared : answer ≡ Err BadSum
        → (layout₁ ≡ layout₀) × (take (needed s c) energies₁ ≡ replicate (needed s c) (of_bits binary64 0)) × (take (needed s c) leaving₁ ≡ replicate (needed s c) 0)
    -- where the earlier tests pass, the places beyond the need stay; where one does not, all stays
    pub beyond : EarlierTestsPass s c (length layout₀) (length energies₀) (length leaving₀)
        → (drop (needed s c) energies₁ ≡ drop (needed s c) energies₀) × (drop (needed s c) leaving₁ ≡ drop (needed s c) leaving₀)
    pub untouched : (EarlierTestsPass s c (length layout₀) (length energies₀) (length leaving₀) → ⊥)
        → (layout₁ ≡ layout₀) × (energies₁ ≡ energies₀) × (leaving₁ ≡ leaving₀)
