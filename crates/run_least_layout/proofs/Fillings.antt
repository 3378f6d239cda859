-- A filling, newest bay first, and a layout, row by row, are the same strands: legal together, with one scan sum. Assumes nothing.
use Prim.Native.Nat.{ℕ, zero, suc, ◌-◌, ◌%◌, ◌≤◌, ◌<◌}
use mathlib.Core.Path.{◌≡◌, refl, sym, ◌∙◌, ap, ap₂, subst}
use mathlib.Core.Bool.{Bool, true, false, not}
use mathlib.Core.List.{List, [], ◌∷◌}
use mathlib.Core.Logic.{⊎_elim}
use native.Mathlib.Nat.{eq-or-lt_of_le, le_of_suc-le-suc, lt_of_lt_of_le, zero-mod}
use native.Mathlib.Decide.{dec_le}
use native.Mathlib.Omega.{arith}
use lib.Dec.{eqb, leb}
use lib.Ieee.{Float, binary64, add}
use lib.ListN.{length, get_or, drop, drop_of_length-le}
use lib.Seq.{drop-cons}
use borrow.Author.Tests.{lt-leb, eq-eqb}
use Rattle.units.specs.Limits.{most_strands}
use Rattle.bay_system.specs.System.{System}
use Rattle.energy_bays.specs.Energies.{bay_energy, edge_energy}
use Rattle.energy_bays.specs.ScanSum.{with_bond, bay_number, scan_sum_to, scanned_strand}
use Rattle.bay_lists.specs.Lists.{Constraints}
use Rattle.bay_legal_at.specs.Legal.{is_legal}
use Rattle.bay_legal_at.proofs.StrandBelow.{strand_below}
use Rattle.bay_legal_at.specs.Layouts.{LayoutBy}
use Rattle.bay_scan_order.specs.Scan.{by_rows, window, bay_at, number_at}
use Rattle.bay_legal.specs.Sets.{bays}
use Rattle.bay_scan_order.proofs.Scanned.{bay_inside, number_inside, scanned, numbered}
use Rattle.ledger_rows.specs.Scan.{In, Legal, scan_sum}
use Rattle.ledger_rows.proofs.Lists.{tab_at, length_tab}
use Rattle.run_least_layout.specs.Run.{scan_by, system_scan, row_by_row}
use Rattle.run_least_layout.proofs.Meaning.{in_may, may_in, added_by}

-- what the tests of a system have seen to
pub record Fit (s : System) : Type 0 where
  pub some_strands : 1 ≤ s.sizes.strands
  pub strands : s.sizes.strands ≤ most_strands
  pub some_window : 1 ≤ window s.sizes.rows s.sizes.cols

-- the strands of the first k bays of the scan, newest first
unfoldable pub newest_first : (strand_at : ℕ → ℕ) → (k : ℕ) → List ℕ
newest_first strand_at zero = []
newest_first strand_at (suc k) = strand_at k ∷ newest_first strand_at k

pub length_newest : (strand_at : ℕ → ℕ) (k : ℕ) → length (newest_first strand_at k) ≡ k
unfolding newest_first
length_newest strand_at zero = refl
length_newest strand_at (suc k) = ap suc (length_newest strand_at k)

pub newest_at : (strand_at : ℕ → ℕ) (k j : ℕ) → j < k → get_or (newest_first strand_at k) j 0 ≡ strand_at (k - suc j)
unfolding newest_first
newest_at strand_at zero j h = absurd (omega (arith, h))
newest_at strand_at (suc k) zero h = ap strand_at (omega arith)
newest_at strand_at (suc k) (suc j) h = newest_at strand_at k j (le_of_suc-le-suc h) ∙ ap strand_at (omega arith)

pub newest_past : (strand_at : ℕ → ℕ) (k j : ℕ) → k ≤ j → get_or (newest_first strand_at k) j 0 ≡ 0
unfolding newest_first
newest_past strand_at zero j h = refl
newest_past strand_at (suc k) zero h = absurd (omega (arith, h))
newest_past strand_at (suc k) (suc j) h = newest_past strand_at k j (le_of_suc-le-suc h)

-- the strands that a layout has on the first bays of the scan, newest first
abbrev pub filling_to : System → (layout : List ℕ) → (k : ℕ) → List ℕ
filling_to s layout = newest_first (scanned_strand s layout)

module _ (s : System) where
  abbrev n : ℕ
  n = bays s.sizes

  abbrev m : ℕ
  m = window s.sizes.rows s.sizes.cols

  -- a neighbour that is not there plays no part
  no_line : (k : ℕ) → leb m k ≡ false → (a b u t : ℕ) → bay_number s k a u t ≡ bay_number s k b u t
  no_line k e a b u t = without a ∙ sym (without b)
    where
      alone : ℕ → ℕ → Float
      alone u t = with_bond (not (eqb (k % m) 0)) (edge_energy s (not (by_rows s.sizes.rows s.sizes.cols)) u t) (bay_energy s (bay_at s.sizes.rows s.sizes.cols k) t)

      without : (a : ℕ) → bay_number s k a u t ≡ alone u t
      without a = rw e

  no_bay : (k : ℕ) → eqb (k % m) 0 ≡ true → (a u v t : ℕ) → bay_number s k a u t ≡ bay_number s k a v t
  no_bay k e a u v t = without u ∙ sym (without v)
    where
      alone : ℕ → ℕ → Float
      alone a t = with_bond (leb m k) (edge_energy s (by_rows s.sizes.rows s.sizes.cols) a t) (bay_energy s (bay_at s.sizes.rows s.sizes.cols k) t)

      without : (u : ℕ) → bay_number s k a u t ≡ alone a t
      without u = rw e

  module _ (may : ℕ → ℕ → Bool) (below : (b t : ℕ) → may b t ≡ true → t < s.sizes.strands) (fit : Fit s) where
    -- ---- legal strands on the first bays, and the filling that they make
    module _ (strand_at : ℕ → ℕ) (last : ℕ) (inside : last ≤ n) (legal : (j : ℕ) → j < last → may (bay_at s.sizes.rows s.sizes.cols j) (strand_at j) ≡ true) where
      each_below : (k : ℕ) → k < last → strand_at k < s.sizes.strands
      each_below k h = below _ (strand_at k) (legal k h)

      pub strands_by : (k : ℕ) → k ≤ last → Legal (scan_by s may) k (newest_first strand_at k)
      unfolding newest_first
      strands_by zero h = tt
      strands_by (suc k) h = (may_in s may k (strand_at k) (omega (arith, h, inside)) (lt_of_lt_of_le (each_below k h) fit.strands) (legal k h), strands_by k (omega (arith, h)))

      -- the strand of the previous major line, where there is one
      before_is : (k : ℕ) → k < last → (u t : ℕ)
          → (get_or (newest_first strand_at k) (m - 1) 0 < s.sizes.strands)
          × (bay_number s k (get_or (newest_first strand_at k) (m - 1) 0) u t ≡ bay_number s k (strand_at (k - m)) u t)
      before_is k h u t = by (dec_le m k)
        where
          by : Dec (m ≤ k) → (get_or (newest_first strand_at k) (m - 1) 0 < s.sizes.strands)
              × (bay_number s k (get_or (newest_first strand_at k) (m - 1) 0) u t ≡ bay_number s k (strand_at (k - m)) u t)
          by (yes l) =
              let place : k - suc (m - 1) ≡ k - m = omega (arith, fit.some_window) in
              let within : m - 1 < k = omega (arith, l, fit.some_window) in
              let same : get_or (newest_first strand_at k) (m - 1) 0 ≡ strand_at (k - m) = newest_at strand_at k (m - 1) within ∙ ap strand_at place in
              let earlier : k - m < last = omega (arith, h) in
              (subst (λ (a : ℕ). a < s.sizes.strands) (sym same) (each_below (k - m) earlier), ap (λ (a : ℕ). bay_number s k a u t) same)
          by (no l) =
              let early : k < m = omega (arith, l) in
              let past : k ≤ m - 1 = omega (arith, early) in
              (subst (λ (a : ℕ). a < s.sizes.strands) (sym (newest_past strand_at k (m - 1) past)) fit.some_strands, no_line k (lt-leb m k early) (get_or (newest_first strand_at k) (m - 1) 0) (strand_at (k - m)) u t)

      -- the strand of the previous bay, where there is one
      beside_is : (k : ℕ) → k < last → (a t : ℕ)
          → (get_or (newest_first strand_at k) 0 0 < s.sizes.strands)
          × (bay_number s k a (get_or (newest_first strand_at k) 0 0) t ≡ bay_number s k a (strand_at (k - 1)) t)
      beside_is zero h a t =
          (subst (λ (u : ℕ). u < s.sizes.strands) (sym (newest_past strand_at 0 0 (omega arith))) fit.some_strands, no_bay 0 (eq-eqb (0 % m) 0 (zero-mod m)) a (get_or (newest_first strand_at 0) 0 0) (strand_at (0 - 1)) t)
      beside_is (suc k) h a t =
          let same : get_or (newest_first strand_at (suc k)) 0 0 ≡ strand_at (suc k - 1) = newest_at strand_at (suc k) 0 (omega arith) in
          let earlier : suc k - 1 < last = omega (arith, h) in
          (subst (λ (u : ℕ). u < s.sizes.strands) (sym same) (each_below (suc k - 1) earlier), ap (λ (u : ℕ). bay_number s (suc k) a u t) same)

      pub strands_sum_by : (k : ℕ) → k ≤ last → scan_sum (scan_by s may) (newest_first strand_at k) ≡ scan_sum_to s strand_at k
      unfolding newest_first scan_sum scan_sum_to
      strands_sum_by zero h = refl
      strands_sum_by (suc k) h =
          let f = newest_first strand_at k in
          let a = get_or f (m - 1) 0 in
          let u = get_or f 0 0 in
          let t = strand_at k in
          let before = before_is k h u t in
          let beside = beside_is k h (strand_at (k - m)) t in
          ap₂ (add binary64) (strands_sum_by k (omega (arith, h)))
          (ap (λ (j : ℕ). (scan_by s may).added j a u t) (length_newest strand_at k) ∙ added_by s may k a u t (omega (arith, h, inside)) fit.strands before.0 beside.0 (each_below k h) ∙ before.1 ∙ beside.1)

    -- ---- from a layout to its filling
    module _ (layout : List ℕ) (legal : LayoutBy s may layout) where
      strand_legal : (k : ℕ) → k < n → may (bay_at s.sizes.rows s.sizes.cols k) (scanned_strand s layout k) ≡ true
      strand_legal k h = legal.each (bay_at s.sizes.rows s.sizes.cols k) (bay_inside s.sizes.rows s.sizes.cols k h)

      pub filling_by : (k : ℕ) → k ≤ n → Legal (scan_by s may) k (filling_to s layout k)
      filling_by = strands_by (scanned_strand s layout) n (omega arith) strand_legal

      pub sum_by : (k : ℕ) → k ≤ n → scan_sum (scan_by s may) (filling_to s layout k) ≡ scan_sum_to s (scanned_strand s layout) k
      sum_by = strands_sum_by (scanned_strand s layout) n (omega arith) strand_legal

    -- ---- a legal filling has a legal strand on each bay
    pub long_by : (k : ℕ) (g : List ℕ) → Legal (scan_by s may) k g → length g ≡ k
    long_by zero [] l = refl
    long_by zero (t ∷ g) l = absurd l
    long_by (suc k) [] l = absurd l
    long_by (suc k) (t ∷ g) l = ap suc (long_by k g l.1)

    each_in : (j : ℕ) (g : List ℕ) → Legal (scan_by s may) j g → (k : ℕ) → k < j → In ((scan_by s may).strands k) (get_or g (j - suc k) 0)
    each_in zero g l k h = absurd (omega (arith, h))
    each_in (suc j) [] l k h = absurd l
    each_in (suc j) (t ∷ g) l k h = ⊎_elim newest (earlier (each_in j g l.1 k)) (eq-or-lt_of_le (le_of_suc-le-suc h))
      where
        newest : k ≡ j → In ((scan_by s may).strands k) (get_or (t ∷ g) (suc j - suc k) 0)
        newest e =
            let first : suc j - suc k ≡ 0 = omega (arith, e) in
            subst (λ (i : ℕ). In ((scan_by s may).strands k) (get_or (t ∷ g) i 0)) (sym first) (subst (λ (i : ℕ). In ((scan_by s may).strands i) t) (sym e) l.0)

        earlier : (k < j → In ((scan_by s may).strands k) (get_or g (j - suc k) 0)) → k < j → In ((scan_by s may).strands k) (get_or (t ∷ g) (suc j - suc k) 0)
        earlier old b =
            let next : suc j - suc k ≡ suc (j - suc k) = omega (arith, b) in
            subst (λ (i : ℕ). In ((scan_by s may).strands k) (get_or (t ∷ g) i 0)) (sym next) (old b)

    pub each_by : (j : ℕ) (g : List ℕ) → Legal (scan_by s may) j g → j ≤ n → (k : ℕ) → k < j
        → may (bay_at s.sizes.rows s.sizes.cols k) (get_or g (j - suc k) 0) ≡ true
    each_by j g l inside k h = in_may s may k (get_or g (j - suc k) 0) (omega (arith, h, inside)) (each_in j g l k h)

    -- ---- from a filling to its layout
    module _ (f : List ℕ) (legal : Legal (scan_by s may) n f) where
      abbrev laid : List ℕ
      laid = row_by_row s.sizes.rows s.sizes.cols f

      laid_at : (bay : ℕ) → bay < n → get_or laid bay 0 ≡ get_or f (n - suc (number_at s.sizes.rows s.sizes.cols bay)) 0
      laid_at bay h = tab_at (λ (b : ℕ). get_or f (n - suc (number_at s.sizes.rows s.sizes.cols b)) 0) n bay 0 h

      pub layout_by : LayoutBy s may laid
      layout_by = record { long = length_tab (λ (b : ℕ). get_or f (n - suc (number_at s.sizes.rows s.sizes.cols b)) 0) n; each = each }
        where
          each : (bay : ℕ) → bay < n → may bay (get_or laid bay 0) ≡ true
          each bay h =
              let k = number_at s.sizes.rows s.sizes.cols bay in
              let inside = number_inside s.sizes.rows s.sizes.cols bay h in
              ap₂ may (sym (scanned s.sizes.rows s.sizes.cols bay h)) (laid_at bay h) ∙ each_by n f legal (omega arith) k inside

      -- the layout's filling is the filling
      back_to : (k : ℕ) → k ≤ n → filling_to s laid k ≡ drop (n - k) f
      unfolding newest_first
      back_to zero h = let all : length f ≤ n - 0 = omega (arith, long_by n f legal) in sym (drop_of_length-le f all)
      back_to (suc k) h =
          let bay = bay_at s.sizes.rows s.sizes.cols k in
          let place : suc (n - suc k) ≡ n - k = omega (arith, h) in
          let inside : n - suc k < length f = omega (arith, h, long_by n f legal) in
          let own : scanned_strand s laid k ≡ get_or f (n - suc k) 0 =
          laid_at bay (bay_inside s.sizes.rows s.sizes.cols k h)
          ∙ ap (λ (j : ℕ). get_or f (n - suc j) 0) (numbered s.sizes.rows s.sizes.cols k h) in
          ap₂ (λ (t : ℕ) (g : List ℕ). t ∷ g) own (back_to k (omega (arith, h)) ∙ ap (λ (j : ℕ). drop j f) (sym place)) ∙ sym (drop-cons f (n - suc k) 0 inside)

      pub back_by : filling_to s laid n ≡ f
      back_by = let none : n - n ≡ 0 = omega arith in back_to n (omega arith) ∙ ap (λ (j : ℕ). drop j f) none

-- ---- of the legal strands
module _ (s : System) (c : Constraints) (fit : Fit s) where
  module _ (strand_at : ℕ → ℕ) (last : ℕ) (inside : last ≤ bays s.sizes)
      (legal : (j : ℕ) → j < last → is_legal s c (bay_at s.sizes.rows s.sizes.cols j) (strand_at j) ≡ true)
    where
      pub strands_legal : (k : ℕ) → k ≤ last → Legal (system_scan s c) k (newest_first strand_at k)
      strands_legal = strands_by s (is_legal s c) (strand_below s c) fit strand_at last inside legal

      pub strands_sum : (k : ℕ) → k ≤ last → scan_sum (system_scan s c) (newest_first strand_at k) ≡ scan_sum_to s strand_at k
      strands_sum = strands_sum_by s (is_legal s c) (strand_below s c) fit strand_at last inside legal

  pub legal_long : (k : ℕ) (g : List ℕ) → Legal (system_scan s c) k g → length g ≡ k
  legal_long = long_by s (is_legal s c) (strand_below s c) fit

  pub each_legal : (j : ℕ) (g : List ℕ) → Legal (system_scan s c) j g → j ≤ bays s.sizes → (k : ℕ) → k < j
      → is_legal s c (bay_at s.sizes.rows s.sizes.cols k) (get_or g (j - suc k) 0) ≡ true
  each_legal = each_by s (is_legal s c) (strand_below s c) fit

  pub filling_back : (f : List ℕ) → Legal (system_scan s c) (bays s.sizes) f → filling_to s (row_by_row s.sizes.rows s.sizes.cols f) (bays s.sizes) ≡ f
  filling_back = back_by s (is_legal s c) (strand_below s c) fit
