-- The scan of a run in the system's own words: its strands are those that may lie there, and what a strand adds is the rules' number. Assumes nothing.
use Prim.Native.Nat.{ℕ, ◌+◌, ◌*◌, ◌/◌, ◌%◌, ◌≤◌, ◌<◌}
use mathlib.Core.Path.{◌≡◌, sym, ◌∙◌, ap, ap₂, subst}
use mathlib.Core.Bool.{Bool, true, cond, not, ◌&&◌}
use mathlib.Core.List.{List}
use native.Mathlib.Nat.{lt_of_lt_of_le}
use native.Mathlib.Omega.{arith}
use lib.Arith.{digits_lt, digits_div, digits_mod}
use lib.Dec.{eqb, leb}
use lib.Ieee.{Float, nan}
use lib.ListN.{length, get_or, drop}
use lib.Seq.{get_or-take, get_or-drop}
use borrow.Author.Tests.{lt-ltb}
use Rattle.units.specs.Limits.{most_strands}
use Rattle.sets.specs.Set.{has, word, members}
use Rattle.sets.proofs.Words.{has_word}
use Rattle.sets.proofs.Members.{member, member_at, members_same, length_less, rising}
use Rattle.bay_system.specs.System.{System}
use Rattle.energy_bays.specs.Energies.{nothing, bay_energy, edge_energy}
use Rattle.energy_bays.specs.ScanSum.{with_bond, bay_number}
use Rattle.bay_lists.specs.Lists.{Constraints}
use Rattle.bay_legal_at.specs.Legal.{is_legal}
use Rattle.bay_legal_at.proofs.StrandBelow.{strand_below}
use Rattle.bay_scan_order.specs.Scan.{by_rows, window, bay_at}
use Rattle.bay_legal.specs.Sets.{bays, sets_to}
use Rattle.bay_scan_order.proofs.Scanned.{bay_inside}
use Rattle.bay_legal.proofs.Seven.{set_of_bay}
use Rattle.ledger_rows.specs.Scan.{In, Rising}
use Rattle.ledger_rows.proofs.Lists.{tab_at}
use Rattle.ledger_row_choice.specs.Row.{strands_of, bond_at}
use Rattle.ledger_fill.specs.Handed.{bay_row}
use Rattle.run_scan_tables.specs.Order.{scan_sets}
use Rattle.run_tables.specs.Tables.{pair_energy, bond_table, site_energy, site_table}
use Rattle.run_least_layout.specs.Run.{scan_by, system_scan}

module _ (s : System) (may : ℕ → ℕ → Bool) where
  -- the bay that is scanned as number k
  abbrev bay : ℕ → ℕ
  bay k = bay_at s.sizes.rows s.sizes.cols k

  -- the set of a bay in scan order
  pub scanned_set : (k : ℕ) → k < bays s.sizes → get_or (scan_sets s.sizes.rows s.sizes.cols (sets_to may (bays s.sizes))) k 0 ≡ word (may (bay k)) most_strands
  scanned_set k h =
      tab_at (λ (j : ℕ). get_or (sets_to may (bays s.sizes)) (bay j) 0) (bays s.sizes) k 0 h
      ∙ set_of_bay may (bays s.sizes) (bay k) (bay_inside s.sizes.rows s.sizes.cols k h)

  -- the strands of a bay are those that may lie there, by rising number
  pub strands_by : (k : ℕ) → k < bays s.sizes → (scan_by s may).strands k ≡ members (may (bay k)) most_strands
  strands_by k h =
      ap strands_of (scanned_set k h) ∙ members_same (has (word (may (bay k)) most_strands)) (may (bay k)) most_strands (λ t l. has_word (may (bay k)) most_strands t l)

  pub rise_by : (k : ℕ) → Rising ((scan_by s may).strands k)
  rise_by k p q l h = rising (has (get_or (scan_sets s.sizes.rows s.sizes.cols (sets_to may (bays s.sizes))) k 0)) most_strands p q 0 l h

  -- a strand stands among them exactly where it may lie there
  pub in_may : (k t : ℕ) → k < bays s.sizes → In ((scan_by s may).strands k) t → may (bay k) t ≡ true
  in_may k t h i =
      let legal = may (bay k) in
      let found : In (members legal most_strands) t = subst (λ (l : List ℕ). In l t) (strands_by k h) i in
      ap legal (sym found.2) ∙ (member legal most_strands found.0 0 found.1).is_legal

  pub may_in : (k t : ℕ) → k < bays s.sizes → t < most_strands → may (bay k) t ≡ true → In ((scan_by s may).strands k) t
  may_in k t h small e =
      let legal = may (bay k) in
      subst (λ (l : List ℕ). In l t) (sym (strands_by k h)) (length (members legal t), length_less legal t most_strands small e, member_at legal most_strands t 0 small e)

  -- ---- what a strand adds
  pair_is : (north_south : Bool) (a t : ℕ) → s.sizes.strands ≤ most_strands → a < s.sizes.strands → t < s.sizes.strands
      → bond_at (bond_table s north_south) a t ≡ edge_energy s north_south a t
  pair_is north_south a t few h k =
      let f : ℕ → Float = λ i. pair_energy s north_south (i % most_strands) (i / most_strands) in
      let small : a < most_strands = lt_of_lt_of_le h few in
      let inside : t * most_strands + a < most_strands * most_strands = omega (arith, small, lt_of_lt_of_le k few) in
      tab_at f (most_strands * most_strands) (t * most_strands + a) nan inside
      ∙ ap₂ (pair_energy s north_south) (digits_mod t small) (digits_div t small)
      ∙ ap₂ (λ (p q : Bool). cond (p && q) (edge_energy s north_south a t) nothing) (lt-ltb a s.sizes.strands h) (lt-ltb t s.sizes.strands k)

  site_is : (k t : ℕ) → k < bays s.sizes → s.sizes.strands ≤ most_strands → t < s.sizes.strands
      → get_or (bay_row (site_table s) k) t nan
      ≡ bay_energy s (bay k) t
  site_is k t h few ht =
      let site : ℕ → ℕ → Float = site_energy s in
      let table = site_table s in
      let small : t < most_strands = lt_of_lt_of_le ht few in
      get_or-take most_strands (drop (k * most_strands) table) t nan small
      ∙ get_or-drop (k * most_strands) table t nan
      ∙ tab_at (λ (i : ℕ). site (bay (i / most_strands)) (i % most_strands)) (bays s.sizes * most_strands) (k * most_strands + t) nan (digits_lt h small)
      ∙ ap₂ (λ (j u : ℕ). site (bay j) u) (digits_div k small) (digits_mod k small)
      ∙ ap (λ (p : Bool). cond p (bay_energy s (bay k) t) nothing) (lt-ltb t s.sizes.strands ht)

  pub added_by : (k a u t : ℕ) → k < bays s.sizes → s.sizes.strands ≤ most_strands → a < s.sizes.strands → u < s.sizes.strands → t < s.sizes.strands
      → (scan_by s may).added k a u t ≡ bay_number s k a u t
  added_by k a u t h few ha hu ht =
      let lines = by_rows s.sizes.rows s.sizes.cols in
      let m = window s.sizes.rows s.sizes.cols in
      ap₂ (with_bond (not (eqb (k % m) 0))) (pair_is (not lines) u t few hu ht)
      (ap₂ (with_bond (leb m k)) (pair_is lines a t few ha ht) (site_is k t h few ht))

-- ---- of the legal strands
module _ (s : System) (c : Constraints) where
  abbrev at : ℕ → ℕ
  at k = bay_at s.sizes.rows s.sizes.cols k

  pub strands_are : (k : ℕ) → k < bays s.sizes → (system_scan s c).strands k ≡ members (is_legal s c (at k)) most_strands
  strands_are = strands_by s (is_legal s c)

  pub strands_rise : (k : ℕ) → Rising ((system_scan s c).strands k)
  strands_rise = rise_by s (is_legal s c)

  pub in_legal : (k t : ℕ) → k < bays s.sizes → In ((system_scan s c).strands k) t → is_legal s c (at k) t ≡ true
  in_legal = in_may s (is_legal s c)

  pub legal_in : (k t : ℕ) → k < bays s.sizes → s.sizes.strands ≤ most_strands → is_legal s c (at k) t ≡ true → In ((system_scan s c).strands k) t
  legal_in k t h few e = may_in s (is_legal s c) k t h (lt_of_lt_of_le (strand_below s c (at k) t e) few) e

  pub added_is : (k a u t : ℕ) → k < bays s.sizes → s.sizes.strands ≤ most_strands → a < s.sizes.strands → u < s.sizes.strands → t < s.sizes.strands
      → (system_scan s c).added k a u t ≡ bay_number s k a u t
  added_is = added_by s (is_legal s c)
