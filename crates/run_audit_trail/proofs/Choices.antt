-- The rows of a block in the system's own words are those of the ledger over any scan, each turned round. Assumes nothing.
use Prim.Native.Nat.{ℕ, zero, suc, ◌+◌, ◌-◌, ◌≤◌, ◌<◌, min}
use mathlib.Core.Path.{◌≡◌, refl, sym, ◌∙◌, ap, ap₂}
use mathlib.Core.Bool.{Bool, true, false, cond}
use mathlib.Core.List.{List, [], ◌∷◌, ◌++◌, map, append-nil}
use native.Mathlib.Decide.{dec_lt}
use native.Mathlib.Omega.{arith}
use lib.Dec.{leb}
use lib.ListN.{length, get_or, take, drop, length-map, get_or-map}
use borrow.Author.Tests.{leb-true, leb-false}
use Rattle.sets.specs.Set.{members, alone}
use Rattle.bay_system.specs.System.{System, bays}
use Rattle.bay_lists.specs.Lists.{Constraints}
use Rattle.bay_legal_at.specs.Legal.{is_legal}
use Rattle.bay_legal_at.specs.Layouts.{legal_strands}
use Rattle.bay_scan_order.specs.Scan.{window, bay_at}
use Rattle.ledger_rows.specs.Scan.{Scan}
use Rattle.ledger_rows.specs.Blocks.{need}
use Rattle.ledger_rows.specs.LeastEnergyTheorem.{each_with, choices as scan_choices, windows, EndsIn as ScanEndsIn}
use Rattle.ledger_rows.proofs.Windows.{length_choices}
use Rattle.run_least_layout.specs.Run.{system_scan}
use Rattle.bay_legal_at.proofs.StrandBelow.{strand_below}
use Rattle.run_least_layout.proofs.Meaning.{strands_are}
use Rattle.run_least_layout.proofs.Fillings.{Fit, newest_first}
use Rattle.run_audit_trail.specs.Rows.{shorter_side, window_after, oldest, each_then, choices, rows_after, begins, EndsIn}
use Rattle.run_audit_trail.proofs.Turned.{turned, length_turned, turned_twice, turned_more, turned_drop, take_fewer}

-- the members of a set below a number are all of them where none is larger
members_all : (p : ℕ → Bool) (n d : ℕ) → ((t : ℕ) → p t ≡ true → t < n) → members p (n + d) ≡ members p n
unfolding members
members_all p n zero below = let none : n + 0 ≡ n = omega arith in ap (members p) none
members_all p n (suc d) below =
    let more : n + suc d ≡ suc (n + d) = omega arith in
    ap (members p) more ∙ none (p (n + d)) refl ∙ append-nil (members p (n + d)) ∙ members_all p n d below
  where
    none : (b : Bool) → p (n + d) ≡ b → members p (n + d) ++ alone (p (n + d)) (n + d) ≡ members p (n + d) ++ []
    none true e = absurd (omega (arith, below (n + d) e))
    none false e = ap (λ (b : Bool). members p (n + d) ++ alone b (n + d)) e

pub side_is : (rows cols : ℕ) → window rows cols ≡ min rows cols
side_is rows cols = by (leb cols rows) refl
  where
    by : (b : Bool) → leb cols rows ≡ b → cond (leb cols rows) cols rows ≡ min rows cols
    by true e = rw e (omega (arith, leb-true cols rows e))
    by false e = rw e (omega (arith, leb-false cols rows e))

-- a strand more in front of each turned choice
each_turned : (ws : List (List ℕ)) (l : List ℕ) → each_with (map turned ws) l ≡ map turned (each_then ws l)
unfolding each_with each_then
each_turned [] l = refl
each_turned (w ∷ ws) l = ap₂ (λ (a b : List (List ℕ)). a ++ b) (front l) (each_turned ws l) ∙ sym (map_both turned (map (λ t. w ++ (t ∷ [])) l) (each_then ws l))
  where
    front : (l : List ℕ) → map (λ t. t ∷ turned w) l ≡ map turned (map (λ t. w ++ (t ∷ [])) l)
    front [] = refl
    front (t ∷ l) = ap₂ (λ (a : List ℕ) (b : List (List ℕ)). a ∷ b) (sym (turned_more w t)) (front l)

    map_both : (f : List ℕ → List ℕ) (a b : List (List ℕ)) → map f (a ++ b) ≡ map f a ++ map f b
    map_both f [] b = refl
    map_both f (x ∷ a) b = ap (λ (r : List (List ℕ)). f x ∷ r) (map_both f a b)

-- on more bays than there are, the choices are those on all
all_bays : (z : Scan) (k j : ℕ) → k ≤ j → scan_choices z k j ≡ scan_choices z k k
unfolding scan_choices
all_bays z zero j h = refl
all_bays z (suc k) zero h = absurd (omega (arith, h))
all_bays z (suc k) (suc j) h = ap (λ (w : List (List ℕ)). each_with w (z.strands k)) (all_bays z k j (omega (arith, h)))

module _ (s : System) (c : Constraints) (fit : Fit s) where
  abbrev z : Scan
  z = system_scan s c

  abbrev n : ℕ
  n = bays s.sizes

  pub strands_all : (k : ℕ) → k < n → z.strands k ≡ legal_strands s c k
  strands_all k h =
      let bay = bay_at s.sizes.rows s.sizes.cols k in
      let most : 64 ≡ s.sizes.strands + (64 - s.sizes.strands) = omega (arith, fit.strands) in
      strands_are s c k h
      ∙ ap (members (is_legal s c bay)) most
      ∙ members_all (is_legal s c bay) s.sizes.strands (64 - s.sizes.strands) (λ t e. strand_below s c bay t e)

  -- the window of the scan is the shorter side
  pub kept_is : suc z.kept ≡ shorter_side s
  kept_is = omega (arith, fit.some_window, side_is s.sizes.rows s.sizes.cols)

  choices_turned : (j k : ℕ) → j ≤ k → k ≤ n → scan_choices z k j ≡ map turned (choices s c (k - j) j)
  unfolding scan_choices choices newest_first
  choices_turned zero zero h b = refl
  choices_turned zero (suc k) h b = refl
  choices_turned (suc j) zero h b = absurd (omega (arith, h))
  choices_turned (suc j) (suc k) h b =
      let from : suc k - suc j ≡ k - j = omega arith in
      let newest : k - j + j ≡ k = omega (arith, h) in
      ap₂ each_with (choices_turned j k (omega (arith, h)) (omega (arith, b))) (strands_all k b ∙ ap (legal_strands s c) (sym newest))
      ∙ each_turned (choices s c (k - j) j) (legal_strands s c (k - j + j))
      ∙ ap (λ (a : ℕ). map turned (each_then (choices s c a j) (legal_strands s c (a + j)))) (sym from)

  pub windows_turned : (k : ℕ) → k < n → windows z (suc k) ≡ map turned (rows_after s c k)
  windows_turned k h = ap (scan_choices z (suc k)) kept_is ∙ fewer (dec_lt k (shorter_side s)) ∙ choices_turned (window_after s k) (suc k) (omega arith) h
    where
      fewer : Dec (k < shorter_side s) → scan_choices z (suc k) (shorter_side s) ≡ scan_choices z (suc k) (window_after s k)
      fewer (yes l) =
          let all : suc k ≡ window_after s k = omega (arith, l) in
          all_bays z (suc k) (shorter_side s) l ∙ ap (scan_choices z (suc k)) all
      fewer (no l) = let side : shorter_side s ≡ window_after s k = omega (arith, l) in ap (scan_choices z (suc k)) side

  pub rows_many : (k : ℕ) → k < n → length (windows z (suc k)) ≡ length (rows_after s c k)
  rows_many k h = ap length (windows_turned k h) ∙ length-map (rows_after s c k) turned

  pub window_turned : (k i : ℕ) → k < n → get_or (windows z (suc k)) i [] ≡ turned (get_or (rows_after s c k) i [])
  unfolding newest_first
  window_turned k i h = ap (λ (w : List (List ℕ)). get_or w i []) (windows_turned k h) ∙ get_or-map turned (rows_after s c k) i []

  -- where a block begins
  pub begins_at : (k : ℕ) → k ≤ n → need z k ≡ begins s c k
  unfolding need begins
  begins_at zero h = refl
  begins_at (suc k) h =
      ap₂ (λ (a b : ℕ). a + b) (begins_at k (omega (arith, h))) (sym (length_choices z (suc k) (suc z.kept)) ∙ rows_many k h)

  -- a filling and its turned one end in the same row
  module _ (k i : ℕ) (f : List ℕ) (h : k < n) (long : length f ≡ suc k) where
    last_turned : take (suc z.kept) (turned f) ≡ turned (drop (oldest s k) f)
    last_turned =
        let rest : length f - oldest s k ≡ min (length (turned f)) (shorter_side s) = omega (arith, long, length_turned f) in
        ap (λ (m : ℕ). take m (turned f)) kept_is
        ∙ sym (take_fewer (turned f) (shorter_side s))
        ∙ ap (λ (m : ℕ). take m (turned f)) (sym rest)
        ∙ sym (turned_drop f (oldest s k))

    pub ends_turned : EndsIn s c k i f → ScanEndsIn z (suc k) i (turned f)
    ends_turned e = last_turned ∙ ap turned e ∙ sym (window_turned k i h)

    pub turned_ends : ScanEndsIn z (suc k) i (turned f) → EndsIn s c k i f
    turned_ends e =
        sym (turned_twice (drop (oldest s k) f)) ∙ ap turned (sym last_turned ∙ e ∙ window_turned k i h) ∙ turned_twice (get_or (rows_after s c k) i [])
