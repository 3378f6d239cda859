-- Strands in scan order, laid out row by row, are the filling's layout. Assumes nothing.
use Prim.Native.Nat.{ℕ, zero, suc, ◌+◌, ◌*◌, ◌-◌, ◌<◌}
use mathlib.Core.Path.{◌≡◌, refl, sym, ◌∙◌, ap, ap₂, subst}
use mathlib.Core.List.{List, [], ◌∷◌, ◌++◌}
use mathlib.Core.Logic.{⊎_elim}
use native.Mathlib.Nat.{eq-or-lt_of_le, le_of_suc-le-suc}
use native.Mathlib.Numerals.{add-one}
use native.Mathlib.Omega.{arith}
use lib.ListN.{length, get_or, length-append, get_or-append}
use lib.Seq.{get_or_at}
use Rattle.bay_scan_order.specs.Scan.{number_at}
use Rattle.bay_scan_order.proofs.Scanned.{number_inside}
use Rattle.ledger_rows.specs.Scan.{Scan}
use Rattle.ledger_rows.specs.Blocks.{tab}
use Rattle.ledger_rows.specs.Trace.{trace}
use Rattle.ledger_way_back.specs.Tracing.{in_order}
use Rattle.run_least_layout.specs.Run.{row_by_row}

pub length_trace : (z : Scan) (k i : ℕ) → length (trace z k i) ≡ k
unfolding trace
length_trace z zero i = refl
length_trace z (suc k) i = ap suc (length_trace z k _)

length_order : (f : List ℕ) → length (in_order f) ≡ length f
unfolding in_order
length_order [] = refl
length_order (t ∷ f) = length-append (in_order f) (t ∷ []) ∙ ap (λ (k : ℕ). k + 1) (length_order f) ∙ add-one (length f)

order_at : (f : List ℕ) (k : ℕ) → k < length f → get_or (in_order f) k 0 ≡ get_or f (length f - suc k) 0
unfolding in_order
order_at [] k h = absurd (omega (arith, h))
order_at (t ∷ f) k h = ⊎_elim newest (earlier (order_at f k)) (eq-or-lt_of_le (le_of_suc-le-suc h))
  where
    newest : k ≡ length f → get_or (in_order f ++ (t ∷ [])) k 0 ≡ get_or (t ∷ f) (suc (length f) - suc k) 0
    newest e =
        let first : suc (length f) - suc k ≡ 0 = omega (arith, e) in
        get_or_at (in_order f) t [] 0 k (length_order f ∙ sym e) ∙ ap (λ (i : ℕ). get_or (t ∷ f) i 0) (sym first)

    earlier : (k < length f → get_or (in_order f) k 0 ≡ get_or f (length f - suc k) 0) → k < length f → get_or (in_order f ++ (t ∷ [])) k 0 ≡ get_or (t ∷ f) (suc (length f) - suc k) 0
    earlier old l =
        let next : suc (length f) - suc k ≡ suc (length f - suc k) = omega (arith, l) in
        get_or-append (in_order f) (t ∷ []) 0 k (subst (λ (m : ℕ). k < m) (sym (length_order f)) l) ∙ old l ∙ ap (λ (i : ℕ). get_or (t ∷ f) i 0) (sym next)

pub tab_same : (f g : ℕ → ℕ) (n : ℕ) → ((i : ℕ) → i < n → f i ≡ g i) → tab f n ≡ tab g n
unfolding tab
tab_same f g zero e = refl
tab_same f g (suc n) e = ap₂ (λ (l : List ℕ) (x : ℕ). l ++ (x ∷ [])) (tab_same f g n (λ i h. e i (omega (arith, h)))) (e n (omega arith))

pub laid_out : (rows cols : ℕ) (f : List ℕ) → length f ≡ rows * cols → tab (λ (bay : ℕ). get_or (in_order f) (number_at rows cols bay) 0) (rows * cols) ≡ row_by_row rows cols f
laid_out rows cols f long =
    tab_same (λ (bay : ℕ). get_or (in_order f) (number_at rows cols bay) 0) (λ (bay : ℕ). get_or f (rows * cols - suc (number_at rows cols bay)) 0) (rows * cols)
    (λ bay h. order_at f (number_at rows cols bay) (subst (λ (m : ℕ). number_at rows cols bay < m) (sym long) (number_inside rows cols bay h)) ∙ ap (λ (m : ℕ). get_or f (m - suc (number_at rows cols bay)) 0) long)
