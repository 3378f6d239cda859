-- The way back, bay by bay: what a turn knows of the strands that are written. Assumes nothing.
use mathlib.Core.Path.{◌≡◌, sym, ap, ap₂, ◌∙◌, subst}
use mathlib.Core.List.{List, [], ◌∷◌, ◌++◌, append_assoc, append-nil}
use Prim.Native.Nat.{ℕ, suc, ◌+◌, ◌-◌, ◌%◌, ◌≤◌, ◌<◌}
use native.Mathlib.Numerals.{add-one}
use native.Mathlib.Omega.{arith}
use lib.Arith.{digits_lt}
use lib.ListN.{length, get_or, set, drop, length-set}
use lib.Seq.{drop-cons, drop-length, get_or-set_same, drop-set-lt, lt-length-set}
use Rattle.ledger_rows.specs.Scan.{Scan}
use Rattle.ledger_rows.specs.Blocks.{size}
use Rattle.ledger_rows.proofs.Numbering.{Digits, digits, size_more, size_leavers}
use Rattle.ledger_row_choice.specs.Row.{strands_of}
use Rattle.ledger_fill.specs.Handed.{set_scan}
use Rattle.ledger_way_back.specs.declared.Place.{Place}
use Rattle.ledger_way_back.specs.Tracing.{in_order, trace_in, Traceable}
use Rattle.ledger_way_back.specs.Places.{place_of, row_back}

-- a store right before what is written
drop_set : {A : Type 0} (l : List A) (k : ℕ) (v : A) → k < length l → drop k (set l k v) ≡ v ∷ drop (k + 1) l
drop_set l k v h =
    drop-cons (set l k v) k v (lt-length-set l k v h)
    ∙ ap₂ (λ (x : _) (r : List _). x ∷ r) (get_or-set_same l k v v h) (drop-set-lt (suc k) l k v (omega arith))
    ∙ ap (λ i. v ∷ drop i l) (sym (add-one k))

-- the strands from bay k on are written; the rest is to come from a row of block k
pub record Tracking (window : ℕ) (sets notes : List ℕ) (row : ℕ) (order : List ℕ) (k : ℕ) (at : Place) : Type 0 where
  pub within : k ≤ length sets
  pub place : at ≡ place_of (set_scan window sets) k at.row
  pub inside : at.row < size (set_scan window sets) k (suc (window - 1))
  pub long : length order ≡ length sets
  pub written : in_order (trace_in (set_scan window sets) notes (length sets) row) ≡ in_order (trace_in (set_scan window sets) notes k at.row) ++ drop k order

module _ (window : ℕ) (sets notes : List ℕ) where
  abbrev z : Scan
  z = set_scan window sets

  pub tracking_starts : (last : Place) (order : List ℕ) → last ≡ place_of z (length sets) last.row → last.row < size z (length sets) (suc (window - 1)) → length order ≡ length sets
      → Tracking window sets notes last.row order (length sets) last
  tracking_starts last order e h f =
      record {
        within = omega arith;
        place = e;
        inside = h;
        long = f;
        written =
            sym (ap (λ r. in_order (trace_in z notes (length sets) last.row) ++ r) (ap (λ i. drop i order) (sym f) ∙ drop-length order) ∙ append-nil (in_order (trace_in z notes (length sets) last.row)));
      }

  -- one bay of a filling more
  trace_more : (k i : ℕ)
      → in_order (trace_in z notes (k + 1) i) ≡ in_order (trace_in z notes k (row_back z notes k i)) ++ (get_or (strands_of (get_or sets k 0)) (i % length (strands_of (get_or sets k 0))) 0 ∷ [])
  unfolding trace_in in_order
  trace_more k i = rw (add-one k)

  pub back_inside : Traceable window sets notes → (k i : ℕ) → k < length sets → i < size z (k + 1) (suc (window - 1)) → row_back z notes k i < size z k (suc (window - 1))
  back_inside t k i h l =
      let low : i < size z (suc k) (suc (window - 1)) = subst (λ n. i < size z n (suc (window - 1))) (add-one k) l in
      let d : Digits i (size z k (window - 1)) (length (strands_of (get_or sets k 0))) =
      digits i (size z k (window - 1)) (length (strands_of (get_or sets k 0))) (subst (λ n. i < n) (size_more z k (window - 1)) low) in
      rw (size_leavers z (window - 1) k) (digits_lt (t.noted k i h low) d.whole)

  module _ (t : Traceable window sets notes) (row : ℕ) (order : List ℕ) (k : ℕ) (at : Place) (l : Tracking window sets notes row order (k + 1) at) where
    pub tracked_bay : k < length sets
    tracked_bay = omega (arith, l.within)

    pub tracking_turns : (strand : ℕ) (before : Place) → strand ≡ get_or (strands_of (get_or sets k 0)) (at.row % length (strands_of (get_or sets k 0))) 0
        → before ≡ place_of z k (row_back z notes k at.row) → Tracking window sets notes row (set order k strand) k before
    tracking_turns strand before s e =
        let same : before.row ≡ row_back z notes k at.row = ap (λ (p : Place). p.row) e in
        record {
          within = omega (arith, tracked_bay);
          place = e ∙ ap (place_of z k) (sym same);
          inside = subst (λ i. i < size z k (suc (window - 1))) (sym same) (back_inside t k at.row tracked_bay l.inside);
          long = length-set order k strand ∙ l.long;
          written =
              l.written
              ∙ ap (λ f. f ++ drop (k + 1) order) (trace_more k at.row)
              ∙ append_assoc (in_order (trace_in z notes k (row_back z notes k at.row))) (get_or (strands_of (get_or sets k 0)) (at.row % length (strands_of (get_or sets k 0))) 0 ∷ []) (drop (k + 1) order)
              ∙ ap₂ (λ (i u : ℕ). in_order (trace_in z notes k i) ++ (u ∷ drop (k + 1) order)) (sym same) (sym s)
              ∙ ap (λ r. in_order (trace_in z notes k before.row) ++ r) (sym (drop_set order k strand (omega (arith, tracked_bay, l.long))));
        }

  pub tracking_ends : (row : ℕ) (order : List ℕ) (k : ℕ) (at : Place) → Tracking window sets notes row order k at → k ≡ 0 → order ≡ in_order (trace_in z notes (length sets) row)
  unfolding trace_in in_order
  tracking_ends row order k at l e = sym (l.written ∙ ap (λ i. in_order (trace_in z notes i at.row) ++ drop i order) e)
