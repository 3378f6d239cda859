-- One step back: what the code's numbers are, from a row of bay k's block. Assumes nothing.
use mathlib.Core.Path.{◌≡◌, sym, ap, ap₂, ◌∙◌, subst}
use mathlib.Core.List.{List, []}
use Prim.Native.Nat.{ℕ, suc, ◌+◌, ◌-◌, ◌*◌, ◌/◌, ◌≤◌, ◌<◌}
use native.Mathlib.Nat.{mul-div_cancel, mul-le-mul, div-le_self}
use native.Mathlib.Numerals.{add-one}
use native.Mathlib.Decide.{dec_lt}
use native.Mathlib.Omega.{arith}
use lib.ListN.{length, get_or}
use Rattle.units.specs.Limits.{most_rows, most_strands}
use Rattle.sets.specs.Set.{has, members}
use Rattle.sets.proofs.Members.{length_le}
use Rattle.ledger_rows.specs.Scan.{Scan}
use Rattle.ledger_rows.specs.Blocks.{size, leavers, need}
use Rattle.ledger_rows.specs.Trace.{below}
use Rattle.ledger_rows.proofs.Numbering.{size_more, size_leavers}
use Rattle.ledger_row_choice.specs.Row.{strands_of}
use Rattle.ledger_fill.specs.Handed.{no_bonds, set_scan}
use Rattle.ledger_fill.specs.Bays.{leaving_of}
use Rattle.ledger_fill.proofs.Agrees.{leaving_is}
use Rattle.ledger_fill.proofs.Sizes.{need_mono, need_more}
use Rattle.ledger_way_back.specs.declared.Place.{Place}
use Rattle.ledger_way_back.specs.Tracing.{Traceable}
use Rattle.ledger_way_back.specs.Places.{place_of, row_back}
use Rattle.ledger_way_back.proofs.Position.{below_members, below_past}

-- a step back begins at a row of bay k's block, in a table that can be gone back through
pub record OnRow (window : ℕ) (sets notes : List ℕ) (k : ℕ) (at : Place) : Type 0 where
  pub tables : Traceable window sets notes
  pub bay : k < length sets
  pub place : at ≡ place_of (set_scan window sets) (k + 1) at.row
  pub inside : at.row < size (set_scan window sets) (k + 1) (suc (window - 1))

module _ {window : ℕ} {sets notes : List ℕ} {k : ℕ} {at : Place} (o : OnRow window sets notes k at) where
  abbrev z : Scan
  z = set_scan window sets

  abbrev w : ℕ
  w = size z k (window - 1)

  abbrev count : ℕ
  count = length (strands_of (get_or sets k 0))

  pub count_some : 0 < count
  count_some = o.tables.filled k o.bay

  pub rows_are : at.rows ≡ w * count
  rows_are = ap (λ (p : Place). p.rows) o.place ∙ ap (λ i. size z i (suc (window - 1))) (add-one k) ∙ size_more z k (window - 1)

  pub end_is : at.end ≡ need z k + at.rows
  end_is = ap (λ (p : Place). p.end) o.place ∙ need_more z k ∙ ap (λ i. need z k + i) (sym (ap (λ (p : Place). p.rows) o.place))

  pub row_in : at.row < at.rows
  row_in = subst (λ i. at.row < i) (sym (ap (λ (p : Place). p.rows) o.place)) o.inside

  pub all_few : need z k + at.rows ≤ need z (length sets)
  all_few = omega (arith, end_is, ap (λ (p : Place). p.end) o.place, need_mono z (k + 1) (length sets) (omega (arith, o.bay)))

  pub width_is : (n : ℕ) → n ≡ count → at.rows / n ≡ w
  width_is n f = ap₂ (λ (a b : ℕ). a / b) rows_are f ∙ mul-div_cancel w count_some

  pub width_small : w ≤ most_rows
  width_small = omega (arith, rows_are, mul-le-mul {n₁ = w} {m₁ = 1} {n₂ = w} {m₂ = count} (omega arith) count_some, all_few, o.tables.few_rows)

  pub from_is : at.end - at.rows ≡ need z k
  from_is = omega (arith, end_is)

  pub place_in : at.end - at.rows + at.row < length notes
  place_in = omega (arith, end_is, row_in, all_few, o.tables.noted_all)

  -- the note is a strand that leaves
  noted : below (leavers z (window - 1) k) (get_or notes (need z k + at.row) 0) < length (leavers z (window - 1) k)
  noted = o.tables.noted k at.row o.bay (subst (λ i. at.row < size z i (suc (window - 1))) (add-one k) o.inside)

  same_note : get_or notes (at.end - at.rows + at.row) 0 ≡ get_or notes (need z k + at.row) 0
  same_note = ap (λ i. get_or notes (i + at.row) 0) from_is

  -- its position is the count of the strands below it
  pub position_is : length (members (has (leaving_of window sets k)) (get_or notes (at.end - at.rows + at.row) 0)) ≡ below (leavers z (window - 1) k) (get_or notes (need z k + at.row) 0)
  position_is = go (get_or notes (need z k + at.row) 0) same_note noted (dec_lt (get_or notes (need z k + at.row) 0) most_strands)
    where
      same : strands_of (leaving_of window sets k) ≡ leavers z (window - 1) k
      same = leaving_is window sets (λ i. []) no_bonds k o.tables.some_window

      go : (s : ℕ) → get_or notes (at.end - at.rows + at.row) 0 ≡ s → below (leavers z (window - 1) k) s < length (leavers z (window - 1) k) → Dec (s < most_strands)
          → length (members (has (leaving_of window sets k)) (get_or notes (at.end - at.rows + at.row) 0)) ≡ below (leavers z (window - 1) k) s
      go s f b (yes g) =
          ap (λ i. length (members (has (leaving_of window sets k)) i)) f
          ∙ sym (below_members (has (leaving_of window sets k)) most_strands s (omega arith))
          ∙ ap (λ m. below m s) same
      go s f b (no g) =
          let past : below (leavers z (window - 1) k) s ≡ length (leavers z (window - 1) k) =
          ap (λ m. below m s) (sym same) ∙ below_past (has (leaving_of window sets k)) most_strands s (omega arith) ∙ ap length same in
          absurd (omega arith)

  leaving_few : length (leavers z (window - 1) k) ≤ most_strands
  leaving_few =
      subst (λ m. length m ≤ most_strands) (leaving_is window sets (λ i. []) no_bonds k o.tables.some_window) (length_le (has (leaving_of window sets k)) most_strands)

  pub product_few : (p : ℕ) → p ≡ below (leavers z (window - 1) k) (get_or notes (need z k + at.row) 0) → p * w ≤ most_rows * most_strands
  product_few p f = omega (arith, mul-le-mul {n₁ = p} {m₁ = w} {n₂ = most_strands} {m₂ = most_rows} (omega (arith, noted, leaving_few)) width_small)

  pub row_few : (n : ℕ) → at.row / n ≤ most_rows
  row_few n = omega (arith, div-le_self at.row n, row_in, all_few, o.tables.few_rows)

  pub leaves_few : (n : ℕ) → n ≡ length (strands_of (leaving_of window sets k)) → n * w ≤ most_rows * most_strands
  leaves_few n f = omega (arith, mul-le-mul {n₁ = n} {m₁ = w} {n₂ = most_strands} {m₂ = most_rows} (omega (arith, length_le (has (leaving_of window sets k)) most_strands)) width_small)

  pub stepped : (n p m from width : ℕ) → n ≡ count → p ≡ below (leavers z (window - 1) k) (get_or notes (need z k + at.row) 0) → m ≡ length (strands_of (leaving_of window sets k)) → width ≡ w → from ≡ need z k
      → record { row = p * width + at.row / n; rows = m * width; end = from } ≡ place_of z k (row_back z notes k at.row)
  stepped n p m from width a b c d f =
      let rows : m * width ≡ size z k (suc (window - 1)) =
      ap₂ (λ (x y : ℕ). x * y) (c ∙ ap length (leaving_is window sets (λ i. []) no_bonds k o.tables.some_window)) d ∙ sym (size_leavers z (window - 1) k) in
      let row : p * width + at.row / n ≡ row_back z notes k at.row = rw (b, d, a) in
      ap₂ (λ (x y : ℕ). record { row = x; rows = y; end = from }) row rows ∙ ap (λ (x : ℕ). record { row = row_back z notes k at.row; rows = size z k (suc (window - 1)); end = x }) f
