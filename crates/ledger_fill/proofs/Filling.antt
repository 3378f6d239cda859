-- Block after block: what a turn of the fill knows of both tables. Assumes nothing.
use mathlib.Core.Path.{◌≡◌, refl, sym, ap, ap₂, ◌∙◌, subst}
use mathlib.Core.List.{List, [], ◌++◌, append_assoc}
use Prim.Native.Nat.{ℕ, zero, suc, ◌+◌, ◌-◌, ◌*◌, ◌/◌, ◌≤◌, ◌<◌}
use native.Mathlib.Nat.{zero-add}
use native.Mathlib.Numerals.{add-one}
use native.Mathlib.Omega.{arith}
use lib.Ieee.{Float}
use lib.ListN.{length, take, drop, length-append, length-drop}
use lib.Seq.{take_at, drop_at, length-take-le}
use Rattle.units.specs.Limits.{most_rows, most_strands}
use Rattle.floats.specs.declared.Choice.{Choice}
use Rattle.ledger_rows.specs.Scan.{Scan}
use Rattle.ledger_rows.specs.Blocks.{flat, size, block_of, energies, notes, need, energy_table, note_table}
use Rattle.ledger_rows.proofs.SameStrands.{need_same}
use Rattle.ledger_rows.proofs.Lists.{flat_none, flat_more}
use Rattle.ledger_rows.proofs.Rows.{length_energies, length_notes}
use Rattle.ledger_rows.proofs.Tables.{length_energy_table, length_note_table}
use Rattle.ledger_block.specs.declared.Bay.{Bay}
use Rattle.ledger_block.specs.declared.Stretch.{Stretch}
use Rattle.ledger_row_choice.specs.declared.Bonds.{Bonds}
use Rattle.ledger_row_choice.specs.Row.{strands_of}
use Rattle.ledger_fill.specs.Handed.{added_of, no_bonds, set_scan, bay_row, run_scan, Fillable}
use Rattle.ledger_fill.specs.Last.{last_of, LedgerFilled}
use Rattle.ledger_block.specs.Block.{over, part, Writable, bay_block}
use Rattle.ledger_fill.specs.Bays.{leaving_of, bay_of}
use Rattle.ledger_block.proofs.Over.{over_none, length_over, over_over}
use Rattle.ledger_fill.proofs.Agrees.{block_is}
use Rattle.ledger_fill.proofs.Sizes.{need_mono, Coming, Counting, counting_starts, counting_comes, counted, counting_turns, bay_small, bay_is, bay_rows}

-- ---- what stands right before the end
part_middle : {A : Type 0} (xs ys rest : List A) (s : Stretch) → length xs ≡ s.from → s.end ≡ s.from + length ys → part s ((xs ++ ys) ++ rest) ≡ ys
part_middle xs ys rest s e f =
    ap (λ l. take (s.end - s.from) (drop s.from l)) (append_assoc xs ys rest)
    ∙ ap (take (s.end - s.from)) (drop_at xs (ys ++ rest) s.from e)
    ∙ take_at ys rest (s.end - s.from) (omega arith)

module _ (z : Scan) where
  energy_table_more : (k : ℕ) → energy_table z (k + 1) ≡ energy_table z k ++ energies z (suc k)
  unfolding energy_table
  energy_table_more k = flat_more (λ k. energies z (suc k)) k

  note_table_more : (k : ℕ) → note_table z (k + 1) ≡ note_table z k ++ notes z (suc k)
  unfolding note_table
  note_table_more k = flat_more (λ k. notes z (suc k)) k

  energy_table_none : energy_table z 0 ≡ []
  unfolding energy_table
  energy_table_none = flat_none (λ k. energies z (suc k))

  note_table_none : note_table z 0 ≡ []
  unfolding note_table
  note_table_none = flat_none (λ k. notes z (suc k))

  -- the table ends in the last block
  ends_in : (k : ℕ) → (xs : List Float) × (energy_table z k ≡ xs ++ energies z k)
  unfolding energy_table energies flat
  ends_in zero = ([], refl)
  ends_in (suc k) = (energy_table z k, refl)

  no_energies : length (energies z 0) ≡ 0
  unfolding energies
  no_energies = refl

  pub block_within : (k : ℕ) → length (energies z k) ≤ need z k
  block_within k =
      let t = ends_in k in
      omega (arith, length_energy_table z k, ap length t.1 ∙ length-append t.0 (energies z k))

  pub block_before : (k : ℕ) (s : Stretch) (rest : List Float) → s.end ≡ need z k → s.from + length (energies z k) ≡ s.end → part s (energy_table z k ++ rest) ≡ energies z k
  block_before k s rest e f =
      let t = ends_in k in
      let long : length (energy_table z k) ≡ length t.0 + length (energies z k) = ap length t.1 ∙ length-append t.0 (energies z k) in
      ap (λ l. part s (l ++ rest)) t.1 ∙ part_middle t.0 (energies z k) rest s (omega (arith, length_energy_table z k)) (sym f)

  next_energies : (k : ℕ) → block_of (λ c. c.energy) z (energies z k) k ≡ energies z (suc k)
  unfolding energies
  next_energies k = refl

  next_notes : (k : ℕ) → block_of (λ c. c.who) z (energies z k) k ≡ notes z (suc k)
  unfolding notes
  next_notes k = refl

-- where the energies of bay k stand in the table of all bays
abbrev row_at : (k : ℕ) → Stretch
row_at k = record { from = k * most_strands; end = k * most_strands + most_strands }

-- ---- the turn
-- the blocks of the first k bays are written; the last of them stands at `last`
pub record Filling (window : ℕ) (sets : List ℕ) (bays : List Float) (bonds : Bonds) (energies₀ energies' : List Float) (notes₀ notes' : List ℕ) (rows : ℕ) (last : Stretch) (k : ℕ) : Type 0 where
  pub fit : Fillable window sets bays (length energies₀) (length notes₀)
  pub counting : Counting window sets (bay_row bays) bonds (length sets) k rows last.end
  pub ends : last.from + length (energies (run_scan window sets bays bonds) k) ≡ last.end
  pub energies_are : energies' ≡ over energies₀ 0 (energy_table (run_scan window sets bays bonds) k)
  pub notes_are : notes' ≡ over notes₀ 0 (note_table (run_scan window sets bays bonds) k)

pub filling_starts : (window : ℕ) (sets : List ℕ) (bays : List Float) (bonds : Bonds) (energies₀ : List Float) (notes₀ : List ℕ) → Fillable window sets bays (length energies₀) (length notes₀)
    → Filling window sets bays bonds energies₀ energies₀ notes₀ notes₀ 1 (record { from = 0; end = 0 }) 0
filling_starts window sets bays bonds energies₀ notes₀ fit =
    let z = run_scan window sets bays bonds in
    record {
      fit = fit;
      counting = counting_starts window sets (bay_row bays) bonds (length sets) fit.room.some_window fit.room.filled;
      ends = omega (arith, no_energies z);
      energies_are = sym (ap (over energies₀ 0) (energy_table_none z) ∙ over_none energies₀ 0);
      notes_are = sym (ap (over notes₀ 0) (note_table_none z) ∙ over_none notes₀ 0);
    }

module _ {window : ℕ} {sets : List ℕ} {bays : List Float} {bonds : Bonds} {energies₀ energies' : List Float} {notes₀ notes' : List ℕ} {rows : ℕ} {last : Stretch} {k : ℕ}
    (l : Filling window sets bays bonds energies₀ energies' notes₀ notes' rows last k) where
  abbrev z : Scan
  z = run_scan window sets bays bonds

  same_need : need z (length sets) ≡ need (set_scan window sets) (length sets)
  same_need = need_same z (added_of window (λ k. []) no_bonds) (length sets)

  so_far : need z k ≤ need (set_scan window sets) (length sets)
  so_far = omega (arith, same_need, need_mono z k (length sets) l.counting.within)

  pub energies_whole : length energies' ≡ length energies₀
  energies_whole = ap length l.energies_are ∙ length_over energies₀ 0 (energy_table z k) (omega (arith, length_energy_table z k, so_far, l.fit.room.energies_fit))

  pub notes_whole : length notes' ≡ length notes₀
  notes_whole = ap length l.notes_are ∙ length_over notes₀ 0 (note_table z k) (omega (arith, length_note_table z k, so_far, l.fit.room.notes_fit))

  pub before_is : part last energies' ≡ energies z k
  before_is = ap (part last) l.energies_are ∙ block_before z k last (drop (0 + length (energy_table z k)) energies₀) l.counting.used_is l.ends

  module _ (h : k < length sets) where
    pub fill_comes : Coming window sets (bay_row bays) bonds k rows
    fill_comes = counting_comes l.counting h

    -- the row of the bay's energies
    pub bay_in : k * most_strands + most_strands ≤ length bays
    bay_in = omega (arith, l.fit.bay_energies)

    pub here_long : (here : List Float) → here ≡ part (row_at k) bays → most_strands ≤ length here
    here_long here e =
        let n : k * most_strands + most_strands - k * most_strands ≡ most_strands = omega arith in
        let long : length (drop (k * most_strands) bays) ≡ length bays - k * most_strands = length-drop (k * most_strands) bays in
        omega (arith, ap length (e ∙ ap (λ i. take i (drop (k * most_strands) bays)) n), length-take-le most_strands (drop (k * most_strands) bays) (omega (arith, bay_in)))

    module _ {b : Bay} (e : b ≡ bay_of window sets k (rows / length (strands_of (leaving_of window sets k)))) where
      next_rows : b.width * length (strands_of b.set) ≡ size z (k + 1) (suc (window - 1))
      next_rows = bay_rows fill_comes e (b.width * length (strands_of b.set)) refl

      next_end : last.end + b.width * length (strands_of b.set) ≡ need z (k + 1)
      next_end =
          counted l.counting next_rows

      room : last.end + b.width * length (strands_of b.set) ≤ need (set_scan window sets) (length sets)
      room = omega (arith, next_end, same_need, need_mono z (k + 1) (length sets) (omega arith))

      pub bay_writable : Writable b last last.end (b.width * length (strands_of b.set)) (length energies') (length notes')
      bay_writable =
          record {
            small = bay_small fill_comes e;
            some_leave = subst (λ s. 0 < length (strands_of s)) (sym (ap (λ (b : Bay). b.leaving) e)) fill_comes.some_leave;
            from_end = omega (arith, l.ends);
            behind = omega arith;
            energies_fit = omega (arith, room, l.fit.room.energies_fit, energies_whole);
            notes_fit = omega (arith, room, l.fit.room.notes_fit, notes_whole);
          }

      pub previous_some : 0 < length (strands_of b.previous)
      previous_some = subst (λ s. 0 < length (strands_of s)) (sym (ap (λ (b : Bay). b.previous) e)) (l.fit.room.filled (k - 1) (omega arith))

      -- the block that is written is the scan's
      wrote : {A : Type 0} (p : Choice → A) (here : List Float) → here ≡ part (row_at k) bays
          → bay_block p b here bonds (part last energies') ≡ block_of p z (energies z k) k
      wrote p here f =
          let n : k * most_strands + most_strands - k * most_strands ≡ most_strands = omega arith in
          ap₂ (λ (x : Bay) (before : List Float). bay_block p x here bonds before)
          (bay_is fill_comes e) before_is
          ∙ block_is window sets (bay_row bays) bonds p here (energies z k) k (size z k (window - 1)) l.fit.room.some_window refl
          (f ∙ ap (λ i. take i (drop (k * most_strands) bays)) n)

      pub filling_turns : (here newer : List Float) (noted : List ℕ) (r : ℕ) → here ≡ part (row_at k) bays
          → newer ≡ over energies' last.end (bay_block (λ c. c.energy) b here bonds (part last energies'))
          → noted ≡ over notes' last.end (bay_block (λ c. c.who) b here bonds (part last energies'))
          → r ≡ b.width * length (strands_of b.set)
          → Filling window sets bays bonds energies₀ newer notes₀ noted r (record { from = last.end; end = last.end + r }) (k + 1)
      filling_turns here newer noted r f x y c =
          let rs : r ≡ size z (k + 1) (suc (window - 1)) = c ∙ next_rows in
          let used : last.end ≡ need z k = l.counting.used_is in
          let few : last.end + r ≤ most_rows = omega (arith, c, room, l.fit.room.few_rows) in
          let le : length (energies z (suc k)) ≡ r = length_energies z k ∙ ap (λ i. size z i (suc (window - 1))) (sym (add-one k)) ∙ sym rs in
          let ln : length (notes z (suc k)) ≡ r = length_notes z k ∙ ap (λ i. size z i (suc (window - 1))) (sym (add-one k)) ∙ sym rs in
          record {
            fit = l.fit;
            counting = counting_turns l.counting h rs few;
            ends = ap (λ i. last.end + i) (ap (λ i. length (energies z i)) (add-one k) ∙ le);
            energies_are =
                x
                ∙ ap₂ (λ o n. over o last.end n) l.energies_are (wrote (λ c. c.energy) here f ∙ next_energies z k)
                ∙ over_over energies₀ 0 (energy_table z k) (energies z (suc k)) last.end (used ∙ sym (length_energy_table z k) ∙ sym (zero-add (length (energy_table z k))))
                (omega (arith, le, c, room, l.fit.room.energies_fit))
                ∙ ap (over energies₀ 0) (sym (energy_table_more z k));
            notes_are =
                y
                ∙ ap₂ (λ o n. over o last.end n) l.notes_are (wrote (λ c. c.who) here f ∙ next_notes z k)
                ∙ over_over notes₀ 0 (note_table z k) (notes z (suc k)) last.end (used ∙ sym (length_note_table z k) ∙ sym (zero-add (length (note_table z k))))
                (omega (arith, ln, c, room, l.fit.room.notes_fit))
                ∙ ap (over notes₀ 0) (sym (note_table_more z k));
          }

  pub filling_ends : length sets ≤ k
      → LedgerFilled z (length sets) last energies₀ energies' notes₀ notes'
  filling_ends h =
      let all : k ≡ length sets = omega (arith, l.counting.within) in
      let begins : last.from ≡ need z k - length (energies z k) = omega (arith, l.ends, l.counting.used_is) in
      record {
        last_is = ap₂ (λ (a b : ℕ). record { from = a; end = b }) begins l.counting.used_is ∙ ap (last_of z) all;
        energies_are = l.energies_are ∙ ap (λ i. over energies₀ 0 (energy_table z i)) all;
        notes_are = l.notes_are ∙ ap (λ i. over notes₀ 0 (note_table z i)) all;
      }
