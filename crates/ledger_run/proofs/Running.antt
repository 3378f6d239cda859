-- What a filled ledger holds, for the least row, the way back, and the clearing after a bad answer. Assumes nothing.
use mathlib.Core.Path.{◌≡◌, refl, sym, ap, ap₂, ◌∙◌, subst}
use mathlib.Core.Bool.{true, false, cond}
use mathlib.Core.List.{List, ◌∷◌, ◌++◌}
use Prim.Native.Nat.{ℕ, zero, suc, ◌+◌, ◌-◌, ◌*◌, ◌/◌, ◌%◌, ◌≤◌, ◌<◌}
use native.Mathlib.Nat.{zero-add}
use native.Mathlib.Numerals.{add-one}
use native.Mathlib.Omega.{arith}
use lib.Ieee.{Float, inf, lt, binary64, of_bits}
use lib.ListN.{length, get_or, drop, replicate, length-replicate, get_or-append}
use lib.Seq.{drop_at}
use Rattle.units.specs.Limits.{most_strands}
use Rattle.floats.specs.declared.Choice.{Choice}
use Rattle.sets.specs.Set.{has}
use Rattle.sets.proofs.Members.{rising}
use Rattle.ledger_rows.specs.Scan.{Scan, Rising}
use Rattle.ledger_rows.specs.Blocks.{size, leavers, held_at, lowest, energies, notes, need, energy_table, note_table}
use Rattle.ledger_rows.specs.Trace.{below, row_before, trace, answer_row, answer, layout}
use Rattle.ledger_rows.proofs.Numbering.{size_some}
use Rattle.ledger_rows.proofs.Rows.{length_energies}
use Rattle.ledger_rows.proofs.Tables.{length_energy_table, length_note_table, notes_follow}
use Rattle.ledger_rows.proofs.SameStrands.{size_same, need_same, leavers_same}
use Rattle.ledger_rows.proofs.Answering.{answer_inside, note_leaves}
use Rattle.ledger_block.specs.declared.Stretch.{Stretch}
use Rattle.ledger_row_choice.specs.declared.Bonds.{Bonds}
use Rattle.ledger_row_choice.specs.Row.{strands_of}
use Rattle.ledger_fill.specs.Handed.{added_of, set_scan, bay_row, run_scan, Fillable}
use Rattle.ledger_block.specs.Block.{over, part}
use Rattle.ledger_fill.specs.Last.{LedgerFilled}
use Rattle.ledger_fill.proofs.Filling.{block_within, block_before}
use Rattle.ledger_block.proofs.Over.{length_over}
use Rattle.ledger_fill.proofs.Sizes.{need_mono, need_more}
use Rattle.ledger_way_back.specs.Tracing.{in_order, trace_in, Traceable}
use Rattle.ledger_way_back.specs.Places.{place_of, row_back}
use Rattle.ledger_run.specs.Run.{if_answered, table_left, LedgerRan}
use Rattle.ledger_way_back.proofs.Tracking.{back_inside}

-- what was written is written over by as many
pub over_again : {A : Type 0} (old new newer : List A) → length new ≡ length newer → over (over old 0 new) 0 newer ≡ over old 0 newer
over_again old new newer e =
    ap (λ r. newer ++ r)
    (drop_at new (drop (0 + length new) old) (0 + length newer) (e ∙ sym (zero-add (length newer))) ∙ ap (λ n. drop (0 + n) old) e)

-- the strands of a set rise
pub sets_rise : (set : ℕ) → Rising (strands_of set)
sets_rise set p q h l = rising (has set) most_strands p q 0 h l

-- the need that is counted from the sets is the run's
pub need_is : (window : ℕ) (sets : List ℕ) (bays : List Float) (bonds : Bonds) (k : ℕ) → need (set_scan window sets) k ≡ need (run_scan window sets bays bonds) k
need_is window sets bays bonds = need_same (set_scan window sets) (added_of window (bay_row bays) bonds)

-- a refused run leaves the layout as it was
pub kept_order : (z : Scan) (n : ℕ) (order₀ : List ℕ) → lt (inf true) (answer z n) ≡ false → order₀ ≡ if_answered z n (in_order (layout z n)) order₀
kept_order z n order₀ bad = sym (ap (λ b. cond b (in_order (layout z n)) order₀) bad)

-- what is known once the ledger is filled: where the last block stands, and what both tables hold
pub record OnceFilled (window : ℕ) (sets : List ℕ) (bays : List Float) (bonds : Bonds) (energies₀ : List Float) (notes₀ : List ℕ) (last : Stretch) (filled : List Float) (noted : List ℕ) : Type 0 where
  pub some : 0 < length sets
  pub fit : Fillable window sets bays (length energies₀) (length notes₀)
  pub done : LedgerFilled (run_scan window sets bays bonds) (length sets) last energies₀ filled notes₀ noted

module _ {window : ℕ} {sets : List ℕ} {bays : List Float} {bonds : Bonds} {energies₀ : List Float} {notes₀ : List ℕ} {last : Stretch} {filled : List Float} {noted : List ℕ}
    (r : OnceFilled window sets bays bonds energies₀ notes₀ last filled noted) where
  abbrev z : Scan
  z = run_scan window sets bays bonds

  abbrev zs : Scan
  zs = set_scan window sets

  abbrev n : ℕ
  n = length sets

  size_is : (k j : ℕ) → size zs k j ≡ size z k j
  size_is = size_same zs (added_of window (bay_row bays) bonds)

  need_at : (k : ℕ) → need zs k ≡ need z k
  need_at = need_is window sets bays bonds

  leavers_are : (j k : ℕ) → leavers zs j k ≡ leavers z j k
  leavers_are = leavers_same zs (added_of window (bay_row bays) bonds)

  last_size : length (energies z n) ≡ size z n (suc (window - 1))
  last_size = go n refl r.some
    where
      go : (m : ℕ) → n ≡ m → 0 < m → length (energies z n) ≡ size z n (suc (window - 1))
      go zero e h = absurd (omega arith)
      go (suc m) e h = rw e (length_energies z m)

  end_is : last.end ≡ need z n
  end_is = ap (λ (l : Stretch). l.end) r.done.last_is

  from_is : last.from + length (energies z n) ≡ last.end
  from_is = omega (arith, ap (λ (l : Stretch). l.from) r.done.last_is, end_is, block_within z n)

  pub last_in_order : last.from ≤ last.end
  last_in_order = omega (arith, from_is)

  pub last_energies : last.end ≤ length energies₀
  last_energies = omega (arith, end_is, need_at n, r.fit.room.energies_fit)

  pub last_notes : last.end ≤ length notes₀
  last_notes = omega (arith, end_is, need_at n, r.fit.room.notes_fit)

  pub filled_long : length filled ≡ length energies₀
  filled_long = ap length r.done.energies_are ∙ length_over energies₀ 0 (energy_table z n) (omega (arith, length_energy_table z n, need_at n, r.fit.room.energies_fit))

  last_block : part last filled ≡ energies z n
  last_block = ap (part last) r.done.energies_are ∙ block_before z n last (drop (0 + length (energy_table z n)) energies₀) end_is from_is

  pub last_some : 0 < length (part last filled)
  last_some = subst (λ m. 0 < m) (sym (ap length last_block ∙ last_size)) (size_some z n (suc (window - 1)) r.fit.room.filled)

  -- the least row of the last block is the answer's
  pub answer_is : (best : Choice) → best ≡ lowest (λ i. record { energy = held_at (part last filled) i; who = i }) (length (part last filled))
      → best ≡ answer_row z n
  unfolding answer_row
  answer_is best g =
      g
      ∙ ap (λ (b : List Float). lowest (λ i. record { energy = held_at b i; who = i }) (length b)) last_block
      ∙ ap (lowest (λ i. record { energy = held_at (energies z n) i; who = i })) last_size

  -- a written table, cleared after a bad answer and kept after a good one
  module _ {A : Type 0} (blank : A) (new old : List A) {written : List A} (w : written ≡ over old 0 new) where
    cleared : length new ≡ need z n → {blanks : List A} → blanks ≡ over written 0 (replicate last.end blank) → lt (inf true) (answer z n) ≡ false
        → blanks ≡ table_left z n blank new old
    cleared long g bad =
        g
        ∙ ap₂ (λ (l : List A) (m : ℕ). over l 0 (replicate m blank)) w end_is
        ∙ over_again old new (replicate (need z n) blank) (long ∙ sym (length-replicate (need z n) blank))
        ∙ sym (ap (λ b. over old 0 (cond b new (replicate (need z n) blank))) bad)

    kept : lt (inf true) (answer z n) ≡ true → written ≡ table_left z n blank new old
    kept good = w ∙ sym (ap (λ b. over old 0 (cond b new (replicate (need z n) blank))) good)

  -- ---- the notes
  pub noted_long : length noted ≡ length notes₀
  noted_long = ap length r.done.notes_are ∙ length_over notes₀ 0 (note_table z n) (omega (arith, length_note_table z n, need_at n, r.fit.room.notes_fit))

  note_read : (k i : ℕ) → k < n → i < size z (suc k) (suc (window - 1)) → get_or noted (need zs k + i) 0 ≡ get_or (notes z (suc k)) i 0
  note_read k i h l =
      let room : need z k + i < length (note_table z n) =
      omega (arith, length_note_table z n, need_more z k, ap (λ m. size z m (suc (window - 1))) (add-one k), need_mono z (k + 1) n (omega arith)) in
      ap₂ (λ (t : List ℕ) (m : ℕ). get_or t (m + i) 0) r.done.notes_are (need_at k)
      ∙ get_or-append (note_table z n) (drop (0 + length (note_table z n)) notes₀) 0 (need z k + i) room
      ∙ notes_follow z n k i h l

  pub traceable : Traceable window sets noted
  traceable =
      record {
        some_window = r.fit.room.some_window;
        filled = r.fit.room.filled;
        few_rows = r.fit.room.few_rows;
        noted_all = omega (arith, noted_long, r.fit.room.notes_fit);
        noted = λ k i h l.
            let low : i < size z (suc k) (suc (window - 1)) = subst (λ m. i < m) (size_is (suc k) (suc (window - 1))) l in
            rw (note_read k i h low, leavers_are (window - 1) k) (note_leaves z n r.fit.room.filled (λ k. sets_rise (get_or sets k 0)) k i h low);
      }

  back_same : (k i : ℕ) → k < n → i < size z (suc k) (suc (window - 1)) → row_back zs noted k i ≡ row_before z k i
  back_same k i h l =
      ap₂ (λ (t w : ℕ). below (leavers zs (window - 1) k) t * w + i / length (strands_of (get_or sets k 0))) (note_read k i h l) (size_is k (window - 1))
      ∙ ap (λ (m : List ℕ). below m (get_or (notes z (suc k)) i 0) * size z k (window - 1) + i / length (strands_of (get_or sets k 0))) (leavers_are (window - 1) k)

  trace_same : (k i : ℕ) → k ≤ n → i < size z k (suc (window - 1)) → trace_in zs noted k i ≡ trace z k i
  unfolding trace_in trace
  trace_same zero i h l = refl
  trace_same (suc k) i h l =
      let same = back_same k i h l in
      let low : i < size zs (k + 1) (suc (window - 1)) = subst (λ m. i < m) (sym (ap (λ m. size zs m (suc (window - 1))) (add-one k) ∙ size_is (suc k) (suc (window - 1)))) l in
      let inside : row_before z k i < size z k (suc (window - 1)) =
      subst (λ m. row_before z k i < m) (size_is k (suc (window - 1))) (subst (λ v. v < size zs k (suc (window - 1))) same (back_inside window sets noted traceable k i h low)) in
      ap (λ (f : List ℕ). get_or (strands_of (get_or sets k 0)) (i % length (strands_of (get_or sets k 0))) 0 ∷ f) (ap (trace_in zs noted k) same ∙ trace_same k (row_before z k i) (omega arith) inside)

  -- ---- the place from which the way back begins
  module _ (best : Choice) (g : best ≡ answer_row z n) where
    pub answer_place : record { row = best.who; rows = last.end - last.from; end = last.end } ≡ place_of zs n best.who
    answer_place =
        let rows : last.end - last.from ≡ size zs n (suc (window - 1)) = omega (arith, from_is, last_size, size_is n (suc (window - 1))) in
        let ends : last.end ≡ need zs n = omega (arith, end_is, need_at n) in
        ap₂ (λ (a b : ℕ). record { row = best.who; rows = a; end = b }) rows ends

    pub answer_row_in : best.who < size zs n (suc (window - 1))
    answer_row_in = rw (size_is n (suc (window - 1)), g) (answer_inside z n r.fit.room.filled)

    pub traced_order : (order₀ order : List ℕ) → order ≡ in_order (trace_in zs noted n best.who) → lt (inf true) (answer z n) ≡ true
        → order ≡ if_answered z n (in_order (layout z n)) order₀
    traced_order order₀ order o good =
        let row : best.who ≡ (answer_row z n).who = ap (λ (c : Choice). c.who) g in
        o
        ∙ ap (λ i. in_order (trace_in zs noted n i)) row
        ∙ ap in_order (trace_same n (answer_row z n).who (omega arith) (answer_inside z n r.fit.room.filled))
        ∙ sym (ap (λ b. cond b (in_order (layout z n)) order₀) good)

  -- ---- what the run leaves
  -- refused with 10
  pub ran_bad : {x : Float} {energies₁ : List Float} {notes₁ : List ℕ} (order₀ : List ℕ) → x ≡ answer z n → lt (inf true) (answer z n) ≡ false
      → energies₁ ≡ over filled 0 (replicate last.end (of_bits binary64 0)) → notes₁ ≡ over noted 0 (replicate last.end 0)
      → LedgerRan z n x order₀ order₀ energies₀ energies₁ notes₀ notes₁
  ran_bad order₀ e bad es ns =
      record {
        sum = e;
        order = kept_order z n order₀ bad;
        energies = cleared (of_bits binary64 0) (energy_table z n) energies₀ r.done.energies_are (length_energy_table z n) es bad;
        notes = cleared 0 (note_table z n) notes₀ r.done.notes_are (length_note_table z n) ns bad;
      }

  -- answered
  pub ran_good : {x : Float} {order₁ : List ℕ} (order₀ : List ℕ) → x ≡ answer z n → lt (inf true) (answer z n) ≡ true
      → order₁ ≡ if_answered z n (in_order (layout z n)) order₀ → LedgerRan z n x order₀ order₁ energies₀ filled notes₀ noted
  ran_good order₀ e good o =
      record {
        sum = e;
        order = o;
        energies = kept (of_bits binary64 0) (energy_table z n) energies₀ r.done.energies_are good;
        notes = kept 0 (note_table z n) notes₀ r.done.notes_are good;
      }
