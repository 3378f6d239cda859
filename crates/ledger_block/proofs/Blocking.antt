-- A bay's block, line by line: what a turn knows of either table, and of both. Assumes nothing.
use mathlib.Core.Path.{◌≡◌, refl, sym, ap, ap₂, ◌∙◌, subst}
use mathlib.Core.List.{List}
use Prim.Native.Nat.{ℕ, ◌+◌, ◌*◌, ◌≤◌, ◌<◌}
use native.Mathlib.Nat.{mul-le-mul_right}
use native.Mathlib.Omega.{arith}
use lib.Ieee.{Float}
use lib.ListN.{length, get_or}
use Rattle.units.specs.Limits.{most_strands}
use Rattle.floats.specs.declared.Choice.{Choice}
use Rattle.sets.specs.Set.{has, next_of}
use Rattle.ledger_rows.specs.Blocks.{flat}
use Rattle.ledger_rows.proofs.Lists.{length_tab, flat_none, flat_more, length_flat}
use Rattle.ledger_row_choice.specs.declared.Bonds.{Bonds}
use Rattle.ledger_block.specs.declared.Bay.{Bay}
use Rattle.ledger_block.specs.declared.Stretch.{Stretch}
use Rattle.ledger_row_choice.specs.Row.{strands_of, own_row}
use Rattle.ledger_block.specs.Block.{over, part, Writable, own_of, bay_line, beside_at, following_in, bay_block}
use Rattle.ledger_block.proofs.Beside.{beside_small, beside_first, beside_next}
use Rattle.ledger_block.proofs.Over.{over_none, length_over, part_over, over_over}

-- the line for row q of what stays, in the table that holds one part of each row
abbrev line_at : {A : Type 0} → (Choice → A) → Bay → (here : List Float) (bonds : Bonds) (before : List Float) → ℕ → List A
line_at p b here bonds before q = bay_line p b here bonds before q (beside_at b.previous q)

-- q + 1 lines are no more than all
lines_fit : (q width c : ℕ) → q < width → q * c + c ≤ width * c
lines_fit q width c h =
    let more : (q + 1) * c ≤ width * c = mul-le-mul_right c (omega arith) in
    omega arith

-- ---- one table: q lines of the block are written from `end` on
pub record Written {A : Type 0} (p : Choice → A) (b : Bay) (here : List Float) (bonds : Bonds) (before : List Float) (old new : List A) (end q : ℕ) : Type 0 where
  pub lines : new ≡ over old end (flat (line_at p b here bonds before) q)

-- each line has a place for each strand of the bay
even : {A : Type 0} (p : Choice → A) (b : Bay) (here : List Float) (bonds : Bonds) (before : List Float) (q : ℕ) → length (line_at p b here bonds before q) ≡ length (strands_of b.set)
even p b here bonds before q =
    length_tab (λ i. p (own_row (own_of b here bonds.side (beside_at b.previous q) (get_or (strands_of b.set) i 0)) bonds.major before b.leaving b.width q)) (length (strands_of b.set))

none_written : {A : Type 0} (p : Choice → A) (b : Bay) (here : List Float) (bonds : Bonds) (before : List Float) (old : List A) (end : ℕ) → Written p b here bonds before old old end 0
none_written p b here bonds before old end = record { lines = sym (ap (over old end) (flat_none (line_at p b here bonds before)) ∙ over_none old end) }

module _ {A : Type 0} {p : Choice → A} {b : Bay} {here : List Float} {bonds : Bonds} {before : List Float} {old new : List A} {end q : ℕ} (w : Written p b here bonds before old new end q) where
  so_long : length (flat (line_at p b here bonds before) q) ≡ q * length (strands_of b.set)
  so_long = length_flat (line_at p b here bonds before) (length (strands_of b.set)) (even p b here bonds before) q

  written_long : end + q * length (strands_of b.set) ≤ length old → length new ≡ length old
  written_long h = ap length w.lines ∙ length_over old end (flat (line_at p b here bonds before) q) (omega (arith, so_long))

  -- the block before is as it was
  written_part : (s : Stretch) → s.from ≤ s.end → s.end ≡ end → end ≤ length old → part s new ≡ part s old
  written_part s h e l = ap (part s) w.lines ∙ part_over old end (flat (line_at p b here bonds before) q) s h (omega arith) l

  written_more : {at : ℕ} {newer : List A} → at ≡ end + q * length (strands_of b.set) → at + length (strands_of b.set) ≤ length old
      → newer ≡ over new at (line_at p b here bonds before q) → Written p b here bonds before old newer end (q + 1)
  written_more {at} e h x =
      let line = line_at p b here bonds before in
      record {
        lines =
            x
            ∙ ap (λ n. over n at (line q)) w.lines
            ∙ over_over old end (flat line q) (line q) at (e ∙ ap (λ i. end + i) (sym so_long)) (omega (arith, even p b here bonds before q))
            ∙ ap (over old end) (sym (flat_more line q));
      }

  written_all : q ≡ b.width → new ≡ over old end (bay_block p b here bonds before)
  written_all e = w.lines ∙ ap (λ n. over old end (flat (line_at p b here bonds before) n)) e

-- ---- both tables: the first q lines are written, `at` is the next place, and u is on the previous bay
pub record Blocking (b : Bay) (here : List Float) (bonds : Bonds) (s : Stretch) (energies₀ energies : List Float) (notes₀ notes : List ℕ) (u at q : ℕ) : Type 0 where
  pub some : 0 < length (strands_of b.previous)
  pub fit : Writable b s s.end (b.width * length (strands_of b.set)) (length energies₀) (length notes₀)
  pub rows : q ≤ b.width
  pub beside : u ≡ beside_at b.previous q
  pub place : at ≡ s.end + q * length (strands_of b.set)
  pub energies_are : Written (λ c. c.energy) b here bonds (part s energies₀) energies₀ energies s.end q
  pub notes_are : Written (λ c. c.who) b here bonds (part s energies₀) notes₀ notes s.end q

pub block_starts : (b : Bay) (here : List Float) (bonds : Bonds) (s : Stretch) (energies₀ : List Float) (notes₀ : List ℕ) (u : ℕ) → 0 < length (strands_of b.previous)
    → Writable b s s.end (b.width * length (strands_of b.set)) (length energies₀) (length notes₀) → u ≡ next_of (has b.previous) 0 most_strands
    → Blocking b here bonds s energies₀ energies₀ notes₀ notes₀ u s.end 0
block_starts b here bonds s energies₀ notes₀ u some fit e =
    record {
      some = some;
      fit = fit;
      rows = omega arith;
      beside = beside_first b.previous some u e;
      place = omega arith;
      energies_are = none_written (λ c. c.energy) b here bonds (part s energies₀) energies₀ s.end;
      notes_are = none_written (λ c. c.who) b here bonds (part s energies₀) notes₀ s.end;
    }

module _ {b : Bay} {here : List Float} {bonds : Bonds} {s : Stretch} {energies₀ energies : List Float} {notes₀ notes : List ℕ} {u at q : ℕ}
    (l : Blocking b here bonds s energies₀ energies notes₀ notes u at q) where
  done_fit : q * length (strands_of b.set) ≤ b.width * length (strands_of b.set)
  done_fit = mul-le-mul_right (length (strands_of b.set)) l.rows

  pub energies_kept : length energies ≡ length energies₀
  energies_kept = written_long l.energies_are (omega (arith, done_fit, l.fit.energies_fit))

  pub notes_kept : length notes ≡ length notes₀
  notes_kept = written_long l.notes_are (omega (arith, done_fit, l.fit.notes_fit))

  pub block_small : u < most_strands
  block_small = subst (λ t. t < most_strands) (sym l.beside) (beside_small b.previous l.some q)

  pub line_writable : q < b.width → Writable b s at (length (strands_of b.set)) (length energies) (length notes)
  line_writable h =
      let room = lines_fit q b.width (length (strands_of b.set)) h in
      record {
        small = l.fit.small;
        some_leave = l.fit.some_leave;
        from_end = l.fit.from_end;
        behind = omega (arith, l.place);
        energies_fit = omega (arith, l.place, room, l.fit.energies_fit, energies_kept);
        notes_fit = omega (arith, l.place, room, l.fit.notes_fit, notes_kept);
      }

  -- a line that is written from the tables as they are is the block's
  same_line : {A : Type 0} (p : Choice → A) → bay_line p b here bonds (part s energies) q u ≡ line_at p b here bonds (part s energies₀) q
  same_line p =
      ap₂ (λ (x : List Float) (t : ℕ). bay_line p b here bonds x q t) (written_part l.energies_are s l.fit.from_end refl (omega (arith, l.fit.energies_fit))) l.beside

  pub block_turns : {v count : ℕ} {energies' : List Float} {notes' : List ℕ} → q < b.width → count ≡ length (strands_of b.set) → v ≡ following_in b.previous u
      → energies' ≡ over energies at (bay_line (λ c. c.energy) b here bonds (part s energies) q u)
      → notes' ≡ over notes at (bay_line (λ c. c.who) b here bonds (part s energies) q u)
      → Blocking b here bonds s energies₀ energies' notes₀ notes' v (at + count) (q + 1)
  block_turns {v} h few n w x =
      let room = line_writable h in
      record {
        some = l.some;
        fit = l.fit;
        rows = omega arith;
        beside = beside_next b.previous l.some q u v l.beside n;
        place = omega (arith, l.place);
        energies_are = written_more l.energies_are l.place (omega (arith, room.energies_fit, energies_kept)) (w ∙ ap (over energies at) (same_line (λ c. c.energy)));
        notes_are = written_more l.notes_are l.place (omega (arith, room.notes_fit, notes_kept)) (x ∙ ap (over notes at) (same_line (λ c. c.who)));
      }

  pub block_ends : b.width ≤ q
      → (energies ≡ over energies₀ s.end (bay_block (λ c. c.energy) b here bonds (part s energies₀)))
      × (notes ≡ over notes₀ s.end (bay_block (λ c. c.who) b here bonds (part s energies₀)))
  block_ends h =
      let all : q ≡ b.width = omega (arith, l.rows) in
      (written_all l.energies_are all, written_all l.notes_are all)
