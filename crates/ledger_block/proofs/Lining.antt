-- The walk over a bay's strands that writes a line of rows: what a turn knows of both tables. Assumes nothing.
use mathlib.Core.Path.{◌≡◌, sym, ap, ap₂, ◌∙◌, subst}
use mathlib.Core.Bool.{true, false}
use mathlib.Core.List.{List}
use Prim.Native.Nat.{ℕ, ◌+◌, ◌≤◌, ◌<◌}
use native.Mathlib.Nat.{add-zero}
use native.Mathlib.Omega.{arith}
use lib.Ieee.{Float, nan}
use lib.Dec.{eqb}
use lib.ListN.{length, get_or, set}
use Rattle.units.specs.Limits.{most_strands}
use Rattle.floats.specs.declared.Choice.{Choice}
use Rattle.sets.specs.Set.{has, word, next_of, rest_of}
use Rattle.sets.proofs.Members.{member}
use Rattle.sets.proofs.Taking.{Left, all_left, taken, all_taken}
use Rattle.ledger_rows.specs.Blocks.{tab, candidate_from}
use Rattle.ledger_rows.proofs.Choosing.{chosen}
use Rattle.ledger_rows.proofs.Lists.{length_tab, tab_none, tab_more}
use Rattle.ledger_row_choice.specs.declared.Own.{Own}
use Rattle.ledger_row_choice.specs.Row.{strands_of, own_adds, own_row}
use Rattle.ledger_block.specs.Block.{over, part}
use Rattle.ledger_block.proofs.Over.{over_none, length_over, over_store}

-- a noted strand is below 64
pub who_small : (own : Own) (major before : List Float) (leaving width q : ℕ) → 0 < length (strands_of leaving) → (own_row own major before leaving width q).who < most_strands
who_small own major before leaving width q some =
    let next = candidate_from before width (strands_of leaving) (λ a s. own_adds own major s) q in
    let found = chosen next (length (strands_of leaving)) some in
    subst (λ s. s < most_strands) (sym (ap (λ (c : Choice). c.who) found.1.held)) (member (has leaving) most_strands found.0 0 found.1.within).below

-- the rows of the first `count` strands are written from `at` on, the strands of `left` are still to come, and j is the next place
pub record Lining (line at : ℕ) (f : ℕ → Choice) (energies₀ energies : List Float) (notes₀ notes : List ℕ) (left j : ℕ) : Type 0 where
  pub energies_fit : at + length (strands_of line) ≤ length energies₀
  pub notes_fit : at + length (strands_of line) ≤ length notes₀
  pub count : ℕ
  pub walks : Left most_strands line count left
  pub place : j ≡ at + count
  pub energies_are : energies ≡ over energies₀ at (tab (λ p. (f p).energy) count)
  pub notes_are : notes ≡ over notes₀ at (tab (λ p. (f p).who) count)

pub line_starts : (line at : ℕ) (f : ℕ → Choice) (energies₀ : List Float) (notes₀ : List ℕ) → at + length (strands_of line) ≤ length energies₀
    → at + length (strands_of line) ≤ length notes₀ → Lining line at f energies₀ energies₀ notes₀ notes₀ line at
line_starts line at f energies₀ notes₀ fit fit-too =
    record {
      energies_fit = fit;
      notes_fit = fit-too;
      count = 0;
      walks = all_left most_strands line;
      place = sym (add-zero at);
      energies_are = sym (ap (over energies₀ at) (tab_none (λ p. (f p).energy)) ∙ over_none energies₀ at);
      notes_are = sym (ap (over notes₀ at) (tab_none (λ p. (f p).who)) ∙ over_none notes₀ at);
    }

module _ {line at : ℕ} {f : ℕ → Choice} {energies₀ energies : List Float} {notes₀ notes : List ℕ} {left j : ℕ} (l : Lining line at f energies₀ energies notes₀ notes left j) where
  pub energies_long : length energies ≡ length energies₀
  energies_long =
      ap length l.energies_are ∙ length_over energies₀ at (tab (λ p. (f p).energy) l.count) (omega (arith, length_tab (λ p. (f p).energy) l.count, l.walks.counted, l.energies_fit))

  pub notes_long : length notes ≡ length notes₀
  notes_long =
      ap length l.notes_are ∙ length_over notes₀ at (tab (λ p. (f p).who) l.count) (omega (arith, length_tab (λ p. (f p).who) l.count, l.walks.counted, l.notes_fit))

  module _ (more : eqb (length (strands_of left)) 0 ≡ false) where
    pub energies_room : j < length energies
    energies_room = omega (arith, l.place, (taken l.walks more).in_list, energies_long, l.energies_fit)

    pub notes_room : j < length notes
    notes_room = omega (arith, l.place, (taken l.walks more).in_list, notes_long, l.notes_fit)

    -- the strand at the next position is the first that is left
    pub line_strand : {t : ℕ} → t ≡ next_of (has left) 0 most_strands → t ≡ get_or (strands_of line) l.count 0
    line_strand e = e ∙ (taken l.walks more).here

    pub line_small : {t : ℕ} → t ≡ next_of (has left) 0 most_strands → t < most_strands
    line_small e = omega (arith, e, (taken l.walks more).below)

    pub line_fewer : {rest : ℕ} → rest ≡ word (rest_of (has left) most_strands) most_strands → length (strands_of rest) < length (strands_of left)
    line_fewer {rest} made = ((taken l.walks more).goes_on rest made).1

    pub line_turns : {rest : ℕ} (best : Choice) → rest ≡ word (rest_of (has left) most_strands) most_strands → best ≡ f l.count
        → Lining line at f energies₀ (set energies j best.energy) notes₀ (set notes j best.who) rest (j + 1)
    line_turns {rest} best made e =
        let t = taken l.walks more in
        record {
          energies_fit = l.energies_fit;
          notes_fit = l.notes_fit;
          count = l.count + 1;
          walks = (t.goes_on rest made).0;
          place = omega (arith, l.place);
          energies_are = written (λ c. c.energy) nan energies₀ energies l.energies_are (omega (arith, l.place, t.in_list, l.energies_fit));
          notes_are = written (λ c. c.who) 0 notes₀ notes l.notes_are (omega (arith, l.place, t.in_list, l.notes_fit));
        }
      where
        written : {A : Type 0} (part : Choice → A) (d : A) (old new : List A) → new ≡ over old at (tab (λ p. part (f p)) l.count) → j < length old
            → set new j (part best) ≡ over old at (tab (λ p. part (f p)) (l.count + 1))
        written part d old new w room =
            let n = l.count in
            let xs = tab (λ i. part (f i)) n in
            ap₂ (λ l c. set l j (part c)) w e
            ∙ over_store old at xs j (part (f n)) d (l.place ∙ ap (λ i. at + i) (sym (length_tab (λ i. part (f i)) n))) room
            ∙ ap (over old at) (sym (tab_more (λ i. part (f i)) n))

  pub line_ends : eqb (length (strands_of left)) 0 ≡ true
      → (energies ≡ over energies₀ at (tab (λ p. (f p).energy) (length (strands_of line)))) × (notes ≡ over notes₀ at (tab (λ p. (f p).who) (length (strands_of line))))
  line_ends none =
      let all = all_taken l.walks none in (
        l.energies_are ∙ ap (λ n. over energies₀ at (tab (λ p. (f p).energy) n)) all,
        l.notes_are ∙ ap (λ n. over notes₀ at (tab (λ p. (f p).who) n)) all,
      )
