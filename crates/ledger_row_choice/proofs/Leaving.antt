-- The walk over the strands that leave: what a turn knows of the running choice and of its row in the block before. Assumes nothing.
use mathlib.Core.Path.{◌≡◌, sym, ap, ap₂, ◌∙◌}
use mathlib.Core.Bool.{true, false}
use mathlib.Core.List.{List}
use Prim.Native.Nat.{ℕ, ◌+◌, ◌*◌, ◌≤◌, ◌<◌}
use native.Mathlib.Nat.{mul-le-mul_right}
use native.Mathlib.Omega.{arith}
use borrow.Author.Tests.{ne_eqb}
use lib.Dec.{eqb}
use lib.Ieee.{Float}
use lib.ListN.{length}
use Rattle.units.specs.Limits.{most_rows, most_strands}
use Rattle.floats.specs.declared.Choice.{Choice}
use Rattle.sets.specs.Set.{has, word, next_of, rest_of}
use Rattle.sets.proofs.Members.{length_le}
use Rattle.sets.proofs.Taking.{Left, Taken, all_left, taken, all_taken}
use Rattle.ledger_rows.specs.Blocks.{lower, lowest, candidate_from}
use Rattle.ledger_rows.proofs.Choosing.{lowest_one, lowest_turn}
use Rattle.ledger_row_choice.specs.declared.Own.{Own}
use Rattle.ledger_row_choice.specs.Row.{strands_of, own_adds, left_by, own_row}

-- `count` strands have left, it is chosen from these, the strands of `left` are still to come, and i is the row that the first of them leaves
pub record Leaving (own : Own) (major before : List Float) (leaving width q left i : ℕ) (choice : Choice) : Type 0 where
  pub count : ℕ
  pub walks : Left most_strands leaving count left
  pub place : i ≡ count * width + q
  pub held : choice ≡ lowest (candidate_from before width (strands_of leaving) (λ a s. own_adds own major s) q) count

module _ (own : Own) (major before : List Float) (leaving width q : ℕ) where
  abbrev next_one : ℕ → Choice
  next_one = candidate_from before width (strands_of leaving) (λ a s. own_adds own major s) q

  -- the candidate at a position is what the strand there leaves behind
  at_position : {p left : ℕ} (s i : ℕ) → Taken most_strands leaving p left → s ≡ next_of (has left) 0 most_strands → i ≡ p * width + q → left_by own major before i s ≡ next_one p
  at_position s i t e at = ap₂ (λ (r u : ℕ). left_by own major before r u) at (e ∙ t.here)

  -- the first strand that leaves
  pub first : 0 < length (strands_of leaving) → Taken most_strands leaving 0 leaving
  first some = taken (all_left most_strands leaving) (ne_eqb (length (strands_of leaving)) 0 (omega arith))

  -- behind it the loop begins
  pub starts : {s left : ℕ} {choice : Choice} → 0 < length (strands_of leaving) → s ≡ next_of (has leaving) 0 most_strands → left ≡ word (rest_of (has leaving) most_strands) most_strands
      → choice ≡ left_by own major before q s → Leaving own major before leaving width q left (q + width) choice
  starts {s} {left} some e made held =
      record {
        count = 1;
        walks = ((first some).goes_on left made).0;
        place = omega arith;
        held = held ∙ at_position s q (first some) e (omega arith) ∙ sym (lowest_one next_one);
      }

module _ {own : Own} {major before : List Float} {leaving width q left i : ℕ} {choice : Choice} (l : Leaving own major before leaving width q left i choice)
    (more : eqb (length (strands_of left)) 0 ≡ false) where
  -- and goes from strand to strand, each below 64
  pub strand_small : {s : ℕ} → s ≡ next_of (has left) 0 most_strands → s < most_strands
  strand_small e = omega (arith, e, (taken l.walks more).below)

  pub turns : {s rest : ℕ} {chosen came : Choice} → s ≡ next_of (has left) 0 most_strands → rest ≡ word (rest_of (has left) most_strands) most_strands
      → came ≡ left_by own major before i s → chosen ≡ lower choice came → Leaving own major before leaving width q rest (i + width) chosen
  turns {s} {rest} e made c f =
      let t = taken l.walks more in
      record {
        count = l.count + 1;
        walks = (t.goes_on rest made).0;
        place = omega (arith, l.place);
        held = lowest_turn (next_one own major before leaving width q) l.count l.held (f ∙ ap (lower choice) (c ∙ at_position own major before leaving width q s i t e l.place));
      }

  pub fewer : {rest : ℕ} → rest ≡ word (rest_of (has left) most_strands) most_strands → length (strands_of rest) < length (strands_of left)
  fewer {rest} made = ((taken l.walks more).goes_on rest made).1

  -- the row's place stays small
  pub place_small : q < width → width ≤ most_rows → i ≤ most_rows * (most_strands + 1)
  place_small b w =
      let few : l.count ≤ most_strands = omega (arith, (taken l.walks more).in_list, length_le (has leaving) most_strands) in
      omega (arith, l.place, mul-le-mul_right width few)

-- until every strand has left
pub ends : {own : Own} {major before : List Float} {leaving width q left i : ℕ} {choice : Choice} → Leaving own major before leaving width q left i choice
    → eqb (length (strands_of left)) 0 ≡ true → choice ≡ own_row own major before leaving width q
ends {own} {major} {before} {leaving} {width} {q} l none = l.held ∙ ap (lowest (next_one own major before leaving width q)) (all_taken l.walks none)
