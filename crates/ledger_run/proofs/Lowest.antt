-- The walk over the rows of a block for the least. Assumes nothing.
use mathlib.Core.Path.{◌≡◌, sym, ap, ◌∙◌}
use mathlib.Core.List.{List}
use Prim.Native.Nat.{ℕ, ◌+◌, ◌<◌}
use lib.Ieee.{Float, nan, binary64, of_bits}
use lib.ListN.{length, get_or}
use Rattle.floats.specs.declared.Choice.{Choice}
use Rattle.ledger_rows.specs.Blocks.{held_at, lower, lowest}
use Rattle.ledger_rows.proofs.Choosing.{lowest_one, lowest_turn}
use Rattle.ledger_row_choice.proofs.Reading.{any_default}

module _ (block : List Float) where
  abbrev row_at : ℕ → Choice
  row_at i = record { energy = held_at block i; who = i }

  read_is : (i : ℕ) → i < length block → record { energy = get_or block i nan; who = i } ≡ row_at i
  read_is i h = ap (λ (x : Float). record { energy = x; who = i }) (any_default block i nan (of_bits binary64 0) h)

  pub least_starts : 0 < length block → record { energy = get_or block 0 nan; who = 0 } ≡ lowest row_at 1
  least_starts h = read_is 0 h ∙ sym (lowest_one row_at)

  pub least_turns : (i : ℕ) (old new : Choice) → i < length block → old ≡ lowest row_at i → new ≡ lower old (record { energy = get_or block i nan; who = i }) → new ≡ lowest row_at (i + 1)
  least_turns i old new h e f = lowest_turn row_at i e (f ∙ ap (lower old) (read_is i h))
