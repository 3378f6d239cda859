-- The first places of a list set to one value, one after the other. Assumes nothing.
use mathlib.Core.Path.{◌≡◌, sym, ap, ◌∙◌}
use mathlib.Core.List.{List}
use Prim.Native.Nat.{ℕ, ◌+◌, ◌≤◌, ◌<◌}
use native.Mathlib.Omega.{arith}
use lib.ListN.{length, set, replicate, length-replicate, replicate-append-replicate}
use Rattle.ledger_block.specs.Block.{over}
use Rattle.ledger_block.proofs.Over.{over_none, length_over, over_store}

module _ {A : Type 0} (v : A) (old : List A) where
  pub clearing_starts : old ≡ over old 0 (replicate 0 v)
  clearing_starts = sym (over_none old 0)

  module _ (new : List A) (i : ℕ) (cleared : new ≡ over old 0 (replicate i v)) where
    pub clearing_long : i ≤ length old → length new ≡ length old
    clearing_long h = ap length cleared ∙ length_over old 0 (replicate i v) (omega (arith, length-replicate i v))

    pub clearing_turns : i < length old → set new i v ≡ over old 0 (replicate (i + 1) v)
    clearing_turns h =
        ap (λ l. set l i v) cleared
        ∙ over_store old 0 (replicate i v) i v v (omega (arith, length-replicate i v)) h
        ∙ ap (over old 0) (replicate-append-replicate i 1 v)
