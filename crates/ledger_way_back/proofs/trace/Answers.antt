-- `ledger_way_back::trace` meets its contract. The invariant: the strands from bay k on are written. Assumes nothing.
use mathlib.Core.Path.{◌≡◌, subst}
use mathlib.Core.List.{List}
use Prim.Native.Nat.{ℕ, ◌+◌, ◌-◌, ◌<◌}
use native.Mathlib.Omega.{arith}
use Rattle.ledger_way_back.specs.declared.Place.{Place}
use Rattle.ledger_way_back.proofs.Tracking.{Tracking, tracking_starts, tracked_bay, tracking_turns, tracking_ends}
use Rattle.ledger_way_back.proofs.trace.Goals as goal

-- the bay of a turn
tracked : {window : ℕ} {sets notes : List ℕ} {row : ℕ} {order : List ℕ} {k : ℕ} {at : Place} → Tracking window sets notes row order k at → 0 < k
    → Tracking window sets notes row order (k - 1 + 1) at
tracked {window} {sets} {notes} {row} {order} {k} {at} t h =
    let one : k ≡ k - 1 + 1 = omega arith in
    subst (λ k. Tracking window sets notes row order k at) one t

pub loop-k-init : goal.loop-k-init
loop-k-init c = tracking_starts c.args.window c.args.sets.now c.args.notes.now c.args.last c.args.order.now c.requires.on_block.0 c.requires.on_block.1 c.requires.order_len

pub step_back-at-requires : goal.step_back-at-requires
step_back-at-requires c =
    let a = c.args in
    let t = tracked c.loop-k.invariant c.loop-k-test.true in
    record {
      traceable = c.requires.traceable;
      k_in_bounds = tracked_bay a.window a.sets.now a.notes.now c.requires.traceable a.last.row c.loop-k.order (c.loop-k.k - 1) c.loop-k.at t;
      on_block = (t.place, t.inside);
    }

pub loop-k-preserved : goal.loop-k-preserved
loop-k-preserved c = let a = c.args in
    tracking_turns a.window a.sets.now a.notes.now c.requires.traceable a.last.row c.loop-k.order (c.loop-k.k - 1) c.loop-k.at (tracked c.loop-k.invariant c.loop-k-test.true)
    c.strand_at.result c.step_back-at.result c.strand_at.ensures c.step_back-at.ensures

pub returns : goal.returns
returns c = let a = c.args in
    tracking_ends a.window a.sets.now a.notes.now a.last.row c.loop-k.order c.loop-k.k c.loop-k.at c.loop-k.invariant (omega (arith, c.loop-k-test.false))
