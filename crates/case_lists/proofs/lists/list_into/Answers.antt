-- `lists::list_into` meets its contract: each way out is what `Listing` says there. Assumes nothing.
use Rattle.std.proofs.Common.{rules}
use mathlib.Core.Path.{sym, ◌∙◌}
use Prim.Native.Nat.{◌<◌, ◌≤◌}
use native.Mathlib.Omega.{arith}
use lib.ListN.{length}
use Rattle.case_lists.proofs.Filling.{no_item_counts, no_item_fills, listing_starts, listing_stops, listing_goes_on, listing_ends, listing_is_full, item_read, item_unread}
use Rattle.case_lists.proofs.lists.list_into.Goals as goal

pub returns-then-is_empty : goal.returns-then-is_empty
returns-then-is_empty g c =
    let t = g.T.Item in
    let a = c.args in
    record {
      value = no_item_counts t.is_item t.value_in a.value.now a.out.now (search rules);
      out_after = no_item_fills t.is_item t.value_in a.value.now a.out.now (search rules);
    }

pub loop-out-init : goal.loop-out-init
loop-out-init g c = listing_starts g.T.Item.is_item g.T.Item.value_in c.args.value.now c.args.out.now (search rules)

pub returns-then-out-n : goal.returns-then-out-n
returns-then-out-n g c =
    let l = c.loop-out in
    let full : length c.args.out.now ≤ l.n = omega (arith, l.invariant.fill.long, c.if-out-n.true) in
    let p = listing_is_full g.T.Item.is_item g.T.Item.value_in c.args.value.now c.args.out.now l.at l.out l.n l.invariant full in
    record { value = p.0; out_after = p.1 }

pub returns-in_err-out : goal.returns-in_err-out
returns-in_err-out g c =
    let l = c.loop-out in
    let bad = item_unread _ _ (sym c.read.ensures ∙ c.in_err-out.was) in
    let p = listing_stops g.T.Item.is_item g.T.Item.value_in c.args.value.now c.args.out.now l.at l.out l.n l.invariant c.item_end-end.result c.item_end-end.ensures.value bad in
    record { value = c.from_residual.ensures ∙ p.0; out_after = p.1 }

pub returns-then-end-value : goal.returns-then-end-value
returns-then-end-value g c =
    let l = c.loop-out in
    let e = c.item_end-end in
    let read = item_read _ (sym c.read.ensures ∙ c.in_ok-out.was) in
    let room : l.n < length c.args.out.now = omega (arith, l.invariant.fill.long, c.if-out-n.false) in
    let p = listing_ends g.T.Item.is_item g.T.Item.value_in c.args.value.now c.args.out.now l.at l.out l.n l.invariant e.result e.ensures.value _ read room c.if-end-value.true in
    record { value = p.0; out_after = p.1 }

pub loop-out-preserved : goal.loop-out-preserved
loop-out-preserved g c =
    let l = c.loop-out in
    let e = c.item_end-end in
    let read = item_read _ (sym c.read.ensures ∙ c.in_ok-out.was) in
    let room : l.n < length c.args.out.now = omega (arith, l.invariant.fill.long, c.if-out-n.false) in
    let more : e.result < length c.args.value.now = omega (arith, e.ensures.onward.1, c.if-end-value.false) in
    listing_goes_on g.T.Item.is_item g.T.Item.value_in c.args.value.now c.args.out.now l.at l.out l.n l.invariant e.result e.ensures.value _ read room more
