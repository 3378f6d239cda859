-- `lists::put_list` meets its contract. Assumes nothing.
use Prim.Native.Nat.{ℕ}
use lib.Dec.{eqb}
use Rattle.std.proofs.Common.{rules, tests, length}
use Rattle.std.proofs.lemmas.List.{length_push}
use Rattle.std.proofs.lemmas.Iterator.Consumers.{YieldsList-turn, YieldsList-end}
use Rattle.std.proofs.lemmas.Iterator.Splits.{YieldsList-from_slice_split}
use Rattle.sheet_number_lists.proofs.Turns.{listing_of_none, listing_starts, listing_goes_on, listing_ends}
use Rattle.sheet_number_lists.proofs.lists.put_list.Goals as goal

pub returns-then-is_empty : goal.returns-then-is_empty
returns-then-is_empty c = let a = c.args in listing_of_none a.content.now a.tiles.now a.at (search rules) c.min-next.result (search rules)

pub loop-word-init : goal.loop-word-init
loop-word-init c = let a = c.args in listing_starts a.content.now a.tiles.now a.at (search rules) c.min-next.result (search rules)

pub loop-word-preserved : goal.loop-word-preserved
loop-word-preserved c =
    let a = c.args in
    let t = a.content.now in
    let s = c.loop-word in
    let w = c.in-Some.word in
    let turn = YieldsList-turn (YieldsList-from_slice_split _ (λ (b : ℕ). eqb b 32) t (cc) (cc) (cc) (λ x b q k. search (rules, tests))) s.yielded _ s.yielded_by _ _ w c.in-Some.is c.next.ensures.steps in
    rw (length_push s.yielded w) (listing_goes_on t a.tiles.now a.at (length s.yielded) s.tiles s.next s.invariant w.now turn.0 turn.1 c.unwrap_or.result (cc) c.put_tile-next.ensures)

pub returns : goal.returns
returns c =
    let a = c.args in
    let t = a.content.now in
    let s = c.loop-word in
    let end = YieldsList-end (YieldsList-from_slice_split _ (λ (b : ℕ). eqb b 32) t (cc) (cc) (cc) (λ x b q k. search (rules, tests))) s.yielded _ s.yielded_by _ _ c.in-None.is c.next.ensures.steps in
    listing_ends t a.tiles.now a.at (length s.yielded) s.tiles s.next s.invariant end.1
