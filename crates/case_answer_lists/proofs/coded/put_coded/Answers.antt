-- `coded::put_coded` meets its contract: the invariant is that what is left of the text ends the line. Assumes nothing.
use Prim.Native.Nat.{◌+◌}
use lib.ListN.{get_or, drop}
use Rattle.case_answer_lists.specs.Coded.{coded_byte, coded}
use Rattle.text_put.proofs.Putting.{then_put, put_within, ending_starts, ending_goes_on, ending_ends}
use Rattle.case_answer_lists.proofs.Listing.{coded_next, coded_end}
use borrow.Author.Rules.{rules}
use Rattle.case_answer_lists.proofs.coded.put_coded.Goals as goal

pub loop-byte-init : goal.loop-byte-init
loop-byte-init c = ending_starts (coded c.args.text.now) (put_within c.put_text-next.ensures)

pub loop-byte-preserved : goal.loop-byte-preserved
loop-byte-preserved c = let text = c.args.text.now in
    let i = c.loop-byte.byte-index in
    ending_goes_on c.loop-byte.invariant (coded_byte (get_or text i 0)) (coded (drop (i + 1) text)) (coded_next text i c.loop-byte-test.true) c.put_byte-next.ensures

pub shape_of-out : goal.shape_of-out
shape_of-out c = let l = c.loop-byte.invariant.long in search rules

pub returns : goal.returns
returns c = let text = c.args.text.now in
    then_put c.put_text-next.ensures (ending_ends c.loop-byte.invariant (coded_end text c.loop-byte.byte-index c.loop-byte-test.false))
