-- `lists::put_small_numbers` meets its contract: the invariant is that what is left of the list ends the line. Assumes nothing.
use Rattle.case_answer_lists.proofs.Listing.{listing_starts, listing_goes_on, listing_ends}
use borrow.Author.Rules.{rules}
use Rattle.case_answer_lists.proofs.lists.put_small_numbers.Goals as goal

pub loop-i-init : goal.loop-i-init
loop-i-init c = listing_starts c.put_text-next.ensures

pub loop-i-preserved : goal.loop-i-preserved
loop-i-preserved c = listing_goes_on c.loop-i.invariant c.loop-i-test.true 0 c.put_next_number-next.ensures

pub shape_of-out : goal.shape_of-out
shape_of-out c = let l = c.loop-i.invariant.ending.long in search rules

pub returns : goal.returns
returns c = listing_ends c.loop-i.invariant c.loop-i-test.false c.put_text-next.ensures
