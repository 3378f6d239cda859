-- `lists::put_next_number` meets its contract: a comma stands before each item but the first. Assumes nothing.
use Rattle.text_put.proofs.Putting.{put_as, then_put}
use Rattle.case_answer_lists.proofs.Listing.{first_item, later_item}
use Rattle.case_answer_lists.proofs.lists.put_next_number.Goals as goal

pub returns-then-i-eq0 : goal.returns-then-i-eq0
returns-then-i-eq0 c = put_as (first_item _ _ c.if-i-eq0.true) c.put_number.ensures

pub returns : goal.returns
returns c = put_as (later_item _ _ c.if-i-eq0.false) (then_put c.put_text-next.ensures c.put_number-2.ensures)
