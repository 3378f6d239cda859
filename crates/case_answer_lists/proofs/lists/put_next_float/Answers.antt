-- `lists::put_next_float` meets its contract: a comma stands before each item but the first. Assumes nothing.
use Rattle.text_put.proofs.Putting.{put_as, then_put}
use Rattle.case_answer_lists.proofs.Listing.{first_item, later_item}
use Rattle.case_answer_lists.proofs.lists.put_next_float.Goals as goal

pub returns-then-i-eq0 : goal.returns-then-i-eq0
returns-then-i-eq0 c = put_as (first_item _ _ c.if-i-eq0.true) c.put_float.ensures

pub returns : goal.returns
returns c = put_as (later_item _ _ c.if-i-eq0.false) (then_put c.put_text-comma.ensures c.put_float-2.ensures)
