-- `name_new_bases::is_new` meets its contract. Assumes nothing.
use Rattle.name_new_bases.proofs.Collecting.{none_found}
use Rattle.name_new_bases.proofs.is_new.Goals as goal

pub returns-in-Some : goal.returns-in-Some
returns-in-Some c =
    let place = rw (c.list.ensures.text, c.list.ensures.numbers, c.list.ensures.count) at c.number.ensures.place in
    let within = rw (c.list.ensures.text, c.list.ensures.numbers, c.list.ensures.count) at c.number.ensures.within in
    rw (c.in-Some.ensures.present.0, ← c.in-Some.ensures.present.1) (none_found _ place c.is_none.ensures within)
