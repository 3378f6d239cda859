-- `sheet_glues::register_fronts` meets its contract: `register` is asked with the fronts of the tables. Assumes nothing.
use Rattle.sheet_glues.proofs.register_fronts.Goals as goal

pub returns : goal.returns
returns c = let e = c.register.ensures in
    rw (← c.front.ensures, ← c.front-2.ensures, ← c.front-3.ensures)
    (record { answered = e.answer; glues_written = e.glues; scaffold_written = e.scaffold; bases_written = e.bases })
