-- `places::place_of` meets its contract: nothing to search, or what the search of the rest finds. Assumes nothing.
use mathlib.Core.Path.{◌≡◌, sym}
use lib.ListN.{length}
use Rattle.case_text.specs.Places.{place_of}
use Rattle.case_text.proofs.Cuts.{place_past, place_found, onward_at}
use Rattle.case_text.proofs.places.place_of.Goals as goal

pub returns-then-text-from : goal.returns-then-text-from
returns-then-text-from c = let a = c.args in
    let none : length a.text.now ≡ place_of a.byte a.text.now a.from = sym (place_past a.byte a.text.now a.from c.if-text-from.true) in
    record {
      value = none;
      onward = onward_at a.byte a.text.now a.from _ none;
    }

pub returns : goal.returns
returns c = let a = c.args in
    let found = place_found a.byte a.text.now a.from c.if-text-from.false in
    let same : c.unwrap_or.result ≡ place_of a.byte a.text.now a.from = cc in
    record {
      value = same;
      onward = onward_at a.byte a.text.now a.from _ same;
    }
