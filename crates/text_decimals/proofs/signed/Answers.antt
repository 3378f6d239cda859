-- `text_decimals::signed` meets its contract: its form, its places, its digits. Assumes nothing.
use Rattle.std.proofs.Common.{sym, ◌∙◌, arith}
use borrow.Author.Tests.{not-true, not-false}
use Rattle.text_decimals.proofs.Parts.{whole_fits, not_formed, too_many_places, put_together}
use Rattle.text_decimals.proofs.signed.Goals as goal

pub returns-then-not-is_formed : goal.returns-then-not-is_formed
returns-then-not-is_formed c = let a = c.args in
    not_formed a.negative a.text.now (sym c.is_formed.ensures ∙ not-true _ c.if-not-is_formed.true-raw)

pub returns-then-places-gt22 : goal.returns-then-places-gt22
returns-then-places-gt22 c = let a = c.args in
    too_many_places a.negative a.text.now (sym c.is_formed.ensures ∙ not-false _ c.if-not-is_formed.false-raw) c.whole_length-point.result c.whole_length-point.ensures c.places_after-places.result
    c.places_after-places.ensures c.if-places-gt22.true

pub all_digits-requires : goal.all_digits-requires
all_digits-requires c = let fits = whole_fits c.args.text.now in
    let same = c.whole_length-point.ensures in
    omega arith

pub returns : goal.returns
returns c = let a = c.args in
    c.over_ten.ensures ∙ rw c.all_digits.ensures
    (put_together a.negative a.text.now (sym c.is_formed.ensures ∙ not-false _ c.if-not-is_formed.false-raw) c.whole_length-point.result c.whole_length-point.ensures
    c.places_after-places.result c.places_after-places.ensures c.if-places-gt22.false)
