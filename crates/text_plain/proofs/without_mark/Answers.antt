-- `text_plain::without_mark` meets its contract. Assumes nothing.
use mathlib.Core.Path.{sym, ◌∙◌}
use native.Mathlib.Omega.{arith}
use Rattle.text_plain.specs.Texts.{without_mark}
use Rattle.text_plain.proofs.Strays.{mark_fits, marked}
use borrow.Author.Rules.{rules}
use Rattle.text_plain.proofs.without_mark.Goals as goal

pub slice_bounds-result-count : goal.slice_bounds-result-count
slice_bounds-result-count c = let fits = mark_fits c.args.text.now (sym c.has_mark.ensures ∙ c.if-has_mark.true) in omega arith

pub slice_bounds-result-start : goal.slice_bounds-result-start
slice_bounds-result-start c = let fits = mark_fits c.args.text.now (sym c.has_mark.ensures ∙ c.if-has_mark.true) in search rules

pub returns-then-has_mark : goal.returns-then-has_mark
returns-then-has_mark c = marked c.args.text.now (sym c.has_mark.ensures ∙ c.if-has_mark.true)

pub returns : goal.returns
unfolding without_mark
returns c = rw (sym c.has_mark.ensures ∙ c.if-has_mark.false)
