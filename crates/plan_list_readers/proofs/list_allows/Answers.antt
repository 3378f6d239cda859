-- `plan_list_readers::list_allows` meets its contract: a list that is not empty allows what it contains. Assumes nothing.
use Rattle.std.proofs.Common.{◌≡◌, List, [], ◌∷◌, ℕ, refl, arith}
use borrow.Author.Tests.{eqb-false}
use lib.Dec.{eqb}
use Rattle.std.proofs.lemmas.Bool.Decides.{nat_tests}
use Rattle.std.specs.List.{list_any}
use mathlib.Core.Path.{◌∙◌, sym}
use Rattle.bay_lists.specs.Lists.{names}
use Rattle.bay_lists.proofs.Restricting.{some_names}
use Rattle.plan_list_readers.proofs.list_allows.Goals as goal

eqb_swap : (a b : ℕ) → eqb a b ≡ eqb b a
eqb_swap a b = grind (arith, nat_tests)

named : (strand : ℕ) (tiles : List ℕ) → list_any (λ tile. eqb tile strand) tiles ≡ names tiles strand
unfolding names
named strand [] = refl
named strand (tile ∷ tiles) = rw (named strand tiles, eqb_swap tile strand)

pub returns-else-is_empty : goal.returns-else-is_empty
returns-else-is_empty c = c.contains.ensures.value ∙ named c.args.strand c.args.list.now ∙ some_names c.args.list.now c.args.strand (eqb-false _ _ (sym c.is_empty.ensures ∙ c.if-is_empty.false))
