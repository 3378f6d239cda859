-- `plan_list_readers::only_zeros` meets its contract: the call's test is the definition's. Assumes nothing.
use Rattle.std.proofs.Common.{◌≡◌, List, [], ◌∷◌, ℕ, refl, rules}
use Rattle.std.proofs.lemmas.Iterator.{YieldsList-from_slice}
use Rattle.std.proofs.lemmas.Iterator.Search.{all_from_yields_List}
use Rattle.std.specs.List.{list_all}
use lib.Dec.{eqb}
use mathlib.Core.Path.{◌∙◌}
use Rattle.plan_list_readers.specs.Reading.{only_zeros}
use Rattle.plan_list_readers.proofs.only_zeros.Goals as goal

all_zeros : (tiles : List ℕ) → list_all (λ tile. eqb tile 0) tiles ≡ only_zeros tiles
unfolding only_zeros
all_zeros [] = refl
all_zeros (tile ∷ tiles) = rw (all_zeros tiles)

pub returns : goal.returns
returns c = all_from_yields_List (λ tile. eqb tile 0) _ _ _ c.all.ensures.ran (YieldsList-from_slice c.args.list.now cc) (λ x b q k. search rules) ∙ all_zeros c.args.list.now
