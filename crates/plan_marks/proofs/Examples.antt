-- The definitions at the small system of the reasons' examples, computed. Assumes nothing.
use mathlib.Core.Path.{◌≡◌, refl}
use mathlib.Core.List.{[], ◌∷◌}
use lib.Ieee.{round, ne}
use Rattle.units.specs.Decimals.{decimal}
use Rattle.bay_lists.specs.Lists.{absent, names}
use Rattle.plan_list_readers.specs.Reading.{only_zeros}
use Rattle.bay_legal_at.specs.Legal.{seed_at}
use Rattle.ledger_rows.specs.Blocks.{tab}
use Rattle.units.specs.Refusals.{refuses}
use Rattle.units.specs.declared.refusal.Refusal.TheVariants.{Shape}
use Rattle.plan_reasons.proofs.Examples.{small, listed}
use Rattle.plan_marks.specs.Marks.{marks_of, codes_of, place_verdict}

marks_with_lists : marks_of small listed ≡ 2 ∷ 3 ∷ 3 ∷ 1 ∷ 0 ∷ []
unfolding small listed seed_at only_zeros tab
marks_with_lists = refl

marks_without_lists : marks_of small absent ≡ 2 ∷ 0 ∷ 0 ∷ 0 ∷ 0 ∷ []
unfolding small seed_at tab
marks_without_lists = refl

-- at the seeded bay, whose list leaves the seed out, at a bay kept empty, at the free one
codes_seeded : codes_of small listed 0 ≡ 1 ∷ 1 ∷ 3 ∷ []
unfolding small listed seed_at names tab
codes_seeded = refl

codes_empty : codes_of small listed 2 ≡ 0 ∷ 3 ∷ 2 ∷ []
unfolding small listed seed_at names tab decimal round ne
codes_empty = refl

codes_free : codes_of small listed 4 ≡ 0 ∷ 0 ∷ 2 ∷ []
unfolding small listed seed_at names tab decimal round ne
codes_free = refl

-- three strands and five bays: a slice of two places, and a bay 5, are refused
short : place_verdict 3 5 2 0 ≡ refuses Shape
short = refl

off_the_grid : place_verdict 3 5 3 5 ≡ refuses Shape
off_the_grid = refl
