-- The definitions at small systems, computed. Assumes nothing.
use mathlib.Core.Path.{◌≡◌, refl}
use mathlib.Core.List.{[], ◌∷◌, map}
use lib.Ieee.{round, ne}
use Rattle.units.specs.Decimals.{decimal, plus, minus}
use Rattle.bay_lists.specs.Lists.{Constraints, absent, lists, names}
use Rattle.plan_list_readers.specs.Reading.{only_zeros}
use Rattle.bay_legal_at.specs.Legal.{seed_at}
use Rattle.bay_system.specs.System.{System}
use Rattle.plan_reasons.specs.declared.bays.BayReason.TheVariants.{Seeded, KeptEmpty, Restricted, Free}
use Rattle.plan_reasons.specs.declared.rules.StrandRule.TheVariants.{Legal, OtherSeed, NoBond, NotNamed, Unknown}
use Rattle.plan_reasons.specs.Reasons.{reason_of, rule_of}

-- one row of five bays, strands 0 to 2, glues 0 to 2: every bay has glue 1, to which strand 1 binds by its bottom glue 2; strand 2 does
-- not, and is seeded on the first bay
unfoldable pub small : System
small =
    record {
      sizes = record { rows = 1; cols = 5; strands = 3; glues = 3; kelvin = plus 310 1 };
      strand_glues = 0 ∷ 0 ∷ 0 ∷ 0 ∷ 0 ∷ 0 ∷ 0 ∷ 0 ∷ 0 ∷ 2 ∷ 0 ∷ 0 ∷ 0 ∷ 0 ∷ 0 ∷ [];
      scaffold = 1 ∷ 1 ∷ 1 ∷ 1 ∷ 1 ∷ [];
      delta_g = plus 0 1 ∷ plus 0 1 ∷ plus 0 1 ∷ plus 0 1 ∷ plus 0 1 ∷ minus 1 1 ∷ plus 0 1 ∷ minus 1 1 ∷ plus 0 1 ∷ [];
      entropy = plus 0 1 ∷ plus 0 1 ∷ plus 0 1 ∷ plus 0 1 ∷ plus 0 1 ∷ plus 0 1 ∷ plus 0 1 ∷ plus 0 1 ∷ plus 0 1 ∷ [];
      logs = plus 0 1 ∷ plus 0 1 ∷ plus 0 1 ∷ [];
      seeds = 0 ∷ 0 ∷ 2 ∷ [];
    }

-- the lists of the bays: 1, 0, `0 0`, `0 7`, none
unfoldable pub listed : Constraints
listed = lists (0 ∷ 1 ∷ 2 ∷ 4 ∷ 6 ∷ 6 ∷ []) (1 ∷ 0 ∷ 0 ∷ 0 ∷ 0 ∷ 7 ∷ [])

with_lists : map (reason_of small listed) (0 ∷ 1 ∷ 2 ∷ 3 ∷ 4 ∷ []) ≡ Seeded 2 ∷ KeptEmpty ∷ KeptEmpty ∷ Restricted ∷ Free ∷ []
unfolding small listed seed_at only_zeros
with_lists = refl

without_lists : map (reason_of small absent) (0 ∷ 1 ∷ []) ≡ Seeded 2 ∷ Free ∷ []
unfolding small seed_at
without_lists = refl

-- strands 0 to 3 at the seeded bay whose list leaves the seed out, at a bay kept empty, at a restricted bay and at a free one
rules_seeded : map (rule_of small listed 0) (0 ∷ 1 ∷ 2 ∷ 3 ∷ []) ≡ OtherSeed ∷ OtherSeed ∷ NotNamed ∷ Unknown ∷ []
unfolding small listed seed_at names
rules_seeded = refl

rules_empty : map (rule_of small listed 2) (0 ∷ 1 ∷ 2 ∷ 3 ∷ []) ≡ Legal ∷ NotNamed ∷ NoBond ∷ Unknown ∷ []
unfolding small listed seed_at names decimal round ne
rules_empty = refl

rules_free : map (rule_of small listed 4) (0 ∷ 1 ∷ 2 ∷ 3 ∷ []) ≡ Legal ∷ Legal ∷ NoBond ∷ Unknown ∷ []
unfolding small listed seed_at names decimal round ne
rules_free = refl
