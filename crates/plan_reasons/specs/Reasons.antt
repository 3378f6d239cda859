-- Why a bay holds what it holds, and the rule for a strand at a bay. Assumes nothing.
use Rattle.std.specs.Prelude.{ℕ, Bool, cond, List, [], ◌∷◌, eqb, ltb, Option, Some, None}
use Rattle.bay_glues.specs.Tables.{scaffold_glue}
use Rattle.bay_lists.specs.Lists.{Constraints, list_of, list_allows}
use Rattle.bay_binding.specs.Binding.{may_lie}
use Rattle.plan_list_readers.specs.Reading.{only_zeros}
use Rattle.bay_system.specs.System.{System}
use Rattle.bay_legal_at.specs.Legal.{seed_of}
use Rattle.plan_reasons.specs.declared.bays.BayReason.{BayReason}
use Rattle.plan_reasons.specs.declared.bays.BayReason.TheVariants.{Seeded, KeptEmpty, Restricted, Free}
use Rattle.plan_reasons.specs.declared.rules.StrandRule.{StrandRule}
use Rattle.plan_reasons.specs.declared.rules.StrandRule.TheVariants.{Legal, OtherSeed, NoBond, NotNamed, Unknown}

-- ---- bays

-- of an unseeded bay: an empty list leaves it free, one of nothing but 0 keeps it empty, another restricts it
abbrev pub list_reason : (list : List ℕ) → BayReason
list_reason [] = Free
list_reason (tile ∷ tiles) = cond (only_zeros (tile ∷ tiles)) KeptEmpty Restricted

-- of any bay: the seed that lies there, else what the list says
abbrev pub reason_by : Option ℕ → (list : List ℕ) → BayReason
reason_by (Some strand) list = Seeded strand
reason_by None list = list_reason list

abbrev pub reason_of : System → Constraints → (bay : ℕ) → BayReason
reason_of s c bay = reason_by (seed_of s bay) (list_of c bay)

-- ---- strands

-- a strand that nothing else forbids is legal where the list allows it
abbrev pub list_rule : (allowed : Bool) → StrandRule
list_rule allowed = cond allowed Legal NotNamed

-- a seeded bay permits its seed only
abbrev pub seed_rule : (seed strand : ℕ) → (allowed : Bool) → StrandRule
seed_rule seed strand allowed = cond (eqb strand seed) (list_rule allowed) OtherSeed

-- an unseeded one permits what may lie on its glue: 0, and each strand that binds it
abbrev pub glue_rule : (may_lie_there allowed : Bool) → StrandRule
glue_rule may_lie_there allowed = cond may_lie_there (list_rule allowed) NoBond

abbrev pub rule_by : Option ℕ → (strand : ℕ) → (may_lie_there allowed : Bool) → StrandRule
rule_by (Some seed) strand may_lie_there allowed = seed_rule seed strand allowed
rule_by None strand may_lie_there allowed = glue_rule may_lie_there allowed

-- first of all the number is a strand's
abbrev pub rule_of : System → Constraints → (bay strand : ℕ) → StrandRule
rule_of s c bay strand =
    let may_lie_there = may_lie s (scaffold_glue s.scaffold bay) strand in
    cond (ltb strand s.sizes.strands) (rule_by (seed_of s bay) strand may_lie_there (list_allows (list_of c bay) strand)) Unknown
