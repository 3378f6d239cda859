-- The mark of each bay of a system, the code of the rule for each strand at one bay, and what is refused of either call. Assumes nothing.
use Rattle.std.specs.Prelude.{ℕ, ◌≡◌, true, not, ◌&&◌, List, [], eqb, ltb, length, None}
use Rattle.units.specs.Refusals.{Verdict, refuse_if, ◌▷◌, if_passes}
use Rattle.units.specs.declared.refusal.Refusal.TheVariants.{Shape}
use Rattle.bay_system.specs.System.{System, bays}
use Rattle.bay_lists.specs.Lists.{Constraints, list_of, names}
use Rattle.bay_legal_at.specs.Legal.{seed_of}
use Rattle.bay_given.specs.Given.{given_verdict}
use Rattle.ledger_rows.specs.Blocks.{tab}
use Rattle.plan_reasons.specs.declared.bays.BayReason.{BayReason}
use Rattle.plan_reasons.specs.declared.bays.BayReason.TheVariants.{Seeded, KeptEmpty, Restricted, Free}
use Rattle.plan_reasons.specs.declared.rules.StrandRule.{StrandRule}
use Rattle.plan_reasons.specs.declared.rules.StrandRule.TheVariants.{Legal, OtherSeed, NoBond, NotNamed, Unknown}
use Rattle.plan_reasons.specs.Reasons.{reason_of, rule_of}

-- ---- bays

-- 0 free, 1 with a list, 2 seeded, 3 kept empty by a list of 0
abbrev pub mark_of : BayReason → ℕ
mark_of Free = 0
mark_of Restricted = 1
mark_of (Seeded strand) = 2
mark_of KeptEmpty = 3

-- the marks of all bays, row by row
abbrev pub marks_of : System → Constraints → List ℕ
marks_of s c = tab (λ bay. mark_of (reason_of s c bay)) (bays s.sizes)

-- what the lent slice holds afterwards, where 1 to 5 are refused as of everything that is given
abbrev pub marks_after : System → Constraints → (lent : List ℕ) → List ℕ
marks_after s c lent = if_passes (given_verdict s (length lent) c) (marks_of s c) lent

-- a bay that its list keeps empty: no strand is seeded there, and the list is not empty and names nothing but 0
pub record KeptByList (s : System) (c : Constraints) (bay : ℕ) : Type 0 where
  pub unseeded : seed_of s bay ≡ None
  pub some : list_of c bay ≡ [] → ⊥
  pub zeros : (strand : ℕ) → names (list_of c bay) strand ≡ true → strand ≡ 0

-- ---- strands

-- 0 legal, 1 another strand is seeded there, 2 no bond with the bay's glue, 3 the bay's list leaves it out; 4, no strand has this number,
-- stands beside no strand
abbrev pub code_of : StrandRule → ℕ
code_of Legal = 0
code_of OtherSeed = 1
code_of NoBond = 2
code_of NotNamed = 3
code_of Unknown = 4

-- the codes of all strands at a bay
abbrev pub codes_of : System → Constraints → (bay : ℕ) → List ℕ
codes_of s c bay = tab (λ strand. code_of (rule_of s c bay strand)) s.sizes.strands

-- 5: the slice lent for the codes has not one place for each strand, or the bay is off the grid
abbrev pub place_verdict : (strands bay_count lent bay : ℕ) → Verdict
place_verdict strands bay_count lent bay = refuse_if (not (eqb lent strands && ltb bay bay_count)) Shape

-- 1 to 5 of what is given, then 5 of the lent slice and of the bay
abbrev pub codes_verdict : System → (lent : ℕ) → Constraints → (bay : ℕ) → Verdict
codes_verdict s lent c bay =
    given_verdict s (length s.scaffold) c ▷ place_verdict s.sizes.strands (bays s.sizes) lent bay

-- what the lent slice holds afterwards
abbrev pub codes_after : System → Constraints → (bay : ℕ) → (lent : List ℕ) → List ℕ
codes_after s c bay lent = if_passes (codes_verdict s (length lent) c bay) (codes_of s c bay) lent
