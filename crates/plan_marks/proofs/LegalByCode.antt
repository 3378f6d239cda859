-- A strand's code is 0 exactly where the strand is legal, and no strand has the code 4. Assumes nothing.
use Prim.Native.Nat.{ℕ, ◌≤◌, ◌<◌}
use mathlib.Core.Path.{◌≡◌, refl, sym, ◌∙◌, ap, subst}
use mathlib.Core.Bool.{Bool, true, false, cond}
use native.Mathlib.Omega.{arith}
use lib.Dec.{eqb}
use lib.ListN.{get_or}
use borrow.Author.Tests.{lt-ltb}
use Rattle.std.proofs.Common.{Option, Some, None}
use Rattle.bay_glues.specs.Tables.{scaffold_glue}
use Rattle.bay_lists.specs.Lists.{Constraints, list_of, list_allows}
use Rattle.bay_binding.specs.Binding.{may_lie}
use Rattle.bay_system.specs.System.{System}
use Rattle.bay_legal_at.specs.Legal.{seed_of, is_legal}
use Rattle.ledger_rows.proofs.Lists.{tab_at}
use Rattle.plan_reasons.specs.declared.rules.StrandRule.{StrandRule}
use Rattle.plan_reasons.specs.declared.rules.StrandRule.TheVariants.{Legal, OtherSeed, NoBond, NotNamed, Unknown}
use Rattle.plan_reasons.specs.Reasons.{rule_by, rule_of}
use Rattle.plan_reasons.proofs.LegalByRule.{legal_where_the_rule_says_so, the_rule_says_so_where_legal}
use Rattle.plan_marks.specs.Marks.{code_of, codes_of}

of_0 : (r : StrandRule) → code_of r ≡ 0 → r ≡ Legal
of_0 Legal e = refl
of_0 OtherSeed e = absurd (omega arith)
of_0 NoBond e = absurd (omega arith)
of_0 NotNamed e = absurd (omega arith)
of_0 Unknown e = absurd (omega arith)

-- a rule that is not about the number of a strand
seeded_most : (permitted allowed : Bool) → code_of (cond permitted (cond allowed Legal NotNamed) OtherSeed) ≤ 3
seeded_most true true = omega arith
seeded_most true false = omega arith
seeded_most false allowed = omega arith

unseeded_most : (permitted allowed : Bool) → code_of (cond permitted (cond allowed Legal NotNamed) NoBond) ≤ 3
unseeded_most true true = omega arith
unseeded_most true false = omega arith
unseeded_most false allowed = omega arith

module _ (s : System) (c : Constraints) (bay strand : ℕ) (known : strand < s.sizes.strands) where
  abbrev lies : Option ℕ
  lies = seed_of s bay

  abbrev on_glue : Bool
  on_glue = may_lie s (scaffold_glue s.scaffold bay) strand

  abbrev allowed : Bool
  allowed = list_allows (list_of c bay) strand

  abbrev code : ℕ
  code = get_or (codes_of s c bay) strand 0

  -- what the call writes for a strand
  pub written : code ≡ code_of (rule_of s c bay strand)
  written = tab_at (λ (t : ℕ). code_of (rule_of s c bay t)) s.sizes.strands strand 0 known

  pub legal_where_0 : code ≡ 0 → is_legal s c bay strand ≡ true
  legal_where_0 e = legal_where_the_rule_says_so s c bay strand (of_0 (rule_of s c bay strand) (sym written ∙ e))

  pub 0_where_legal : is_legal s c bay strand ≡ true → code ≡ 0
  0_where_legal e = written ∙ ap code_of (the_rule_says_so_where_legal s c bay strand e)

  pub at_most_3 : code ≤ 3
  at_most_3 =
      subst (λ (n : ℕ). n ≤ 3)
      (sym (written ∙ ap (λ (b : Bool). code_of (cond b (rule_by lies strand on_glue allowed) Unknown)) (lt-ltb strand s.sizes.strands known)))
      (at lies)
    where
      at : (x : Option ℕ) → code_of (rule_by x strand on_glue allowed) ≤ 3
      at (Some t) = seeded_most (eqb strand t) allowed
      at None = unseeded_most on_glue allowed
