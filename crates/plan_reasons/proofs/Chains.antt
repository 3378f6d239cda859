-- From the tests that the code makes, one after the other, to the reason of a bay and the rule for a strand. Assumes nothing.
use Prim.Native.Nat.{ℕ, ◌≤◌, ◌<◌}
use mathlib.Core.Path.{◌≡◌, refl, sym, ◌∙◌, ap}
use mathlib.Core.Bool.{Bool, cond}
use mathlib.Core.List.{List, [], ◌∷◌}
use native.Mathlib.Omega.{arith}
use lib.ListN.{length}
use borrow.Author.Tests.{lt-ltb, le-ltb}
use Rattle.std.proofs.Common.{Option, Some, None}
use Rattle.bay_glues.specs.Tables.{scaffold_glue}
use Rattle.bay_lists.specs.Lists.{Constraints, list_of, list_allows}
use Rattle.bay_binding.specs.Binding.{may_lie}
use Rattle.plan_list_readers.specs.Reading.{only_zeros}
use Rattle.bay_system.specs.System.{System}
use Rattle.bay_legal_at.specs.Legal.{seed_of}
use Rattle.plan_reasons.specs.declared.bays.BayReason.{BayReason}
use Rattle.plan_reasons.specs.declared.bays.BayReason.TheVariants.{Seeded, KeptEmpty, Restricted, Free}
use Rattle.plan_reasons.specs.declared.rules.StrandRule.{StrandRule}
use Rattle.plan_reasons.specs.declared.rules.StrandRule.TheVariants.{Legal, OtherSeed, NoBond, NotNamed, Unknown}
use Rattle.plan_reasons.specs.Reasons.{list_reason, reason_by, reason_of, seed_rule, glue_rule, rule_by, rule_of}

-- ---- the list of an unseeded bay

pub free_list : (list : List ℕ) → length list ≡ 0 → Free ≡ list_reason list
free_list [] e = refl
free_list (x ∷ list) e = absurd (omega arith)

pub some_list : (list : List ℕ) → (length list ≡ 0 → ⊥) → {zeros : Bool} → only_zeros list ≡ zeros → cond zeros KeptEmpty Restricted ≡ list_reason list
some_list [] n e = absurd (n refl)
some_list (x ∷ list) n e = ap (λ (b : Bool). cond b KeptEmpty Restricted) (sym e)

-- ---- the seed of a bay, or its list

module _ (s : System) (c : Constraints) (bay : ℕ) {x : Option ℕ} (found : x ≡ seed_of s bay) where
  pub seed_is_reason : {strand : ℕ} → x ≡ Some strand → Seeded strand ≡ reason_of s c bay
  seed_is_reason f = ap (λ (y : Option ℕ). reason_by y (list_of c bay)) (sym f ∙ found)

  pub list_is_reason : x ≡ None → {r : BayReason} {list : List ℕ} → list ≡ list_of c bay → r ≡ list_reason list → r ≡ reason_of s c bay
  list_is_reason f l made = made ∙ ap list_reason l ∙ ap (λ (y : Option ℕ). reason_by y (list_of c bay)) (sym f ∙ found)

-- ---- the number of a strand, the seed or the glue of the bay, its list

module _ (s : System) (c : Constraints) (bay strand : ℕ) where
  abbrev lies_on : (glue : ℕ) → Bool
  lies_on glue = may_lie s glue strand

  pub no_strand : s.sizes.strands ≤ strand → Unknown ≡ rule_of s c bay strand
  no_strand h = rw (le-ltb strand s.sizes.strands h)

  module _ (below : strand < s.sizes.strands) {x : Option ℕ} (found : x ≡ seed_of s bay) {allowed : Bool} (kept : allowed ≡ list_allows (list_of c bay) strand) where
    by_seed : {y : Option ℕ} → x ≡ y → rule_by y strand (lies_on (scaffold_glue s.scaffold bay)) allowed ≡ rule_of s c bay strand
    by_seed f = rw (lt-ltb strand s.sizes.strands below, ← found, f, kept)

    pub seeded_bay : {t : ℕ} → x ≡ Some t → {r : StrandRule} → r ≡ seed_rule t strand allowed → r ≡ rule_of s c bay strand
    seeded_bay f made = made ∙ by_seed f

    pub unseeded_bay : x ≡ None → {glue : ℕ} → glue ≡ scaffold_glue s.scaffold bay → {r : StrandRule} → r ≡ glue_rule (lies_on glue) allowed → r ≡ rule_of s c bay strand
    unseeded_bay f g made = made ∙ ap (λ (n : ℕ). glue_rule (lies_on n) allowed) g ∙ by_seed f

-- ---- the three tests in a row, of which the second one's rule depends on whether the bay is seeded

abbrev pub chain : (seeded known permitted allowed : Bool) → StrandRule
chain seeded known permitted allowed = cond known (cond permitted (cond allowed Legal NotNamed) (cond seeded OtherSeed NoBond)) Unknown
