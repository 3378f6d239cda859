-- A rule that forbids a strand says the truth: what it names is so. Assumes nothing.
use Prim.Native.Nat.{ℕ, ◌≤◌}
use mathlib.Core.Path.{◌≡◌, refl, sym, ◌∙◌}
use mathlib.Core.Bool.{Bool, true, false, cond, ◌||◌, true≢false}
use mathlib.Core.List.{List, [], ◌∷◌}
use native.Mathlib.Omega.{arith}
use lib.Dec.{eqb, ltb}
use borrow.Author.Tests.{ltb-false, eq-eqb}
use Rattle.std.proofs.Common.{Option, Some, None}
use Rattle.bay_glues.specs.Tables.{scaffold_glue}
use Rattle.bay_lists.specs.Lists.{Constraints, list_of, list_allows, names}
use Rattle.bay_binding.specs.Binding.{binds}
use Rattle.bay_system.specs.System.{System}
use Rattle.bay_legal_at.specs.Legal.{seed_of}
use Rattle.plan_reasons.specs.declared.rules.StrandRule.{StrandRule}
use Rattle.plan_reasons.specs.declared.rules.StrandRule.TheVariants.{OtherSeed, NoBond, NotNamed, Unknown}
use Rattle.plan_reasons.specs.Reasons.{rule_by, rule_of}
use Rattle.plan_reasons.proofs.Chains.{chain}
use Rattle.plan_reasons.specs.Words.{OtherLies, NothingBinds, LeftOut}

-- ---- which of the three tests failed

first_failed : (s k p a : Bool) → chain s k p a ≡ Unknown → k ≡ false
first_failed s true true true e = cc
first_failed s true true false e = cc
first_failed true true false a e = cc
first_failed false true false a e = cc
first_failed s false p a e = refl

other_seed : (s k p a : Bool) → chain s k p a ≡ OtherSeed → (s ≡ true) × (p ≡ false)
other_seed s true true true e = (cc, cc)
other_seed s true true false e = (cc, cc)
other_seed true true false a e = (refl, refl)
other_seed false true false a e = (cc, cc)
other_seed s false p a e = (cc, cc)

no_bond : (s k p a : Bool) → chain s k p a ≡ NoBond → (s ≡ false) × (p ≡ false)
no_bond s true true true e = (cc, cc)
no_bond s true true false e = (cc, cc)
no_bond true true false a e = (cc, cc)
no_bond false true false a e = (refl, refl)
no_bond s false p a e = (cc, cc)

last_failed : (s k p a : Bool) → chain s k p a ≡ NotNamed → a ≡ false
last_failed s true true true e = cc
last_failed s true true false e = refl
last_failed true true false a e = cc
last_failed false true false a e = cc
last_failed s false p a e = cc

-- ---- what the tests say

or_left : (a b : Bool) → (a || b) ≡ false → a ≡ false
or_left false b e = refl
or_left true b e = e

or_right : (a b : Bool) → (a || b) ≡ false → b ≡ false
or_right false b e = e
or_right true b e = cc

apart : (a b : ℕ) → eqb a b ≡ false → a ≡ b → ⊥
apart a b n e = true≢false (sym (eq-eqb a b e) ∙ n)

not_empty : (list : List ℕ) (t : ℕ) → list_allows list t ≡ false → list ≡ [] → ⊥
not_empty [] t n e = true≢false n
not_empty (x ∷ list) t n e = let z : ◌≡◌ {A = ℕ} 0 1 = cc in omega arith

not_named : (list : List ℕ) (t : ℕ) → list_allows list t ≡ false → names list t ≡ false
not_named [] t n = absurd (true≢false n)
not_named (x ∷ list) t n = n

module _ (s : System) (c : Constraints) (bay strand : ℕ) where
  abbrev lies : Option ℕ
  lies = seed_of s bay

  abbrev bond : Bool
  bond = binds s (scaffold_glue s.scaffold bay) strand

  abbrev known : Bool
  known = ltb strand s.sizes.strands

  abbrev allowed : Bool
  allowed = list_allows (list_of c bay) strand

  -- the rule where the bay's seed is x
  abbrev rule : Option ℕ → StrandRule
  rule x = cond known (rule_by x strand (eqb strand 0 || bond) allowed) Unknown

  pub unknown_says : rule_of s c bay strand ≡ Unknown → s.sizes.strands ≤ strand
  unknown_says e = ltb-false strand s.sizes.strands (at lies e)
    where
      at : (x : Option ℕ) → rule x ≡ Unknown → known ≡ false
      at (Some t) f = first_failed true known (eqb strand t) allowed f
      at None f = first_failed false known (eqb strand 0 || bond) allowed f

  pub other_seed_says : rule_of s c bay strand ≡ OtherSeed → OtherLies s bay strand
  other_seed_says e = at lies refl e
    where
      at : (x : Option ℕ) → lies ≡ x → rule x ≡ OtherSeed → OtherLies s bay strand
      at (Some t) l f = record { other = t; lies = l; differs = apart strand t (other_seed true known (eqb strand t) allowed f).1 }
      at None l f = absurd (true≢false (sym (other_seed false known (eqb strand 0 || bond) allowed f).0))

  pub no_bond_says : rule_of s c bay strand ≡ NoBond → NothingBinds s bay strand
  no_bond_says e = at lies refl e
    where
      at : (x : Option ℕ) → lies ≡ x → rule x ≡ NoBond → NothingBinds s bay strand
      at (Some t) l f = absurd (true≢false (no_bond true known (eqb strand t) allowed f).0)
      at None l f =
          let forbidden = (no_bond false known (eqb strand 0 || bond) allowed f).1 in
          record { unseeded = l; not_0 = apart strand 0 (or_left (eqb strand 0) bond forbidden); no_bond = or_right (eqb strand 0) bond forbidden }

  pub not_named_says : rule_of s c bay strand ≡ NotNamed → LeftOut c bay strand
  not_named_says e = record { some = not_empty (list_of c bay) strand (at lies e); unnamed = not_named (list_of c bay) strand (at lies e) }
    where
      at : (x : Option ℕ) → rule x ≡ NotNamed → allowed ≡ false
      at (Some t) f = last_failed true known (eqb strand t) allowed f
      at None f = last_failed false known (eqb strand 0 || bond) allowed f
