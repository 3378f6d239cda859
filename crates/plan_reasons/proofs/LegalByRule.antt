-- A strand is legal at a bay exactly where the rule says so. Assumes nothing.
use Prim.Native.Nat.{ℕ}
use mathlib.Core.Path.{◌≡◌, refl}
use mathlib.Core.Bool.{Bool, true, false, cond, ◌&&◌}
use lib.Dec.{eqb, ltb}
use Rattle.std.proofs.Common.{Option, Some, None}
use Rattle.bay_glues.specs.Tables.{scaffold_glue}
use Rattle.bay_lists.specs.Lists.{Constraints, list_of, list_allows}
use Rattle.bay_binding.specs.Binding.{may_lie}
use Rattle.bay_system.specs.System.{System}
use Rattle.bay_legal_at.specs.Legal.{seed_of, permits, is_legal}
use Rattle.plan_reasons.specs.declared.rules.StrandRule.TheVariants.{Legal, Unknown}
use Rattle.plan_reasons.specs.Reasons.{rule_by, rule_of}
use Rattle.plan_reasons.proofs.Chains.{chain}

chain_legal : (s k p a : Bool) → chain s k p a ≡ Legal → ((k && p) && a) ≡ true
chain_legal s true true true e = refl
chain_legal s true true false e = cc
chain_legal true true false a e = cc
chain_legal false true false a e = cc
chain_legal s false p a e = cc

legal_chain : (s k p a : Bool) → ((k && p) && a) ≡ true → chain s k p a ≡ Legal
legal_chain s true true true e = refl
legal_chain s true true false e = cc
legal_chain s true false a e = cc
legal_chain s false p a e = cc

module _ (s : System) (c : Constraints) (bay strand : ℕ) where
  abbrev on_glue : Bool
  on_glue = may_lie s (scaffold_glue s.scaffold bay) strand

  abbrev permits_it : Option ℕ → Bool
  permits_it x = permits s bay x strand

  abbrev known : Bool
  known = ltb strand s.sizes.strands

  abbrev allowed : Bool
  allowed = list_allows (list_of c bay) strand

  to_legal : (x : Option ℕ) → cond known (rule_by x strand on_glue allowed) Unknown ≡ Legal → ((known && permits_it x) && allowed) ≡ true
  to_legal (Some t) e = chain_legal true known (eqb strand t) allowed e
  to_legal None e = chain_legal false known on_glue allowed e

  from_legal : (x : Option ℕ) → ((known && permits_it x) && allowed) ≡ true → cond known (rule_by x strand on_glue allowed) Unknown ≡ Legal
  from_legal (Some t) e = legal_chain true known (eqb strand t) allowed e
  from_legal None e = legal_chain false known on_glue allowed e

  pub legal_where_the_rule_says_so : rule_of s c bay strand ≡ Legal → is_legal s c bay strand ≡ true
  legal_where_the_rule_says_so e = to_legal (seed_of s bay) e

  pub the_rule_says_so_where_legal : is_legal s c bay strand ≡ true → rule_of s c bay strand ≡ Legal
  the_rule_says_so_where_legal e = from_legal (seed_of s bay) e
