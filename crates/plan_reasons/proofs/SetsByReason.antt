-- What the reason of a bay says of its legal strands. Assumes nothing.
use Prim.Native.Nat.{ℕ, ◌^◌, ◌≤◌, ◌<◌}
use mathlib.Core.Path.{◌≡◌, refl, sym, ◌∙◌, ap, subst}
use mathlib.Core.Bool.{Bool, true, false, cond, ◌&&◌, ◌||◌}
use mathlib.Core.List.{List, [], ◌∷◌}
use native.Mathlib.Omega.{arith}
use lib.Dec.{eqb, ltb}
use borrow.Author.Tests.{lt-ltb, eqb-true}
use Rattle.units.specs.Refusals.{passes}
use Rattle.units.proofs.Tests.{both, and_false}
use Rattle.sets.proofs.Words.{word_same}
use Rattle.sets.proofs.Operations.{word_only}
use Rattle.std.proofs.Common.{Option, Some, None}
use Rattle.bay_lists.specs.Lists.{Constraints, absent, names, list_allows, list_of}
use Rattle.bay_lists.proofs.Naming.{or_false}
use Rattle.bay_lists.proofs.Restricting.{and_true}
use Rattle.plan_list_readers.specs.Reading.{only_zeros}
use Rattle.bay_system.specs.System.{System, system_verdict}
use Rattle.bay_system.proofs.Fine.{fine}
use Rattle.bay_legal_at.specs.Legal.{seed_of, permits, is_legal, set_at}
use Rattle.bay_legal_at.specs.OnGrid.{Below}
use Rattle.bay_legal_at.proofs.SeedBelow.{seed_below}
use Rattle.bay_legal_at.proofs.ChemistsQuestion.{no_restriction, seed_alone, seed_left_out}
use Rattle.plan_reasons.specs.declared.bays.BayReason.TheVariants.{Seeded, KeptEmpty, Restricted, Free}
use Rattle.plan_reasons.specs.Reasons.{list_reason, reason_by, reason_of}

-- ---- from the reason back to the seed and the list

or_same : (a : Bool) → (a || a) ≡ a
or_same true = refl
or_same false = refl

-- a list of nothing but 0 names 0 alone, however often
zeros_name : (x : ℕ) (list : List ℕ) → only_zeros (x ∷ list) ≡ true → (t : ℕ) → names (x ∷ list) t ≡ eqb t 0
unfolding only_zeros names
zeros_name x [] e t = ap (λ (n : ℕ). eqb t n || false) (eqb-true x 0 (both (eqb x 0) true e).0) ∙ or_false (eqb t 0)
zeros_name x (y ∷ list) e t =
    let two = both (eqb x 0) (eqb y 0 && only_zeros list) e in
    ap (λ (n : ℕ). eqb t n || (eqb t y || names list t)) (eqb-true x 0 two.0)
    ∙ ap (λ (b : Bool). eqb t 0 || b) (zeros_name y list two.1 t) ∙ or_same (eqb t 0)

kept_allows : (list : List ℕ) → list_reason list ≡ KeptEmpty → (t : ℕ) → list_allows list t ≡ eqb t 0
kept_allows [] e t = cc
kept_allows (x ∷ list) e t = at (only_zeros (x ∷ list)) refl e
  where
    at : (b : Bool) → only_zeros (x ∷ list) ≡ b → cond b KeptEmpty Restricted ≡ KeptEmpty → names (x ∷ list) t ≡ eqb t 0
    at true z f = zeros_name x list z t
    at false z f = cc

free_is : (list : List ℕ) → list_reason list ≡ Free → list ≡ []
free_is [] e = refl
free_is (x ∷ list) e = at (only_zeros (x ∷ list)) e
  where
    at : (b : Bool) → cond b KeptEmpty Restricted ≡ Free → x ∷ list ≡ []
    at true f = cc
    at false f = cc

restricted_names : (list : List ℕ) → list_reason list ≡ Restricted → (t : ℕ) → list_allows list t ≡ names list t
restricted_names [] e t = cc
restricted_names (x ∷ list) e t = refl

not_seeded : (list : List ℕ) (t : ℕ) → list_reason list ≡ Seeded t → ⊥
not_seeded [] t e = let z : ◌≡◌ {A = ℕ} 0 1 = cc in omega arith
not_seeded (x ∷ list) t e = at (only_zeros (x ∷ list)) e
  where
    at : (b : Bool) → cond b KeptEmpty Restricted ≡ Seeded t → ⊥
    at true f = let z : ◌≡◌ {A = ℕ} 0 1 = cc in omega arith
    at false f = let z : ◌≡◌ {A = ℕ} 0 1 = cc in omega arith

seeded_is : (x : Option ℕ) (list : List ℕ) (t : ℕ) → reason_by x list ≡ Seeded t → x ≡ Some t
seeded_is (Some u) list t e = cc
seeded_is None list t e = absurd (not_seeded list t e)

-- ---- the set of a bay

module _ (s : System) (c : Constraints) (bay : ℕ) where
  abbrev lies : Option ℕ
  lies = seed_of s bay

  abbrev on_seed : Option ℕ → ℕ → Bool
  on_seed x t = ltb t s.sizes.strands && permits s bay x t

  -- a free bay has the set that it has without constraints
  pub free_set : reason_of s c bay ≡ Free → set_at s c bay ≡ set_at s absent bay
  free_set e = no_restriction s c bay (at lies e)
    where
      at : (x : Option ℕ) → reason_by x (list_of c bay) ≡ Free → list_of c bay ≡ []
      at (Some t) f = cc
      at None f = free_is (list_of c bay) f

  -- at a restricted bay those strands are legal that the bay permits without constraints and that its list names
  pub restricted_legal : reason_of s c bay ≡ Restricted → (t : ℕ) → is_legal s c bay t ≡ (is_legal s absent bay t && names (list_of c bay) t)
  restricted_legal e t =
      ap (λ (b : Bool). on_seed lies t && b) (at lies e)
      ∙ ap (λ (b : Bool). b && names (list_of c bay) t) (sym (and_true (on_seed lies t)))
    where
      at : (x : Option ℕ) → reason_by x (list_of c bay) ≡ Restricted → list_allows (list_of c bay) t ≡ names (list_of c bay) t
      at (Some u) f = cc
      at None f = restricted_names (list_of c bay) f t

  module _ (passed : system_verdict s ≡ passes) where
    -- a bay that is kept empty has the set {0}, the number 1
    pub kept_empty_set : reason_of s c bay ≡ KeptEmpty → set_at s c bay ≡ 1
    kept_empty_set e = word_same (is_legal s c bay) (λ t. eqb t 0) 64 (λ t h. at lies e t) ∙ word_only 64 0 (omega arith)
      where
        some : 1 ≤ s.sizes.strands
        some = (fine s passed).shape.sizes.some_strands

        only_zero : (t : ℕ) (b : Bool) → eqb t 0 ≡ b → (on_seed None t && eqb t 0) ≡ eqb t 0
        only_zero t true z = let zero = eqb-true t 0 z in let below : t < s.sizes.strands = omega (arith, some) in rw (z, lt-ltb t s.sizes.strands below)
        only_zero t false z = ap (λ (b : Bool). on_seed None t && b) z ∙ and_false (on_seed None t) ∙ sym z

        at : (x : Option ℕ) → reason_by x (list_of c bay) ≡ KeptEmpty → (t : ℕ) → (on_seed x t && list_allows (list_of c bay) t) ≡ eqb t 0
        at (Some u) f t = cc
        at None f t = ap (λ (b : Bool). on_seed None t && b) (kept_allows (list_of c bay) f t) ∙ only_zero t (eqb t 0) refl

    -- a seeded bay has its seed alone where its list allows the seed, and nothing where the list leaves it out
    module _ (strand : ℕ) (e : reason_of s c bay ≡ Seeded strand) where
      there : lies ≡ Some strand
      there = seeded_is lies (list_of c bay) strand e

      pub below : strand < s.sizes.strands
      below = subst (Below s.sizes.strands) there (seed_below s.sizes s.seeds bay (fine s passed).seeds)

      pub seeded_set : list_allows (list_of c bay) strand ≡ true → set_at s c bay ≡ 2 ^ strand
      seeded_set k = seed_alone s c bay strand there below (fine s passed).shape.sizes.strands k

      pub left_out_set : list_allows (list_of c bay) strand ≡ false → set_at s c bay ≡ 0
      left_out_set k = seed_left_out s c bay strand there below k
