-- What a 0 in a bay's list means, what an empty list means, and what a seed means. Assumes nothing.
use Prim.Native.Nat.{ℕ, ◌+◌, ◌^◌, ◌≤◌, ◌<◌}
use mathlib.Core.Path.{◌≡◌, refl, sym, ◌∙◌, ap}
use mathlib.Core.Bool.{Bool, true, false, ◌&&◌, ◌||◌}
use mathlib.Core.List.{List, [], ◌∷◌}
use native.Mathlib.Nat.{sub_self, lt_of_lt_of_le}
use native.Mathlib.Omega.{arith}
use lib.Dec.{eqb, ltb}
use lib.ListN.{get_or}
use borrow.Author.Tests.{lt-ltb, eqb-true, eq-eqb}
use Rattle.units.specs.Limits.{most_strands}
use Rattle.units.proofs.Tests.{and_false}
use Rattle.sets.proofs.Words.{word_same}
use Rattle.sets.proofs.Operations.{word_none, word_only}
use Rattle.bay_system.specs.System.{System}
use Rattle.std.specs.Prelude.{Option, Some, None}
use Rattle.bay_lists.specs.declared.Constraints.TheVariants.{Absent}
use Rattle.bay_lists.specs.Lists.{Constraints, absent, lists, constraints_of, names, list_allows, list_of}
use Rattle.bay_legal_at.specs.Legal.{seed_of, permits, is_legal, set_at}

module _ (s : System) (c : Constraints) (bay : ℕ) where
  -- the seed that the bay has, or none
  abbrev seed : Option ℕ
  seed = seed_of s bay

  abbrev on_seed : Option ℕ → ℕ → Bool
  on_seed x t = ltb t s.sizes.strands && permits s bay x t

  -- an unseeded bay with the list 0 stays empty: its set is {0}, the number 1
  pub keep_it_empty : seed ≡ None → 1 ≤ s.sizes.strands → list_of c bay ≡ 0 ∷ [] → set_at s c bay ≡ 1
  unfolding names
  keep_it_empty u some l =
      word_same (is_legal s c bay) (λ t. eqb t 0) 64
      (λ t h. ap (λ (x : Option ℕ). on_seed x t && list_allows (list_of c bay) t) u ∙ ap (λ (xs : List ℕ). on_seed None t && list_allows xs t) l ∙ only_zero t (eqb t 0) refl)
      ∙ word_only 64 0 (omega arith)
    where
      only_zero : (t : ℕ) (b : Bool) → eqb t 0 ≡ b → (on_seed None t && names (0 ∷ []) t) ≡ eqb t 0
      only_zero t true e = rw (e, lt-ltb t s.sizes.strands (below (eqb-true t 0 e)))
        where
          below : t ≡ 0 → t < s.sizes.strands
          below z = omega (arith, z, some)
      only_zero t false e = ap (λ (b : Bool). on_seed None t && (b || false)) e ∙ and_false (on_seed None t) ∙ sym e

  -- a bay with an empty list has the set that it has without constraints
  pub no_restriction : list_of c bay ≡ [] → set_at s c bay ≡ set_at s absent bay
  no_restriction l =
      word_same (is_legal s c bay) (is_legal s absent bay) 64 (λ t h. ap (λ (xs : List ℕ). on_seed seed t && list_allows xs t) l)

  -- a seeded bay has its seed alone, or nothing where the list leaves the seed out
  module _ (strand : ℕ) (known : seed ≡ Some strand) (below : strand < s.sizes.strands) where
    seed_or_none : (kept : Bool) → list_allows (list_of c bay) strand ≡ kept → (t : ℕ) → is_legal s c bay t ≡ (kept && eqb t strand)
    seed_or_none kept k t = ap (λ (x : Option ℕ). on_seed x t && list_allows (list_of c bay) t) known ∙ at kept k (eqb t strand) refl
      where
        at : (kept : Bool) → list_allows (list_of c bay) strand ≡ kept → (b : Bool) → eqb t strand ≡ b → (on_seed (Some strand) t && list_allows (list_of c bay) t) ≡ (kept && eqb t strand)
        at true k true e = rw (eqb-true t strand e, lt-ltb strand s.sizes.strands below, k, eq-eqb strand strand refl)
        at false k true e = rw (eqb-true t strand e, lt-ltb strand s.sizes.strands below, k, eq-eqb strand strand refl)
        at true k false e = rw (e, and_false (ltb t s.sizes.strands))
        at false k false e = rw (e, and_false (ltb t s.sizes.strands))

    pub seed_alone : s.sizes.strands ≤ most_strands → list_allows (list_of c bay) strand ≡ true → set_at s c bay ≡ 2 ^ strand
    seed_alone few k = word_same (is_legal s c bay) (λ t. eqb t strand) 64 (λ t h. seed_or_none true k t) ∙ word_only 64 strand (lt_of_lt_of_le below few)

    pub seed_left_out : list_allows (list_of c bay) strand ≡ false → set_at s c bay ≡ 0
    seed_left_out k = word_same (is_legal s c bay) (λ t. false) 64 (λ t h. seed_or_none false k t) ∙ word_none 64

-- a bay has an empty list where its two offsets are equal
pub empty_list : (offsets tiles : List ℕ) (bay : ℕ) → get_or offsets bay 0 ≡ get_or offsets (bay + 1) 0 → list_of (lists offsets tiles) bay ≡ []
empty_list offsets tiles bay e = rw (e, sub_self (get_or offsets (bay + 1) 0))

-- and where there are no constraints
pub no_list : (bay : ℕ) → list_of (constraints_of Absent) bay ≡ []
no_list bay = refl
