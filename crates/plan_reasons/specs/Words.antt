-- What each rule that forbids a strand says of the bay, in words. Assumes nothing.
use Rattle.std.specs.Prelude.{ℕ, ◌≡◌, false, [], Some, None}
use Rattle.bay_glues.specs.Tables.{scaffold_glue}
use Rattle.bay_lists.specs.Lists.{Constraints, list_of, names}
use Rattle.bay_binding.specs.Binding.{binds}
use Rattle.bay_system.specs.System.{System}
use Rattle.bay_legal_at.specs.Legal.{seed_of}

-- another strand is seeded there
pub record OtherLies (s : System) (bay strand : ℕ) : Type 0 where
  pub other : ℕ
  pub lies : seed_of s bay ≡ Some other
  pub differs : strand ≡ other → ⊥

-- no strand is seeded there, this one is not 0, and its bottom glue has no bond with the bay's
pub record NothingBinds (s : System) (bay strand : ℕ) : Type 0 where
  pub unseeded : seed_of s bay ≡ None
  pub not_0 : strand ≡ 0 → ⊥
  pub no_bond : binds s (scaffold_glue s.scaffold bay) strand ≡ false

-- the bay's list is not empty and does not name the strand
pub record LeftOut (c : Constraints) (bay strand : ℕ) : Type 0 where
  pub some : list_of c bay ≡ [] → ⊥
  pub unnamed : names (list_of c bay) strand ≡ false
