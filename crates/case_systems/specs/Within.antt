-- What was read of a system lies within the tables that were lent for it. Assumes nothing.
use Rattle.std.specs.Prelude.{ℕ, ◌≤◌, List, Float, length}
use Rattle.case_systems.specs.declared.SystemRead.{SystemRead}
use Rattle.case_systems.specs.declared.lists.Lists.{Lists}

-- each count is at most the length of its table
pub record ListsWithin (r : Lists) (strand_glues scaffold : List ℕ) (logs : List Float) (seeds : List ℕ) : Type 0 where
  pub own_glues : r.strand_glues ≤ length strand_glues
  pub bays : r.scaffold ≤ length scaffold
  pub logarithms : r.logs ≤ length logs
  pub triples : r.seeds ≤ length seeds

-- each count of a system likewise
pub record Within (r : SystemRead) (strand_glues scaffold : List ℕ) (delta_g entropy logs : List Float) (seeds : List ℕ) : Type 0 where
  pub own_glues : r.strand_glues ≤ length strand_glues
  pub bays : r.scaffold ≤ length scaffold
  pub energies : r.delta_g ≤ length delta_g
  pub entropies : r.entropy ≤ length entropy
  pub logarithms : r.logs ≤ length logs
  pub triples : r.seeds ≤ length seeds
