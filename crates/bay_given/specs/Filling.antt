-- A call that fills a lent slice where its tests pass. Assumes nothing.
use Rattle.std.specs.Prelude.{ℕ, ◌≡◌, List}
use Rattle.units.specs.Refusals.{Verdict, if_passes}

-- the answer and what the slice holds afterwards, by the verdict of the tests, what is to be written and what was there
pub record Fills (v : Verdict) (new old : List ℕ) (r : Verdict) (left : List ℕ) : Type 0 where
  pub answer : r ≡ v
  pub holds : left ≡ if_passes v new old
