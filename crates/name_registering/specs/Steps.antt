-- What the steps of a registering ask of each other and leave to each other. Assumes nothing.
use Rattle.std.specs.Prelude.{ℕ, ◌≡◌, List, length, Result}
use Rattle.units.specs.declared.refusal.Refusal.{Refusal}
use Rattle.units.specs.Refusals.{if_passes, answer}
use Rattle.name_glues.specs.Names.{GlueNames}
use Rattle.name_registering.specs.Register.{firsts_of, registered_verdict, registered_strands, registered_scaffold, registered_bases}

-- what registering leaves: the answer, and the three tables, from what they were
pub record Registered (n : GlueNames) (strands : ℕ) (result : Result ℕ Refusal) (glues scaffold bases glues' scaffold' bases' : List ℕ) : Type 0 where
  pub answered : result ≡ answer (registered_verdict n strands (length scaffold)) (length (firsts_of n strands (length scaffold)))
  pub strands_written : glues' ≡ if_passes (registered_verdict n strands (length scaffold)) (registered_strands n strands (length scaffold)) glues
  pub scaffold_written : scaffold' ≡ if_passes (registered_verdict n strands (length scaffold)) (registered_scaffold n strands (length scaffold)) scaffold
  pub bases_written : bases' ≡ if_passes (registered_verdict n strands (length scaffold)) (registered_bases n strands (length scaffold)) bases
