-- `name_seeds::fill_seeds`: k triples stand in front of what was there. Assumes nothing.
use Prim.Native.Nat.{◌*◌}
use mathlib.Core.List.{◌++◌}
use mathlib.Core.Path.{◌≡◌}
use lib.ListN.{drop}
use Rattle.name_strands.specs.Names.{strand_names_of}
use Rattle.name_seed_checks.specs.Sizes.{seed_list_of}
use Rattle.name_seeds.specs.Seeds.{seed_triples}
use Rattle.name_seeds.proofs.fill_seeds.Given as goal

abbrev pub invariant-loop-k : goal.invariant-loop-k
invariant-loop-k l =
    l.table ≡ seed_triples (strand_names_of l.names) (seed_list_of l.seeds) l.k ++ drop (3 * l.k) l.initial.table
