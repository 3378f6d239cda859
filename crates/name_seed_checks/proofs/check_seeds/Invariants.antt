-- `name_seed_checks::check_seeds`: the seeds that are left decide. Assumes nothing.
use Prim.Native.Nat.{◌-◌}
use mathlib.Core.Path.{◌≡◌}
use Rattle.text_entries.specs.InOrder.{each_from}
use Rattle.name_strands.specs.Names.{strand_names_of}
use Rattle.name_seed_checks.specs.Sizes.{seed_list_of, seed_count}
use Rattle.name_seed_checks.specs.Each.{seed_verdict, each_seed}
use Rattle.name_seed_checks.proofs.check_seeds.Given as goal

abbrev pub invariant-loop-k : goal.invariant-loop-k
invariant-loop-k l =
    let n = strand_names_of l.names in
    let s = seed_list_of l.seeds in
    each_seed l.rows l.cols n s ≡ each_from (seed_verdict l.rows l.cols n s) l.k (seed_count s - l.k)
