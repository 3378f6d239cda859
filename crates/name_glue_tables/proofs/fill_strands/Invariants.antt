-- `name_glue_tables::fill_strands` meets its contract. The invariant: the first s strands are written, and the rest is as it was. Assumes nothing.
use Prim.Native.Nat.{◌*◌}
use mathlib.Core.Path.{◌≡◌}
use mathlib.Core.List.{◌++◌}
use lib.ListN.{drop}
use Rattle.name_glues.specs.Names.{names_of}
use Rattle.name_glue_tables.specs.Tables.{strand_table}
use Rattle.name_glue_tables.proofs.fill_strands.Given as goal

abbrev pub invariant-loop-s : goal.invariant-loop-s
invariant-loop-s l = l.table ≡ strand_table (names_of l.registry.names.names) l.registry.bases.now l.registry.count l.s ++ drop (l.s * 5) l.initial.table
