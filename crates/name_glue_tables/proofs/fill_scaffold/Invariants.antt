-- `name_glue_tables::fill_scaffold` meets its contract. The invariant: the first bays are written, and the rest is as it was. Assumes nothing.
use mathlib.Core.Path.{◌≡◌}
use mathlib.Core.List.{◌++◌}
use lib.ListN.{drop}
use Rattle.name_glues.specs.Names.{names_of}
use Rattle.name_glue_tables.specs.Tables.{scaffold_table}
use Rattle.name_glue_tables.proofs.fill_scaffold.Given as goal

abbrev pub invariant-loop-bay : goal.invariant-loop-bay
invariant-loop-bay l = l.table ≡ scaffold_table (names_of l.registry.names.names) l.registry.bases.now l.registry.count l.from l.bay ++ drop l.bay l.initial.table
