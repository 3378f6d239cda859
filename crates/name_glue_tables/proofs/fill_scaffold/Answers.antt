-- `name_glue_tables::fill_scaffold` meets its contract. The invariant: the first bays are written, and the rest is as it was. Assumes nothing.
use mathlib.Core.Path.{refl}
use Rattle.name_glues.specs.Names.{names_of}
use Rattle.name_glue_tables.specs.Tables.{scaffold_table}
use Rattle.name_glue_tables.proofs.Filling.{bay_turn}
use Rattle.name_glue_tables.proofs.fill_scaffold.Goals as goal

pub loop-bay-init : goal.loop-bay-init
unfolding scaffold_table
loop-bay-init c = refl

pub loop-bay-preserved : goal.loop-bay-preserved
loop-bay-preserved c =
    bay_turn (names_of c.args.registry.now.names.names) c.args.registry.now.bases.now c.args.registry.now.count c.args.from c.loop-bay.bay c.args.table.now
    c.loop-bay.invariant c.glue_at.ensures c.loop-bay-test.true
