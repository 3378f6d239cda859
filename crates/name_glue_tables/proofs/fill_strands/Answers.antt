-- `name_glue_tables::fill_strands` meets its contract. The invariant: the first s strands are written, and the rest is as it was. Assumes nothing.
use mathlib.Core.Path.{refl}
use Rattle.name_glues.specs.Names.{names_of}
use Rattle.name_glue_tables.specs.Tables.{strand_table}
use Rattle.name_glue_tables.proofs.Filling.{strand_turn}
use Rattle.name_glue_tables.proofs.fill_strands.Goals as goal

pub loop-s-init : goal.loop-s-init
unfolding strand_table
loop-s-init c = refl

pub loop-s-preserved : goal.loop-s-preserved
loop-s-preserved c =
    strand_turn (names_of c.args.registry.now.names.names) c.args.registry.now.bases.now c.args.registry.now.count c.loop-s.s c.args.table.now
    c.loop-s.invariant c.glues_of_strand.ensures c.put_strand.ensures
