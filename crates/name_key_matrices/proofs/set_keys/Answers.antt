-- `name_key_matrices::set_keys`: both matrices are those of the first k keys. Assumes nothing.
use lib.ListN.{length}
use Rattle.name_keys.specs.Names.{key_names_of}
use Rattle.name_key_values.specs.Values.{values_of}
use Rattle.name_keys_lent.proofs.LentLaws.{held}
use Rattle.name_key_matrices.proofs.MatrixLaws.{dg, ds, matrix_none, matrix_more, matrix_length}
use Rattle.name_key_matrices.proofs.set_keys.Goals as goal

pub loop-k-init : goal.loop-k-init
loop-k-init c =
    let n = key_names_of c.args.names.now in
    let v = values_of c.args.values.now in
    let h = held n v (length c.args.delta_g.now) (length c.args.entropy.now) c.requires in (
      matrix_none dg n v _ h.tables.energies c.clear.ensures,
      matrix_none ds n v _ h.tables.entropies c.clear-2.ensures,
    )

pub set_key-requires-clause-delta_g_len : goal.set_key-requires-clause-delta_g_len
set_key-requires-clause-delta_g_len c =
    let n = key_names_of c.args.names.now in
    let v = values_of c.args.values.now in
    (matrix_length dg n v c.loop-k.k c.loop-k.invariant.0, matrix_length ds n v c.loop-k.k c.loop-k.invariant.1)

pub loop-k-preserved : goal.loop-k-preserved
loop-k-preserved c =
    let n = key_names_of c.args.names.now in
    let v = values_of c.args.values.now in (
      matrix_more dg n v c.loop-k.k c.loop-k.invariant.0 c.joined.ensures c.energy.ensures c.set_key.ensures.delta_g_after,
      matrix_more ds n v c.loop-k.k c.loop-k.invariant.1 c.joined.ensures c.energy.ensures c.set_key.ensures.entropy_after,
    )
