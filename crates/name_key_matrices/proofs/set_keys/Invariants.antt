-- `name_key_matrices::set_keys`: both matrices are those of the first k keys. Assumes nothing.
use mathlib.Core.Path.{◌≡◌}
use Rattle.name_key_matrices.proofs.MatrixLaws.{dg, ds}
use Rattle.name_key_matrices.specs.Matrices.{matrix_to}
use Rattle.name_keys.specs.Names.{key_names_of}
use Rattle.name_key_values.specs.Values.{values_of}
use Rattle.name_key_matrices.proofs.set_keys.Given as goal

abbrev pub invariant-loop-k : goal.invariant-loop-k
invariant-loop-k l =
    (l.delta_g ≡ matrix_to dg (key_names_of l.names) (values_of l.values) l.k)
    × (l.entropy ≡ matrix_to ds (key_names_of l.names) (values_of l.values) l.k)
