-- `name_energy_keys::energy_keys`: what is lent has passed its tests. Assumes nothing.
use mathlib.Core.Path.{sym}
use lib.ListN.{length}
use Rattle.name_keys.specs.Names.{key_names_of}
use Rattle.name_key_values.specs.Values.{values_of}
use Rattle.name_keys_lent.proofs.LentLaws.{held}
use Rattle.name_energy_keys.proofs.KeyLaws.{lent_passed}
use Rattle.name_energy_keys.proofs.energy_keys.Goals as goal

pub check-requires : goal.check-requires
check-requires c =
    let n = key_names_of c.args.names.now in
    let v = values_of c.args.values.now in
    let g = length c.args.delta_g.now in
    let s = length c.args.entropy.now in
    let h = held n v g s (lent_passed n v g s (sym c.in_ok-check_lent.ensures)) in
    record { numbers_len = h.lists.two_numbers; sequence_offsets_len = h.lists.one_sequence }

pub set_keys-requires : goal.set_keys-requires
set_keys-requires c =
    lent_passed (key_names_of c.args.names.now) (values_of c.args.values.now) (length c.args.delta_g.now) (length c.args.entropy.now)
    (sym c.in_ok-check_lent.ensures)
