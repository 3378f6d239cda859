-- What is lent and passed has its sizes and can be read. Assumes nothing.
use Prim.Native.Nat.{ℕ}
use mathlib.Core.Path.{◌≡◌}
use Rattle.units.specs.Refusals.{passes}
use Rattle.units.specs.declared.refusal.Refusal.TheVariants.{Size, Unreadable}
use Rattle.units.proofs.Verdicts.{first_passes, rest_passes}
use Rattle.text_entries.proofs.Tested.{no_fault_found}
use Rattle.name_key_values.specs.Values.{Values}
use Rattle.name_keys.specs.Names.{KeyNames}
use Rattle.name_keys_lent.specs.Lent.{keys_sizes, keys_reading, lent_verdict, Lent}

pub lent_passed : (n : KeyNames) (v : Values) (delta_g entropy : ℕ) → lent_verdict n v delta_g entropy ≡ passes → Lent n v delta_g entropy
lent_passed n v delta_g entropy e =
    record {
      sizes = no_fault_found _ Size (first_passes (keys_sizes n v delta_g entropy) (keys_reading n v) e);
      reading = no_fault_found _ Unreadable (rest_passes (keys_sizes n v delta_g entropy) (keys_reading n v) e);
    }
