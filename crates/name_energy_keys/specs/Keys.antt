-- What is refused of a list of keys, and in which order. Assumes nothing.
use Rattle.std.specs.Prelude.{ℕ}
use Rattle.units.specs.Refusals.{Verdict, ◌▷◌}
use Rattle.name_key_values.specs.Values.{Values}
use Rattle.name_key_values.specs.Refusals.{values_verdict}
use Rattle.name_keys.specs.Names.{KeyNames}
use Rattle.name_keys_lent.specs.Lent.{lent_verdict}

-- 1, 17, then each key in list order
abbrev pub keys_verdict : KeyNames → Values → (delta_g entropy : ℕ) → Verdict
keys_verdict n v delta_g entropy = lent_verdict n v delta_g entropy ▷ values_verdict v
