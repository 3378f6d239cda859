-- One sequence with its perfect fit: what the calls answer. Assumes nothing.
use Rattle.std.specs.Prelude.{ℕ, List, Result, Float}
use Rattle.units.specs.declared.BaseEnergy.{BaseEnergy}
use Rattle.units.specs.declared.refusal.Refusal.{Refusal}
use Rattle.units.specs.Refusals.{answer}
use Rattle.units.specs.Kelvin.{energy_at}
use Rattle.dna_single.specs.Single.{single_energy, single_verdict, single_at_verdict}

abbrev pub string_dna_dg_ds : List ℕ → Result BaseEnergy Refusal
string_dna_dg_ds dna = answer (single_verdict dna) (single_energy dna)

abbrev pub string_dna_delta_g : List ℕ → Float → Result Float Refusal
string_dna_delta_g dna kelvin = answer (single_at_verdict dna kelvin) (energy_at (single_energy dna) kelvin)
