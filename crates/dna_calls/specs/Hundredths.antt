-- The hundredths mode: its answer. Assumes nothing.
use Rattle.std.specs.Prelude.{ℕ, ℤ, List, Result}
use Rattle.units.specs.declared.refusal.Refusal.{Refusal}
use Rattle.units.specs.Refusals.{answer}
use Rattle.dna_hundredths.specs.Hundredths.{single_hundredths}
use Rattle.dna_single.specs.Single.{single_verdict}

abbrev pub string_dna_hundredths : List ℕ → Result ℤ Refusal
string_dna_hundredths dna = answer (single_verdict dna) (single_hundredths dna)
