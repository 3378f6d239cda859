-- What a key gives, two floats or a sequence: how it is read, and the energy that it comes to. Assumes nothing.
use Rattle.std.specs.Prelude.{ℕ, ◌+◌, cond, List, eqb, Float, get_or}
use Rattle.std.specs.Float.{nan}
use Rattle.units.specs.declared.BaseEnergy.{BaseEnergy}
use Rattle.dna_single.specs.Single.{single_energy}
use Rattle.text_entries.specs.Entries.{part}
use Rattle.name_key_values.specs.declared.KeyValues.{KeyValues}
use Rattle.name_key_values.specs.declared.GsOrSeq.{GsOrSeq}
use Rattle.name_key_values.specs.declared.GsOrSeq.TheVariants.{GS, Seq}

-- The keys' values as they are lent: a kind for each key, two numbers for each key, and the sequences' text with its offsets.
pub record Values : Type 0 where
  pub kinds : List ℕ
  pub numbers : List Float
  pub sequences : List ℕ
  pub sequence_offsets : List ℕ

abbrev pub values : (kinds : List ℕ) → (numbers : List Float) → (sequences sequence_offsets : List ℕ) → Values
values kinds numbers sequences sequence_offsets = record { kinds = kinds; numbers = numbers; sequences = sequences; sequence_offsets = sequence_offsets }

-- as they are lent
abbrev pub values_of : KeyValues → Values
values_of lent = values lent.kinds.now lent.numbers.now lent.sequences.text.now lent.sequences.offsets.now

-- the numbers 2k and 2k + 1, and the sequence at entry k
abbrev pub numbers_at : (numbers : List Float) → ℕ → GsOrSeq
numbers_at numbers k = GS (get_or numbers (k + k) nan) (get_or numbers (k + k + 1) nan)

abbrev pub sequence_at : (sequence_offsets : List ℕ) → ℕ → GsOrSeq
sequence_at sequence_offsets k = Seq (get_or sequence_offsets k 0) (get_or sequence_offsets (k + 1) 0)

-- what key k gives: kind 1 is a sequence, kind 0 two numbers
abbrev pub value_at : (kinds : List ℕ) → (numbers : List Float) → (sequence_offsets : List ℕ) → ℕ → GsOrSeq
value_at kinds numbers sequence_offsets k = cond (eqb (get_or kinds k 0) 1) (sequence_at sequence_offsets k) (numbers_at numbers k)

-- the energy that a value comes to: the two floats, or that of the sequence with its start term
abbrev pub gs_or_seq_to_gs : (sequences : List ℕ) → GsOrSeq → BaseEnergy
gs_or_seq_to_gs sequences (GS dg ds) = record { dg = dg; ds = ds }
gs_or_seq_to_gs sequences (Seq from to) = single_energy (part sequences from to)

-- the same of key k
abbrev pub key_energy : Values → ℕ → BaseEnergy
key_energy v k = gs_or_seq_to_gs v.sequences (value_at v.kinds v.numbers v.sequence_offsets k)
