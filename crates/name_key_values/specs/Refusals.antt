-- What is refused of what a key gives. Assumes nothing.
use Rattle.std.specs.Prelude.{ℕ, not, ◌&&◌, List, Float, length}
use Rattle.units.specs.Finite.{finite}
use Rattle.units.specs.Refusals.{Verdict, refuse_if}
use Rattle.units.specs.declared.refusal.Refusal.TheVariants.{Energy}
use Rattle.dna_single.specs.Single.{sequence_verdict}
use Rattle.text_entries.specs.Entries.{part}
use Rattle.text_entries.specs.InOrder.{each_from}
use Rattle.name_key_values.specs.declared.GsOrSeq.{GsOrSeq}
use Rattle.name_key_values.specs.declared.GsOrSeq.TheVariants.{GS, Seq}
use Rattle.name_key_values.specs.Values.{Values, value_at}

-- 3, with the key's place: ΔG or ΔS is not finite
abbrev pub numbers_verdict : (key : ℕ) → (dg ds : Float) → Verdict
numbers_verdict key dg ds = refuse_if (not (finite dg && finite ds)) (Energy key)

-- what is refused of a value; for a sequence the key's place is 11's sequence
abbrev pub value_verdict : (key : ℕ) → (sequences : List ℕ) → GsOrSeq → Verdict
value_verdict key sequences (GS dg ds) = numbers_verdict key dg ds
value_verdict key sequences (Seq from to) = sequence_verdict key (part sequences from to)

-- the same of key k
abbrev pub key_verdict : Values → ℕ → Verdict
key_verdict v k = value_verdict k v.sequences (value_at v.kinds v.numbers v.sequence_offsets k)

-- every key, in list order
abbrev pub values_verdict : Values → Verdict
values_verdict v = each_from (key_verdict v) 0 (length v.kinds)
