-- What is lent to a list of keys, and what is refused of it. Assumes nothing.
use Rattle.std.specs.Prelude.{ℕ, ◌+◌, ◌*◌, ◌≡◌, Bool, true, not, ◌&&◌, List, eqb, leb, length}
use Rattle.units.specs.Limits.{most_bases, base_numbers, most_name_bytes}
use Rattle.units.specs.Refusals.{Verdict, refuse_if, ◌▷◌}
use Rattle.units.specs.declared.refusal.Refusal.TheVariants.{Size, Unreadable}
use Rattle.text_entries.specs.Entries.{offsets_fit, are_flags}
use Rattle.name_base_list.specs.Bases.{bases_fit}
use Rattle.name_key_values.specs.Values.{Values}
use Rattle.name_keys.specs.Names.{KeyNames}

-- a row and a column for each base, each inverse, and glue 0
abbrev pub side_of : (count : ℕ) → ℕ
side_of count = count + count + 1

-- for this many keys: the name text within its limit, two names, a presence byte, two numbers and a sequence for each key
abbrev pub lists_fit : (keys text offsets paired numbers sequence_offsets : ℕ) → Bool
lists_fit keys text offsets paired numbers sequence_offsets =
    leb text most_name_bytes
    && (eqb offsets (keys + keys + 1) && (eqb paired keys && (eqb numbers (keys + keys) && eqb sequence_offsets (keys + 1))))

-- at most 127 bases in 254 numbers, and two square matrices with a row for each glue
abbrev pub matrices_fit : (bases count delta_g entropy : ℕ) → Bool
matrices_fit bases count delta_g entropy =
    leb count most_bases && (eqb bases base_numbers && (eqb delta_g (side_of count * side_of count) && eqb entropy (side_of count * side_of count)))

-- 1: a size is outside its limit, or a slice has the wrong length; the matrices by their lengths
abbrev pub keys_sized : KeyNames → Values → (delta_g entropy : ℕ) → Bool
keys_sized n v delta_g entropy =
    lists_fit (length v.kinds) (length n.text) (length n.offsets) (length n.paired) (length v.numbers) (length v.sequence_offsets)
    && matrices_fit (length n.bases) n.count delta_g entropy

abbrev pub keys_sizes : KeyNames → Values → (delta_g entropy : ℕ) → Verdict
keys_sizes n v delta_g entropy = refuse_if (not (keys_sized n v delta_g entropy)) Size

-- 17: a presence or kind byte is not 0 or 1, an offset falls or overruns its text, or a base does
abbrev pub keys_read : KeyNames → (kinds sequences sequence_offsets : List ℕ) → Bool
keys_read n kinds sequences sequence_offsets =
    (are_flags n.paired && are_flags kinds)
    && ((offsets_fit (length n.text) n.offsets && bases_fit (length n.text) n.bases n.count)
    && offsets_fit (length sequences) sequence_offsets)

abbrev pub keys_reading : KeyNames → Values → Verdict
keys_reading n v = refuse_if (not (keys_read n v.kinds v.sequences v.sequence_offsets)) Unreadable

-- what is lent: 1, then 17
abbrev pub lent_verdict : KeyNames → Values → (delta_g entropy : ℕ) → Verdict
lent_verdict n v delta_g entropy = keys_sizes n v delta_g entropy ▷ keys_reading n v

-- What is lent has passed its tests.
pub record Lent (n : KeyNames) (v : Values) (delta_g entropy : ℕ) : Type 0 where
  pub sizes : keys_sized n v delta_g entropy ≡ true
  pub reading : keys_read n v.kinds v.sequences v.sequence_offsets ≡ true
