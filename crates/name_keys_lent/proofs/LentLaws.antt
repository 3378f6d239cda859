-- What passed tests tell of the slices that are lent. Assumes nothing.
use Prim.Native.Nat.{ℕ, ◌+◌, ◌*◌, ◌≤◌}
use mathlib.Core.Path.{◌≡◌}
use mathlib.Core.Bool.{true, ◌&&◌}
use native.Mathlib.Nat.{mul-le-mul}
use native.Mathlib.Omega.{arith}
use lib.Dec.{eqb, leb}
use lib.ListN.{length}
use borrow.Author.Tests.{leb-true, eqb-true}
use Rattle.units.specs.Limits.{most_bases, base_numbers, most_name_bytes}
use Rattle.units.proofs.Tests.{both}
use Rattle.text_entries.specs.Entries.{offsets_fit, are_flags}
use Rattle.name_base_list.specs.Bases.{bases_fit, Searchable}
use Rattle.name_key_values.specs.Values.{Values}
use Rattle.name_keys.specs.Names.{KeyNames}
use Rattle.name_keys_lent.specs.Lent.{side_of, lists_fit, matrices_fit, Lent}

-- the lists have their lengths
pub record Lists (keys offsets paired numbers sequence_offsets : ℕ) : Type 0 where
  pub two_names : offsets ≡ keys + keys + 1
  pub one_byte : paired ≡ keys
  pub two_numbers : numbers ≡ keys + keys
  pub one_sequence : sequence_offsets ≡ keys + 1

lists_hold : (keys text offsets paired numbers sequence_offsets : ℕ)
    → lists_fit keys text offsets paired numbers sequence_offsets ≡ true → Lists keys offsets paired numbers sequence_offsets
lists_hold keys text offsets paired numbers sequence_offsets e =
    let a = (both (leb text most_name_bytes) _ e).1 in
    let b = both (eqb offsets (keys + keys + 1)) _ a in
    let c = both (eqb paired keys) _ b.1 in
    let d = both (eqb numbers (keys + keys)) (eqb sequence_offsets (keys + 1)) c.1 in
    record {
      two_names = eqb-true _ _ b.0;
      one_byte = eqb-true _ _ c.0;
      two_numbers = eqb-true _ _ d.0;
      one_sequence = eqb-true _ _ d.1;
    }

-- the tables have their lengths
pub record Tables (bases count delta_g entropy : ℕ) : Type 0 where
  pub few : count ≤ most_bases
  pub all_bases : bases ≡ base_numbers
  pub energies : delta_g ≡ side_of count * side_of count
  pub entropies : entropy ≡ side_of count * side_of count

pub tables_hold : (bases count delta_g entropy : ℕ) → matrices_fit bases count delta_g entropy ≡ true → Tables bases count delta_g entropy
tables_hold bases count delta_g entropy e =
    let a = both (leb count most_bases) _ e in
    let b = both (eqb bases base_numbers) _ a.1 in
    let c = both (eqb delta_g (side_of count * side_of count)) (eqb entropy (side_of count * side_of count)) b.1 in
    record {
      few = leb-true _ _ a.0;
      all_bases = eqb-true _ _ b.0;
      energies = eqb-true _ _ c.0;
      entropies = eqb-true _ _ c.1;
    }

-- a side of at most 255 has a square that fits
pub square_small : (count : ℕ) → count ≤ most_bases → side_of count * side_of count ≤ 65025
square_small count few =
    let h : side_of count ≤ 255 = omega arith in
    mul-le-mul h h

-- the list of bases holds as many as count
pub bases_enough : (bases count delta_g entropy : ℕ) → matrices_fit bases count delta_g entropy ≡ true → count + count ≤ bases
bases_enough bases count delta_g entropy e =
    let tables = tables_hold bases count delta_g entropy e in
    omega arith

-- what is lent holds together
pub record Held (n : KeyNames) (v : Values) (delta_g entropy : ℕ) : Type 0 where
  pub lists : Lists (length v.kinds) (length n.offsets) (length n.paired) (length v.numbers) (length v.sequence_offsets)
  pub tables : Tables (length n.bases) n.count delta_g entropy
  pub names_within : offsets_fit (length n.text) n.offsets ≡ true
  pub searchable : Searchable n.text n.bases n.count

pub held : (n : KeyNames) (v : Values) (delta_g entropy : ℕ) → Lent n v delta_g entropy → Held n v delta_g entropy
held n v delta_g entropy lent =
    let sizes = both (lists_fit (length v.kinds) (length n.text) (length n.offsets) (length n.paired) (length v.numbers) (length v.sequence_offsets)) _ lent.sizes in
    let names = offsets_fit (length n.text) n.offsets && bases_fit (length n.text) n.bases n.count in
    let rest = (both (are_flags n.paired && are_flags v.kinds) _ lent.reading).1 in
    let text = both (offsets_fit (length n.text) n.offsets) (bases_fit (length n.text) n.bases n.count) (both names _ rest).0 in
    let tables = tables_hold (length n.bases) n.count delta_g entropy sizes.1 in
    record {
      lists = lists_hold _ (length n.text) _ _ _ _ sizes.0;
      tables = tables;
      names_within = text.0;
      searchable = record { few = tables.few; held = bases_enough (length n.bases) n.count delta_g entropy sizes.1; within = text.1 };
    }
