-- Seeds that are given by name, and the tests of their sizes, counts and texts. Assumes nothing.
use Rattle.std.specs.Prelude.{ℕ, ◌+◌, ◌*◌, ◌/◌, ◌%◌, ◌≡◌, Bool, true, not, ◌&&◌, List, leb, eqb, length}
use Rattle.units.specs.Limits.{most_side, most_name_bytes, from_one_to}
use Rattle.units.specs.Refusals.{Verdict, refuse_if}
use Rattle.units.specs.declared.refusal.Refusal.TheVariants.{Size, Unreadable}
use Rattle.text_entries.specs.Entries.{offsets_fit}
use Rattle.name_strands.specs.Names.{StrandNames, names_sized, names_read}
use Rattle.name_seed_checks.specs.declared.SeedList.{SeedList as LentSeeds}

-- The row and the column of each seed, and the seeds' names by offsets into their text.
pub record SeedList : Type 0 where
  pub places : List ℕ
  pub text : List ℕ
  pub offsets : List ℕ

abbrev pub seed_list : (places text offsets : List ℕ) → SeedList
seed_list places text offsets = record { places = places; text = text; offsets = offsets }

-- as they are lent
abbrev pub seed_list_of : LentSeeds → SeedList
seed_list_of lent = seed_list lent.places.now lent.names.text.now lent.names.offsets.now

abbrev pub seed_count : SeedList → ℕ
seed_count s = length s.places / 2

-- a row and a column for each seed, at most 16,384 bytes of text, one offset more than seeds, three places in the table for each
abbrev pub seeds_sized : SeedList → (table : ℕ) → Bool
seeds_sized s table =
    eqb (length s.places % 2) 0
    && (leb (length s.text) most_name_bytes && (eqb (length s.offsets) (seed_count s + 1) && eqb table (3 * seed_count s)))

-- 1 to 32 rows and columns, and the sizes and counts of the names and the seeds
abbrev pub sizes_right : (rows cols strands : ℕ) → StrandNames → SeedList → (table : ℕ) → Bool
sizes_right rows cols strands n s table =
    (from_one_to most_side rows && from_one_to most_side cols) && (names_sized strands n && seeds_sized s table)

-- the names and the numerals can be read, and no offset of a seed falls or overruns its text
abbrev pub texts_right : StrandNames → SeedList → Bool
texts_right n s = names_read n && offsets_fit (length s.text) s.offsets

-- 1: a size is outside the rules', or a count is wrong
abbrev pub seeds_sizes : (rows cols strands : ℕ) → StrandNames → SeedList → (table : ℕ) → Verdict
seeds_sizes rows cols strands n s table = refuse_if (not (sizes_right rows cols strands n s table)) Size

-- 17: a text cannot be read
abbrev pub seeds_reading : StrandNames → SeedList → Verdict
seeds_reading n s = refuse_if (not (texts_right n s)) Unreadable

-- What passed tests tell of the seeds.
pub record SeedsReadable (s : SeedList) : Type 0 where
  pub pairs : length s.places ≡ 2 * seed_count s
  pub counts : length s.offsets ≡ seed_count s + 1
  pub offsets_fit_holds : offsets_fit (length s.text) s.offsets ≡ true
