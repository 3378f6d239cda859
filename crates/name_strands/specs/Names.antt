-- The names of the strands, and what is tested of them. Assumes nothing.
use Rattle.std.specs.Prelude.{ℕ, ◌+◌, ◌≤◌, ◌≡◌, Bool, true, not, ◌&&◌, List, [], ◌∷◌, eqb, length, get_or}
use Rattle.units.specs.Limits.{most_strands, from_one_to}
use Rattle.units.specs.Refusals.{Verdict, refuse_if}
use Rattle.units.specs.declared.refusal.Refusal.TheVariants.{Size, Unreadable}
use Rattle.text_entries.specs.Entries.{entry_of, offsets_fit, are_flags, entries_sized, same_bytes}
use Rattle.name_strands.specs.declared.StrandNames.{StrandNames as LentNames}
use Rattle.name_strands.specs.Numerals.{numerals_text}

-- The names text with its offsets and presence bytes, and the numerals text.
pub record StrandNames : Type 0 where
  pub text : List ℕ
  pub offsets : List ℕ
  pub present : List ℕ
  pub numerals : List ℕ

abbrev pub strand_names : (text offsets present numerals : List ℕ) → StrandNames
strand_names text offsets present numerals = record { text = text; offsets = offsets; present = present; numerals = numerals }

-- as they are lent
abbrev pub strand_names_of : LentNames → StrandNames
strand_names_of lent =
    strand_names lent.names.text.now lent.names.offsets.now lent.names.present.now lent.numerals.now

-- 1 to 64 strands, at most 16,384 bytes of text, one offset more than strands and a presence byte for each
unfoldable pub names_sized : (strands : ℕ) → StrandNames → Bool
names_sized strands n =
    from_one_to most_strands strands && entries_sized (length n.text) (length n.offsets) (length n.present) strands

-- the bytes of `null`
abbrev pub null_name : List ℕ
null_name = 110 ∷ 117 ∷ 108 ∷ 108 ∷ []

-- entry 0 is present and is `null`
unfoldable pub null_first : StrandNames → Bool
null_first n = eqb (get_or n.present 0 0) 1 && same_bytes (entry_of n.text n.offsets 0) null_name

-- each presence byte is 0 or 1, no offset falls or overruns the text, entry 0 is `null`, the numerals text is right
unfoldable pub names_read : StrandNames → Bool
names_read n =
    (are_flags n.present && offsets_fit (length n.text) n.offsets) && (null_first n && same_bytes n.numerals numerals_text)

-- 1: a size is outside the rules', or a count is wrong
abbrev pub names_sizes : ℕ → StrandNames → Verdict
names_sizes strands n = refuse_if (not (names_sized strands n)) Size

-- 17: the names or the numerals cannot be read
abbrev pub names_reading : StrandNames → Verdict
names_reading n = refuse_if (not (names_read n)) Unreadable

-- What passed tests tell of names.
pub record StrandsReadable (n : StrandNames) : Type 0 where
  pub offsets_fit_holds : offsets_fit (length n.text) n.offsets ≡ true
  pub counts : length n.offsets ≡ length n.present + 1
  pub few : length n.present ≤ most_strands
  pub null_present : get_or n.present 0 0 ≡ 1
  pub null_name_holds : entry_of n.text n.offsets 0 ≡ null_name
  pub numerals_right : n.numerals ≡ numerals_text
