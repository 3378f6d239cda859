-- What a registering is asked, and what is refused of it before any name is registered. Assumes nothing.
use Rattle.std.specs.Prelude.{ℕ, ◌+◌, ◌*◌, ◌-◌, ◌≤◌, ◌≡◌, Bool, not, ◌&&◌, eqb, length}
use Rattle.units.specs.Limits.{most_side, most_strands, base_numbers, from_one_to}
use Rattle.units.specs.declared.refusal.Refusal.TheVariants.{Size, Unreadable}
use Rattle.units.specs.Refusals.{Verdict, refuse_if, ◌▷◌}
use Rattle.text_entries.specs.Entries.{offsets_fit, are_flags, entries_sized}
use Rattle.name_glues.specs.Names.{GlueNames}

-- What a call is asked: the sizes, the names, and the lengths of the lent tables.
pub record Request : Type 0 where
  pub rows : ℕ
  pub cols : ℕ
  pub strands : ℕ
  pub names : GlueNames
  pub glues : ℕ
  pub scaffold : ℕ
  pub bases : ℕ

abbrev pub request : (rows cols strands : ℕ) → GlueNames → (glues scaffold bases : ℕ) → Request
request rows cols strands n glues scaffold bases =
    record { rows = rows; cols = cols; strands = strands; names = n; glues = glues; scaffold = scaffold; bases = bases }

-- rows and columns 1 to 32, strands 1 to 64
abbrev pub sizes_in_range : (rows cols strands : ℕ) → Bool
sizes_in_range rows cols strands = from_one_to most_side rows && (from_one_to most_side cols && from_one_to most_strands strands)

-- five glues for each strand, one for each bay, 254 numbers for the bases
abbrev pub tables_fit : (glues scaffold bases strands bays : ℕ) → Bool
tables_fit glues scaffold bases strands bays = eqb glues (strands * 5) && (eqb scaffold bays && eqb bases base_numbers)

-- the entries go strand by strand, five for each strand above 0, and then bay by bay, row by row
abbrev pub first_bay : (strands : ℕ) → ℕ
first_bay strands = (strands - 1) * 5

abbrev pub bay_count : Request → ℕ
bay_count q = q.rows * q.cols

abbrev pub entry_count : Request → ℕ
entry_count q = first_bay q.strands + bay_count q

-- sizes and lengths are right
abbrev pub is_sized : Request → Bool
is_sized q =
    sizes_in_range q.rows q.cols q.strands
    && (entries_sized (length q.names.text) (length q.names.offsets) (length q.names.present) (entry_count q)
    && tables_fit q.glues q.scaffold q.bases q.strands (bay_count q))

-- 1: a size is outside its range, or a slice has the wrong length
abbrev pub request_sizes : Request → Verdict
request_sizes q = refuse_if (not (is_sized q)) Size

-- each presence byte is 0 or 1, and no offset falls or overruns the text
abbrev pub is_readable : GlueNames → Bool
is_readable n = are_flags n.present && offsets_fit (length n.text) n.offsets

-- 17: a presence byte is something else, or an offset falls or overruns
abbrev pub request_reading : GlueNames → Verdict
request_reading n = refuse_if (not (is_readable n)) Unreadable

-- 1, then 17
abbrev pub input_verdict : Request → Verdict
input_verdict q = request_sizes q ▷ request_reading q.names

-- lengths that fit each other
pub record Fitting (n : GlueNames) (strands glues scaffold bases : ℕ) : Type 0 where
  pub one : 1 ≤ strands
  pub entries : length n.present ≡ first_bay strands + scaffold
  pub five : glues ≡ strands * 5
  pub room : bases ≡ base_numbers
