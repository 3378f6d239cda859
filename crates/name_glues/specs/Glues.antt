-- The bases and glues of entries by a list of bases. Assumes nothing.
use Rattle.std.specs.Prelude.{ℕ, cond, List}
use Rattle.name_base_list.specs.Bases.{base_number, glue_of}
use Rattle.name_glues.specs.Names.{GlueNames, name_at, is_present}

-- the number of entry i's base in a list of bases, first match counting, or their count where it is not there
abbrev pub base_at : GlueNames → (bases : List ℕ) → (count : ℕ) → ℕ → ℕ
base_at n bases count i = base_number n.text bases count (name_at n i)

-- the glue of entry i: an absent one gives glue 0
abbrev pub glue_at : GlueNames → (bases : List ℕ) → (count : ℕ) → ℕ → ℕ
glue_at n bases count i = cond (is_present n i) (glue_of (base_at n bases count i) (name_at n i)) 0
