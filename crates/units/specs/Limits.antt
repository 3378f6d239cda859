-- The limits of the rules (docs/RULES.md, Sizes and floats), each once; `units`' constants of the same names are held equal to them. Assumes nothing.
use Rattle.std.specs.Prelude.{ℕ, Bool, ◌&&◌, leb}
use Rattle.units.specs.declared.Limits.{Limits}
use Rattle.units.specs.Decimals.{plus}

-- rows of a grid, and its columns
abbrev pub most_side : ℕ
most_side = 32

-- strands of a system, strand 0 included
abbrev pub most_strands : ℕ
most_strands = 64

-- glues of a system, glue 0 included
abbrev pub most_glues : ℕ
most_glues = 256

-- bases of glue names: base j has the glues 2j + 1 and 2j + 2
abbrev pub most_bases : ℕ
most_bases = 127

-- numbers of a list of bases, a begin and an end for each
abbrev pub base_numbers : ℕ
base_numbers = 254

-- bytes of a text of names
abbrev pub most_name_bytes : ℕ
most_name_bytes = 16384

-- rows of a ledger
abbrev pub most_rows : ℕ
most_rows = 1048576

-- letters of a sequence
abbrev pub most_letters : ℕ
most_letters = 256

-- kelvin, both ends included
abbrev pub least_kelvin : ℕ
least_kelvin = 200

abbrev pub most_kelvin : ℕ
most_kelvin = 500

-- from 1 to a limit
abbrev pub from_one_to : (most n : ℕ) → Bool
from_one_to most n = leb 1 n && leb n most

-- all of them
abbrev pub all_limits : Limits
all_limits =
    record {
      side = most_side;
      strands = most_strands;
      glues = most_glues;
      bases = most_bases;
      base_numbers = base_numbers;
      name_bytes = most_name_bytes;
      rows = most_rows;
      letters = most_letters;
      least_kelvin = plus least_kelvin 1;
      most_kelvin = plus most_kelvin 1;
    }
