-- A list of bases, as offset and length of each in a text, and the glues of a base. Assumes nothing.
use Rattle.std.specs.Prelude.{ℕ, zero, suc, ◌+◌, ◌*◌, ◌≤◌, ◌≡◌, Bool, true, cond, ◌&&◌, List, leb, length, get_or}
use Rattle.units.specs.Limits.{most_bases}
use Rattle.text_entries.specs.Entries.{part, same_bytes}
use Rattle.text_entries.specs.InOrder.{first_from}
use Rattle.name_stars.specs.Stars.{base_of, is_from}

-- where base j starts and ends in the text
abbrev pub base_start : List ℕ → ℕ → ℕ
base_start bases j = get_or bases (j + j) 0

abbrev pub base_end : List ℕ → ℕ → ℕ
base_end bases j = base_start bases j + get_or bases (j + j + 1) 0

abbrev pub base_name : (text bases : List ℕ) → ℕ → List ℕ
base_name text bases j = part text (base_start bases j) (base_end bases j)

-- the k bases from base j on lie within a text of this length
unfoldable pub bases_fit_from : (end : ℕ) → List ℕ → (j k : ℕ) → Bool
bases_fit_from end bases j zero = true
bases_fit_from end bases j (suc k) = leb (base_end bases j) end && bases_fit_from end bases (suc j) k

-- the first `count` bases do
abbrev pub bases_fit : (end : ℕ) → List ℕ → (count : ℕ) → Bool
bases_fit end bases count = bases_fit_from end bases 0 count

-- base j has this name
abbrev pub is_base : (text bases name : List ℕ) → ℕ → Bool
is_base text bases name j = same_bytes (base_name text bases j) name

-- the first base of this name, or `count` where there is none
abbrev pub find_base : (text bases : List ℕ) → (count : ℕ) → (name : List ℕ) → ℕ
find_base text bases count name = first_from (is_base text bases name) 0 count

-- the number of a name's base, the name without its stars, or `count` where it is not in the list
abbrev pub base_number : (text bases : List ℕ) → (count : ℕ) → (name : List ℕ) → ℕ
base_number text bases count name = find_base text bases count (base_of name)

-- base j has the glues 2j + 1 and 2j + 2; the name's stars say which
abbrev pub glue_of : (j : ℕ) → (name : List ℕ) → ℕ
glue_of j name = cond (is_from name) (j * 2 + 1) (j * 2 + 1 + 1)

-- a list of at most 127 bases that lie within the text, as the steps of a call ask it of each other
pub record Searchable (text bases : List ℕ) (count : ℕ) : Type 0 where
  pub few : count ≤ most_bases
  pub held : count + count ≤ length bases
  pub within : bases_fit (length text) bases count ≡ true
