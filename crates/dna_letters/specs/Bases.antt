-- The four bases, the letters that stand for them, and which binds which. Assumes nothing.
use Rattle.std.specs.Prelude.{ℕ, Bool, cond, ◌||◌, List, eqb, get_or}
use Rattle.dna_letters.specs.declared.DnaNucleotideBase.{DnaNucleotideBase}
use Rattle.dna_letters.specs.declared.DnaNucleotideBase.TheVariants.{A, T, G, C}

-- a letter in upper or lower case: 65 and 97 are A and a
abbrev pub is_a : ℕ → Bool
is_a letter = eqb letter 65 || eqb letter 97

abbrev pub is_c : ℕ → Bool
is_c letter = eqb letter 67 || eqb letter 99

abbrev pub is_g : ℕ → Bool
is_g letter = eqb letter 71 || eqb letter 103

abbrev pub is_t : ℕ → Bool
is_t letter = eqb letter 84 || eqb letter 116

-- the base of a letter; another byte, which the tests refuse, is taken for C
unfoldable pub base_of : ℕ → DnaNucleotideBase
base_of letter = cond (is_a letter) A (cond (is_t letter) T (cond (is_g letter) G C))

-- the base at a place of a sequence
abbrev pub base_at : List ℕ → ℕ → DnaNucleotideBase
base_at dna i = base_of (get_or dna i 0)

-- the base that binds it
abbrev pub connects_to : DnaNucleotideBase → DnaNucleotideBase
connects_to A = T
connects_to T = A
connects_to G = C
connects_to C = G

-- its place in the tables, in the Rust's order
abbrev pub index_of : DnaNucleotideBase → ℕ
index_of A = 0
index_of T = 1
index_of G = 2
index_of C = 3

abbrev pub good_match : DnaNucleotideBase → DnaNucleotideBase → Bool
good_match a b = eqb (index_of (connects_to a)) (index_of b)
