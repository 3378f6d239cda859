-- Four keys over two bases, computed: the definitions run, and say what the rules say of each kind of key. Assumes nothing.
use Prim.Native.Nat.{ℕ}
use mathlib.Core.Path.{◌≡◌, refl}
use mathlib.Core.List.{List, [], ◌∷◌}
use lib.Ieee.{Float, nan, inf}
use mathlib.Core.Bool.{false}
use lib.ListN.{replicate}
use Rattle.units.specs.Decimals.{decimal, plus, minus}
use Rattle.units.specs.Finite.{finite}
use Rattle.units.specs.Refusals.{passes, refuses}
use Rattle.units.specs.declared.refusal.Refusal.TheVariants.{Size, Energy, Unreadable}
use Rattle.dna_single.specs.Single.{single_energy}
use Rattle.text_entries.specs.Entries.{offsets_from, are_flags}
use Rattle.name_stars.specs.Stars.{before_stars}
use Rattle.text_entries.specs.InOrder.{first_from, each_from}
use Rattle.name_base_list.specs.Bases.{bases_fit_from}
use Rattle.name_key_values.specs.Values.{Values, values}
use Rattle.name_keys.specs.Names.{KeyNames, key_names}
use Rattle.name_key_matrices.specs.Matrices.{matrix_to, delta_g}
use Rattle.name_energy_keys.specs.Keys.{keys_verdict}

-- The bases a and b; the keys a*, (a, b*), c and (b, a*).
abbrev a : ℕ
a = 97

abbrev b : ℕ
b = 98

abbrev c : ℕ
c = 99

abbrev star : ℕ
star = 42

abbrev names_with : (paired : List ℕ) → KeyNames
names_with paired =
    key_names (a ∷ b ∷ a ∷ star ∷ a ∷ b ∷ star ∷ c ∷ b ∷ a ∷ star ∷ []) (2 ∷ 4 ∷ 4 ∷ 5 ∷ 7 ∷ 8 ∷ 8 ∷ 9 ∷ 11 ∷ []) paired
    (0 ∷ 1 ∷ 1 ∷ 1 ∷ replicate 250 0) 2

abbrev four_names : KeyNames
four_names = names_with (0 ∷ 1 ∷ 0 ∷ 1 ∷ [])

-- the first three give numbers, the last the sequence AA
abbrev four_values : Values
four_values =
    values (0 ∷ 0 ∷ 0 ∷ 1 ∷ []) (minus 1 1 ∷ minus 2 1 ∷ minus 3 1 ∷ minus 4 1 ∷ minus 5 1 ∷ minus 6 1 ∷ nan ∷ nan ∷ [])
    (65 ∷ 65 ∷ []) (0 ∷ 0 ∷ 0 ∷ 0 ∷ 2 ∷ [])

-- all numbers, with this one as ΔS of the key c, which is not registered
abbrev numbers_with : Float → Values
numbers_with x =
    values (0 ∷ 0 ∷ 0 ∷ 0 ∷ []) (minus 1 1 ∷ minus 2 1 ∷ minus 3 1 ∷ minus 4 1 ∷ minus 5 1 ∷ x ∷ plus 0 1 ∷ plus 0 1 ∷ []) [] (0 ∷ 0 ∷ 0 ∷ 0 ∷ 0 ∷ [])

abbrev o : Float
o = plus 0 1

abbrev aa : Float
aa = (single_energy (65 ∷ 65 ∷ [])).dg

-- a* joins 1 and 2, (a, b*) joins 1 and 4, c nothing, (b, a*) joins 3 and 2
pub the_matrix : delta_g four_names four_values
    ≡ (o ∷ o ∷ o ∷ o ∷ o
    ∷ o ∷ o ∷ minus 1 1 ∷ o ∷ minus 3 1
    ∷ o ∷ minus 1 1 ∷ o ∷ aa ∷ o
    ∷ o ∷ o ∷ aa ∷ o ∷ o
    ∷ o ∷ minus 3 1 ∷ o ∷ o ∷ o
    ∷ [])
unfolding matrix_to first_from before_stars
the_matrix = refl

-- a number that is not finite is refused with its key's place, although the key would be skipped
pub an_infinity : keys_verdict four_names (numbers_with (inf false)) 25 25 ≡ refuses (Energy 2)
unfolding each_from finite decimal offsets_from are_flags bases_fit_from
an_infinity = refl

pub a_nan : keys_verdict four_names (numbers_with nan) 25 25 ≡ refuses (Energy 2)
unfolding each_from finite decimal offsets_from are_flags bases_fit_from
a_nan = refl

pub all_finite : keys_verdict four_names (numbers_with (plus 1 1)) 25 25 ≡ passes
unfolding each_from finite decimal offsets_from are_flags bases_fit_from
all_finite = refl

-- sizes come before flags, and flags before keys
pub a_flag : keys_verdict (names_with (0 ∷ 1 ∷ 2 ∷ 1 ∷ [])) (numbers_with nan) 25 25 ≡ refuses Unreadable
unfolding are_flags
a_flag = refl

pub a_side : keys_verdict (names_with (0 ∷ 1 ∷ 2 ∷ 1 ∷ [])) (numbers_with nan) 25 24 ≡ refuses Size
a_side = refl
