-- A small layout as a grid of names, computed. Assumes nothing.
use mathlib.Core.List.{[], ◌∷◌}
use mathlib.Core.Path.{◌≡◌, refl}
use Rattle.text_entries.specs.Entries.{offsets_from, are_flags}
use Rattle.name_strands.specs.Numerals.{numerals_from, numerals_text}
use Rattle.name_strands.specs.Names.{StrandNames, strand_names, names_sized, null_first, names_read}
use Rattle.plan_bay_names.specs.Bays.{name_of, bay_text, begun, character_count, widest_bay}
use Rattle.plan_layout_text.specs.Grid.{spaces, gap, row_text, rows_text, layout_text}

-- three strands: `null`, one without a name, and `aé`
three : StrandNames
three = strand_names (110 ∷ 117 ∷ 108 ∷ 108 ∷ 97 ∷ 195 ∷ 169 ∷ []) (0 ∷ 4 ∷ 4 ∷ 7 ∷ []) (1 ∷ 0 ∷ 1 ∷ []) numerals_text

-- two rows of three bays:
--   aé  .   0
--   .   aé  aé
two_rows : layout_text 2 3 three (2 ∷ 0 ∷ 1 ∷ 0 ∷ 2 ∷ 2 ∷ [])
    ≡ 97 ∷ 195 ∷ 169 ∷ 32 ∷ 32 ∷ 46 ∷ 32 ∷ 32 ∷ 32 ∷ 48 ∷ 10 ∷ 46 ∷ 32 ∷ 32 ∷ 32 ∷ 97 ∷ 195 ∷ 169 ∷ 32 ∷ 32 ∷ 97 ∷ 195 ∷ 169 ∷ 10 ∷ []
unfolding three offsets_from are_flags numerals_from names_sized null_first names_read name_of bay_text begun character_count widest_bay spaces gap row_text rows_text
two_rows = refl
