-- A bay in a drawing: its place, its square with its mark, and the name of its tile. Assumes nothing.
use Rattle.std.specs.Prelude.{ℕ, cond, List, [], ◌++◌, eqb}
use Rattle.name_strands.specs.Names.{StrandNames}
use Rattle.text_put.specs.Words.{bytes}
use Rattle.text_put.specs.Forms.{filled}
use Rattle.plan_bay_names.specs.Bays.{name_of}
use Rattle.plan_name_drawing.specs.Letters.{label}

-- a square that holds a tile is filled
unfoldable pub filling : (tile : ℕ) → List ℕ
filling tile = cond (eqb tile 0) [] (bytes "tile ")

-- the border says what is asked of a bay: nothing where the mark is 0, its seed where it is 2, else that it has a list
unfoldable pub border : (mark : ℕ) → List ℕ
border mark = cond (eqb mark 0) (bytes "free") (cond (eqb mark 2) (bytes "seed") (bytes "restricted"))

-- the square, with the tag that opens what lies at its place
abbrev pub square : (across down tile mark : ℕ) → List ℕ
square across down tile mark =
    filled across down (bytes "<g transform=\"translate($,@)\"><rect class=\"") ++ filling tile ++ border mark ++ bytes "\" width=\"72\" height=\"72\"/>"

-- the name of the tile; an empty bay is blank
unfoldable pub tile_label : StrandNames → (tile : ℕ) → List ℕ
tile_label n tile = cond (eqb tile 0) [] (label (name_of n tile))

abbrev pub bay_drawing : StrandNames → (across down tile mark : ℕ) → List ℕ
bay_drawing n across down tile mark = square across down tile mark ++ tile_label n tile ++ bytes "</g>\n"
