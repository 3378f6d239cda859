-- What stands before and after the bays in a drawing: its size, the look of its parts, the energy, and what the marks mean. Assumes nothing.
use Rattle.std.specs.Prelude.{ℕ, List, ◌++◌, Float}
use Rattle.text_put.specs.Words.{bytes}
use Rattle.text_put.specs.Forms.{filled}
use Rattle.text_energy.specs.Hundredths.{energy_text}

-- how letters look; how squares look, filled where they hold a tile, with a border by their mark; and a white ground
abbrev pub style : List ℕ
style =
    bytes "<style>\ntext{font-family:sans-serif;fill:#1d2733}\n.energy{font-size:18px;font-weight:bold}\n.key{font-size:14px}\n.name{text-anchor:middle}\n"
    ++ bytes "rect{fill:#fff;stroke:#b4bcc8}\n.tile{fill:#e6eef8}\n.ground{stroke:none}\n"
    ++ bytes ".restricted{stroke:#b45309;stroke-width:2;stroke-dasharray:7 4}\n.seed{stroke:#1e3a6e;stroke-width:5}\n"
    ++ bytes "</style>\n<rect class=\"ground\" width=\"100%\" height=\"100%\"/>\n"

-- the tag that opens a drawing of so many pixels, the style, and the energy above the bays
abbrev pub head : (width height : ℕ) → Float → List ℕ
head width height energy =
    filled width height (bytes "<svg xmlns=\"http://www.w3.org/2000/svg\" width=\"$\" height=\"@\" viewBox=\"0 0 $ @\">\n") ++ style
    ++ bytes "<text class=\"energy\" x=\"24\" y=\"40\">Energy " ++ energy_text energy ++ bytes " kcal/mol</text>\n"

-- what the marks mean, from so many pixels down, and the end
abbrev pub foot : (top : ℕ) → List ℕ
foot top =
    filled 26 top (bytes "<g transform=\"translate($,@)\">\n")
    ++ bytes "<rect class=\"seed\" width=\"20\" height=\"20\"/><text class=\"key\" x=\"30\" y=\"15\">seed</text>\n"
    ++ bytes "<rect class=\"restricted\" x=\"86\" width=\"20\" height=\"20\"/><text class=\"key\" x=\"116\" y=\"15\">restricted</text>\n</g>\n</svg>\n"
