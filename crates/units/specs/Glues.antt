-- The glues of a strand by their sides, in the order north, east, south, west, bottom. Assumes nothing.
use Rattle.std.specs.Prelude.{ℕ, List, [], ◌∷◌, get_or}
use Rattle.units.specs.declared.StrandGlues.{StrandGlues}

abbrev pub strand_glues : (north east south west bottom : ℕ) → StrandGlues
strand_glues north east south west bottom = record { glues = north ∷ east ∷ south ∷ west ∷ bottom ∷ [] }

abbrev pub north_of : StrandGlues → ℕ
north_of strand = get_or strand.glues 0 0

abbrev pub east_of : StrandGlues → ℕ
east_of strand = get_or strand.glues 1 0

abbrev pub south_of : StrandGlues → ℕ
south_of strand = get_or strand.glues 2 0

abbrev pub west_of : StrandGlues → ℕ
west_of strand = get_or strand.glues 3 0

abbrev pub bottom_of : StrandGlues → ℕ
bottom_of strand = get_or strand.glues 4 0

-- as they stand in a table
abbrev pub five_of : StrandGlues → List ℕ
five_of strand = north_of strand ∷ east_of strand ∷ south_of strand ∷ west_of strand ∷ bottom_of strand ∷ []
