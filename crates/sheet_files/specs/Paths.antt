-- The path of a file in a folder. Assumes nothing.
use Rattle.std.specs.Prelude.{ℕ, List, ◌∷◌, ◌++◌}

abbrev pub path_of : (folder name : List ℕ) → List ℕ
path_of folder name = folder ++ 47 ∷ name
