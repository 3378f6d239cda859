-- A sheet of two rows and three columns as it is written, computed. Assumes nothing.
use mathlib.Core.List.{[], ◌∷◌}
use mathlib.Core.Path.{◌≡◌, refl}
use Rattle.text_put.specs.Puts.{decimal, number_text}
use Rattle.bay_lists.specs.Lists.{lists}
use Rattle.sheet_text.specs.Written.{gap, spaced, separator, row_text, sheet_text}

-- the lists 1 / 2 0 / none / none / 3 3 / 10 are `1,2 0,` and `,3 3,10`, each with CR LF
two_rows : sheet_text (lists (0 ∷ 1 ∷ 3 ∷ 3 ∷ 3 ∷ 5 ∷ 6 ∷ []) (1 ∷ 2 ∷ 0 ∷ 3 ∷ 3 ∷ 10 ∷ [])) 3 0 2
    ≡ 49 ∷ 44 ∷ 50 ∷ 32 ∷ 48 ∷ 44 ∷ 13 ∷ 10 ∷ 44 ∷ 51 ∷ 32 ∷ 51 ∷ 44 ∷ 49 ∷ 48 ∷ 13 ∷ 10 ∷ []
unfolding decimal number_text gap spaced separator row_text sheet_text
two_rows = refl
