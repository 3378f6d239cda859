-- What a field of the constraint sheet means for the layout, in the chemist's words. Assumes nothing.
use Rattle.std.specs.Prelude.{ℕ, ◌<◌, ◌≡◌, true, List, [], ◌∷◌, get_or}
use Rattle.bay_system.specs.System.{System}
use Rattle.bay_lists.specs.Lists.{Constraints, absent}
use Rattle.bay_legal_at.specs.Legal.{is_legal}
use Rattle.bay_legal_at.specs.Layouts.{LegalLayout}
use Rattle.bay_legal.specs.Sets.{bays}
use Rattle.sheet_grammar.specs.Grammar.{SheetText}

-- Of a system, the bytes of a sheet, the lists that a run was given and the layout that it left.
pub record ChemistsAnswer (s : System) (sheet : List ℕ) (given : Constraints) (layout : List ℕ) : Type 0 where
  -- the sheet is one of the grammar for the system's grid: the contents of its fields, row by row, quotes taken off
  pub contents : List (List ℕ)
  pub lists : List (List ℕ)
  pub is_sheet : SheetText s.sizes.cols s.sizes.rows sheet contents lists
  -- the layout has a strand for each bay, each legal by these lists
  pub legal : LegalLayout s given layout
  -- a bay whose field is `0`, bare or in quotes, has 0 in the layout: it stays empty (with another seed than 0 on it the run refuses, 7)
  pub keeps_it_empty : (bay : ℕ) → bay < bays s.sizes → get_or contents bay [] ≡ 48 ∷ [] → get_or layout bay 0 ≡ 0
  -- where a bay's field has no content, the bay's legal strands are those that it has without constraints
  pub restricts_nothing : (bay : ℕ) → bay < bays s.sizes → get_or contents bay [] ≡ [] → (strand : ℕ) → is_legal s given bay strand ≡ is_legal s absent bay strand
  -- and the layout's strand there is one of them
  pub is_one_of_them : (bay : ℕ) → bay < bays s.sizes → get_or contents bay [] ≡ [] → is_legal s absent bay (get_or layout bay 0) ≡ true
