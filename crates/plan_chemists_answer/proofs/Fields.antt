-- From the lists of a sheet that was read, and a legal layout on them, to what the chemist's fields mean. Assumes nothing.
use Prim.Native.Nat.{ℕ, ◌*◌, ◌<◌}
use mathlib.Core.Path.{◌≡◌, refl, sym, ◌∙◌, ap, subst}
use mathlib.Core.Bool.{Bool, true, false, ◌&&◌, ◌||◌, true≢false}
use mathlib.Core.List.{List, [], ◌∷◌}
use lib.Dec.{eqb}
use lib.ListN.{get_or}
use borrow.Author.Tests.{eqb-true}
use Rattle.units.proofs.Tests.{both}
use Rattle.units.specs.Refusals.{passes}
use Rattle.bay_system.specs.System.{System}
use Rattle.bay_lists.specs.Lists.{Constraints, absent, names, list_allows, list_of}
use Rattle.bay_legal_at.specs.Legal.{is_permitted, is_legal}
use Rattle.bay_legal_at.specs.Layouts.{LegalLayout}
use Rattle.sheet_number_lists.specs.NumberLists.{list_in}
use Rattle.sheet_fields.specs.Runs.{contents}
use Rattle.sheet.specs.Read.{sheet_lists, read_verdict}
use Rattle.sheet_grammar.specs.Contents.{sheet_constraints, bay_content}
use Rattle.sheet_grammar.proofs.Calls.{read_is_sheet}
use Rattle.sheet_grammar.proofs.Contents.{0_reads_as_0, nothing_reads_as_empty}
use Rattle.sheet_grammar.proofs.FromSheetToSet.{list_of_field}
use Rattle.plan_chemists_answer.specs.ChemistsAnswer.{ChemistsAnswer}

-- the list 0 names 0 alone
only_0 : (strand : ℕ) → list_allows (0 ∷ []) strand ≡ true → strand ≡ 0
unfolding names
only_0 strand e = go (eqb strand 0) refl e
  where
    go : (b : Bool) → eqb strand 0 ≡ b → (b || false) ≡ true → strand ≡ 0
    go true z f = eqb-true strand 0 z
    go false z f = absurd (true≢false (sym f))

module _ (s : System) (sheet o t : List ℕ) (read : read_verdict s.sizes.rows s.sizes.cols sheet o t ≡ passes) where
  abbrev rows : ℕ
  rows = s.sizes.rows

  abbrev columns : ℕ
  columns = s.sizes.cols

  abbrev given : Constraints
  given = sheet_constraints rows columns sheet

  -- of a bay by its own strands and its list
  abbrev own : (bay strand : ℕ) → Bool
  own bay strand = is_permitted s bay strand

  -- the list of a bay with the field `0`, and of one without content
  zero_list : (bay : ℕ) → bay < rows * columns → bay_content rows columns sheet bay ≡ 48 ∷ [] → list_of given bay ≡ 0 ∷ []
  zero_list bay inside e = list_of_field rows columns sheet bay inside ∙ ap list_in e ∙ 0_reads_as_0.1

  no_list : (bay : ℕ) → bay < rows * columns → bay_content rows columns sheet bay ≡ [] → list_of given bay ≡ []
  no_list bay inside e = list_of_field rows columns sheet bay inside ∙ ap list_in e ∙ nothing_reads_as_empty.1

  as_without : (bay : ℕ) → bay < rows * columns → bay_content rows columns sheet bay ≡ [] → (strand : ℕ) → is_legal s given bay strand ≡ is_legal s absent bay strand
  as_without bay inside e strand = ap (λ (l : List ℕ). own bay strand && list_allows l strand) (no_list bay inside e)

  module _ (layout : List ℕ) (legal : LegalLayout s given layout) where
    stays_empty : (bay : ℕ) → bay < rows * columns → bay_content rows columns sheet bay ≡ 48 ∷ [] → get_or layout bay 0 ≡ 0
    stays_empty bay inside e =
        let strand = get_or layout bay 0 in
        let allowed = (both (own bay strand) (list_allows (list_of given bay) strand) (legal.each bay inside)).1 in
        only_0 strand (subst (λ (l : List ℕ). list_allows l strand ≡ true) (zero_list bay inside e) allowed)

    pub by_the_fields : ChemistsAnswer s sheet given layout
    by_the_fields =
        record {
          contents = contents (rows * columns) sheet;
          lists = sheet_lists rows columns sheet;
          is_sheet = read_is_sheet rows columns sheet o t read;
          legal = legal;
          keeps_it_empty = stays_empty;
          restricts_nothing = as_without;
          is_one_of_them = λ bay inside e. sym (as_without bay inside e (get_or layout bay 0)) ∙ legal.each bay inside;
        }
