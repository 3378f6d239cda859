-- From the bytes of a sheet to the sets of its bays: a field `0` keeps its bay empty, a field without content restricts nothing. Assumes nothing.
use Prim.Native.Nat.{ℕ, zero, suc, ◌*◌, ◌≤◌, ◌<◌}
use mathlib.Core.Path.{◌≡◌, refl, sym, ◌∙◌, ap, ap₂}
use mathlib.Core.Bool.{true}
use mathlib.Core.List.{List, [], ◌∷◌, ◌++◌}
use native.Mathlib.Omega.{arith}
use lib.ListN.{length, get_or, take}
use Rattle.units.specs.Refusals.{Verdict, passes, if_passes}
use Rattle.units.proofs.Verdicts.{first_passes}
use Rattle.bay_system.specs.System.{System, bays}
use Rattle.bay_lists.specs.Lists.{Constraints, absent, lists, list_of, offsets_shaped}
use Rattle.std.specs.Prelude.{None}
use Rattle.bay_legal_at.specs.Legal.{seed_of, is_legal, set_at}
use Rattle.bay_legal_at.proofs.ChemistsQuestion.{keep_it_empty, no_restriction}
use Rattle.bay_given.specs.Given.{given_verdict}
use Rattle.bay_given.proofs.Passed.{is_fine}
use Rattle.bay_legal.specs.Sets.{sets_of, empty_verdict, allowed_verdict, sets_after}
use Rattle.bay_legal.proofs.Seven.{set_of_bay}
use Rattle.sheet_fields.specs.Fields.{after}
use Rattle.sheet_number_lists.specs.NumberLists.{is_list, list_in}
use Rattle.sheet_fields.specs.Runs.{contents}
use Rattle.sheet_cells.specs.Cells.{cells}
use Rattle.sheet.specs.Read.{sheet_lists, tile_count, read_verdict, offsets_after, tiles_after}
use Rattle.sheet_grammar.specs.Contents.{sheet_constraints, bay_content}
use Rattle.sheet_grammar.specs.Grammar.{RecordText, last, comma, SheetText, none, line, open_ended}
use Rattle.sheet_grammar.proofs.Contents.{0_reads_as_0, only_0_reads_as_0, nothing_reads_as_empty, only_nothing_reads_as_empty}
use Rattle.sheet_grammar.proofs.OneField.{cell_read}
use Rattle.sheet_grammar.proofs.Accepted.{NoFault, sound}
use Rattle.sheet_grammar.proofs.Calls.{read_offsets, read_tiles}
use Rattle.sheet_grammar.proofs.Offsets.{starts_shaped, list_of_starts}

-- ---- the field of a bay

-- there is a list for each field
pub length_cells : (n : ℕ) (t : List ℕ) → length (cells n t) ≡ n
unfolding cells
length_cells zero t = refl
length_cells (suc n) t = ap suc (length_cells n (after t))

-- the list at a place is what the content there reads as
cell_at : (n : ℕ) (t : List ℕ) (i : ℕ) → i < n → get_or (cells n t) i [] ≡ list_in (get_or (contents n t) i [])
unfolding cells contents
cell_at zero t i h = absurd (omega arith)
cell_at (suc n) t zero h = refl
cell_at (suc n) t (suc i) h = cell_at n (after t) i (omega arith)

-- the offsets that a sheet gives have the shape that the calls on constraints ask, whatever the text is
pub sheet_is_shaped : (rows columns : ℕ) (text : List ℕ) → offsets_shaped (rows * columns) (sheet_constraints rows columns text) ≡ true
sheet_is_shaped rows columns text = rw (length_cells (rows * columns) text) at (starts_shaped (sheet_lists rows columns text))

-- the list of a bay is what its field's content reads as
pub list_of_field : (rows columns : ℕ) (text : List ℕ) (bay : ℕ) → bay < rows * columns
    → list_of (sheet_constraints rows columns text) bay ≡ list_in (bay_content rows columns text bay)
list_of_field rows columns text bay h =
    let long = length_cells (rows * columns) text in
    list_of_starts (sheet_lists rows columns text) bay (omega arith) ∙ cell_at (rows * columns) text bay h

-- ---- each content of a sheet without a fault is a list

AllLists : List (List ℕ) → Type 0
AllLists [] = Unit {0}
AllLists (c ∷ cs) = (is_list c ≡ true) × AllLists cs

lists_append : (cs ds : List (List ℕ)) → AllLists cs → AllLists ds → AllLists (cs ++ ds)
unfolding AllLists
lists_append [] ds p q = q
lists_append (c ∷ cs) ds p q = (p.0, lists_append cs ds p.1 q)

lists_at : (cs : List (List ℕ)) (i : ℕ) → AllLists cs → is_list (get_or cs i []) ≡ true
unfolding AllLists
lists_at [] i p = nothing_reads_as_empty.0
lists_at (c ∷ cs) zero p = p.0
lists_at (c ∷ cs) (suc i) p = lists_at cs i p.1

record-lists : {k : ℕ} {t : List ℕ} {cs ls : List (List ℕ)} → RecordText k t cs ls → AllLists cs
unfolding AllLists
record-lists (last f) = ((cell_read f).0, tt)
record-lists (comma f r) = ((cell_read f).0, record-lists r)

sheet_lists_lem : {columns rows : ℕ} {t : List ℕ} {cs ls : List (List ℕ)} → SheetText columns rows t cs ls → AllLists cs
unfolding AllLists
sheet_lists_lem none = tt
sheet_lists_lem (line {cs = cs} {ds = ds} r e s) = lists_append cs ds (record-lists r) (sheet_lists_lem s)
sheet_lists_lem (open_ended r) = record-lists r

module _ (rows columns : ℕ) (text : List ℕ) (some : 1 ≤ columns) (e : NoFault columns 1 rows text) (bay : ℕ) (h : bay < rows * columns) where
  is_list_holds : is_list (bay_content rows columns text bay) ≡ true
  is_list_holds = lists_at (contents (rows * columns) text) bay (sheet_lists_lem (sound columns 1 rows text some (omega arith) e))

  -- of a sheet without a fault, a bay has the list 0 only where its field's content is the byte `0`
  pub only_field_0 : list_of (sheet_constraints rows columns text) bay ≡ 0 ∷ [] → bay_content rows columns text bay ≡ 48 ∷ []
  only_field_0 l = only_0_reads_as_0 (bay_content rows columns text bay) is_list_holds (sym (list_of_field rows columns text bay h) ∙ l)

  -- and the empty list only where its field has no content
  pub only_field_nothing : list_of (sheet_constraints rows columns text) bay ≡ [] → bay_content rows columns text bay ≡ []
  only_field_nothing l = only_nothing_reads_as_empty (bay_content rows columns text bay) is_list_holds (sym (list_of_field rows columns text bay h) ∙ l)

-- ---- the set of a bay

module _ (s : System) (text : List ℕ) (bay : ℕ) (inside : bay < bays s.sizes) where
  abbrev rows : ℕ
  rows = s.sizes.rows

  abbrev columns : ℕ
  columns = s.sizes.cols

  -- an unseeded bay whose field is `0` has the set {0}, the number 1: it stays empty
  pub field_0_keeps_empty : 1 ≤ s.sizes.strands → seed_of s bay ≡ None → bay_content rows columns text bay ≡ 48 ∷ []
      → set_at s (sheet_constraints rows columns text) bay ≡ 1
  field_0_keeps_empty some unseeded e =
      keep_it_empty s (sheet_constraints rows columns text) bay unseeded some
      (list_of_field rows columns text bay inside ∙ ap list_in e ∙ 0_reads_as_0.1)

  -- a bay whose field has no content has the set that it has without constraints
  pub no_content_restricts_nothing : bay_content rows columns text bay ≡ [] → set_at s (sheet_constraints rows columns text) bay ≡ set_at s absent bay
  no_content_restricts_nothing e =
      no_restriction s (sheet_constraints rows columns text) bay (list_of_field rows columns text bay inside ∙ ap list_in e ∙ nothing_reads_as_empty.1)

  -- ---- from call to call: what the reading call leaves, handed to the call that finds the sets

  module _ (o t : List ℕ) (read : read_verdict rows columns text o t ≡ passes) where
    -- the offsets that it leaves, and as many numbers as it counts
    abbrev left : Constraints
    left = lists (offsets_after rows columns text o t) (take (tile_count rows columns text) (tiles_after rows columns text o t))

    -- they are the constraints that the sheet's lists are
    pub left_is : left ≡ sheet_constraints rows columns text
    left_is =
        ap₂ (λ (offsets numbers : List ℕ). lists offsets numbers) (read_offsets rows columns text o t read) (read_tiles rows columns text o t read)

    -- where both calls pass, the lent slice of sets has 1 at an unseeded bay whose field is `0`
    module _ (sets : List ℕ) (found : allowed_verdict s (length sets) left ≡ passes) where
      set_left : get_or (sets_after s left sets) bay 0 ≡ set_at s left bay
      set_left = ap (λ (v : Verdict). get_or (if_passes v (sets_of s left) sets) bay 0) found ∙ set_of_bay (is_legal s left) (bays s.sizes) bay inside

      some_strand : 1 ≤ s.sizes.strands
      some_strand =
          let given = given_verdict s (length sets) left in
          let empty = empty_verdict rows columns (sets_of s left) in
          (is_fine s (length sets) left (first_passes given empty found)).shape.sizes.some_strands

      pub sheet_keeps_empty : seed_of s bay ≡ None → bay_content rows columns text bay ≡ 48 ∷ [] → get_or (sets_after s left sets) bay 0 ≡ 1
      sheet_keeps_empty unseeded e = set_left ∙ ap (λ (c : Constraints). set_at s c bay) left_is ∙ field_0_keeps_empty some_strand unseeded e

      -- and at a bay whose field has no content the set that the bay has without constraints
      pub sheet_restricts_nothing : bay_content rows columns text bay ≡ [] → get_or (sets_after s left sets) bay 0 ≡ set_at s absent bay
      sheet_restricts_nothing e = set_left ∙ ap (λ (c : Constraints). set_at s c bay) left_is ∙ no_content_restricts_nothing e
