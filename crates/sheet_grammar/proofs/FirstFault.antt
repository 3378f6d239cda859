-- The place that a refusal of a sheet names is the first at which a field is bad, missing or surplus in the grammar's words, and the other way
-- round. Assumes nothing.
use Prim.Native.Nat.{ℕ, suc, ◌+◌, ◌-◌, ◌*◌, ◌≤◌}
use mathlib.Core.Path.{◌≡◌, refl, sym, ◌∙◌, ap, subst, subst₂}
use mathlib.Core.Bool.{Bool, true, false, not, ◌&&◌}
use mathlib.Core.List.{List, ◌++◌}
use native.Mathlib.Omega.{arith}
use lib.Dec.{eqb, ltb, leb}
use lib.ListN.{length}
use borrow.Author.Tests.{ltb-true, leb-true, lt-ltb}
use Rattle.units.proofs.Tests.{both}
use Rattle.units.specs.Limits.{most_side, from_one_to}
use Rattle.std.specs.Prelude.{Result, Err}
use Rattle.units.specs.Refusals.{refuses, refuse_if, ◌▷◌, answer}
use Rattle.units.specs.declared.refusal.Refusal.{Refusal}
use Rattle.units.specs.declared.refusal.Refusal.TheVariants.{Size, Shape, NoRoom, Field}
use Rattle.sheet_cells.specs.Cells.{place, sheet_fault, sheet_verdict}
use Rattle.sheet_fields.specs.declared.Place.{Place}
use Rattle.sheet.specs.Read.{tile_count, read_answer}
use Rattle.sheet_grammar.specs.Grammar.{SheetText}
use Rattle.sheet_grammar.specs.FirstFault.{WrongSheet, in_record, missing_record, surplus_record, FirstFault}
use Rattle.sheet_grammar.proofs.Accepted.{complete}
use Rattle.sheet_grammar.proofs.Beginnings.{right_before}
use Rattle.sheet_grammar.proofs.Faults.{place_told, SheetWrong, sheet_wrong}

-- a place at which a text is wrong first is told: there is one at most, and no sheet of the grid goes on so
module _ {columns rows : ℕ} {text : List ℕ} where
  pub told_at_first : {l number : ℕ} → FirstFault columns rows text l number → sheet_fault columns 1 rows text ≡ place l number
  told_at_first f = ap (sheet_fault columns 1 rows) f.all ∙ place_told f.wrong_here

  pub one_place : {l m number other : ℕ} → FirstFault columns rows text l number → FirstFault columns rows text m other → (l ≡ m) × (number ≡ other)
  one_place f g =
      let same = sym (told_at_first f) ∙ told_at_first g in
      (ap (λ (p : Place). p.line) same, ap (λ (p : Place). p.field) same)

some_line : {columns rows l number : ℕ} {before rest : List ℕ} → WrongSheet columns rows before rest l number → 1 ≤ l
some_line (in_record ls h bytes w) = omega arith
some_line (missing_record s h) = omega arith
some_line (surplus_record ls) = omega arith

pub refused_at_first : {columns rows : ℕ} {text : List ℕ} {l number : ℕ} → FirstFault columns rows text l number → sheet_verdict rows columns text ≡ refuses (Field l number)
refused_at_first {l = l} f =
    let from_1 = some_line f.wrong_here in
    rw (told_at_first f, lt-ltb 0 l (omega arith))

-- the other way round: the place that a refusal names is the first that is wrong
module _ (columns rows : ℕ) (text : List ℕ) (some : 1 ≤ columns) where
  found_first : SheetWrong columns rows 1 text → FirstFault columns rows text (sheet_fault columns 1 rows text).line (sheet_fault columns 1 rows text).field
  found_first w = subst (λ (p : Place). FirstFault columns rows text p.line p.field) (sym at) here
    where
      first : 1 + w.n ≡ suc w.n
      first = omega arith

      at : sheet_fault columns 1 rows text ≡ place (suc w.n) w.number
      at = w.told ∙ ap (λ (n : ℕ). place n w.number) first

      here : FirstFault columns rows text (suc w.n) w.number
      here = record { before = w.before; rest = w.rest; all = w.all; right_before = right_before some w.wrong; wrong_here = w.wrong }

  first_found : 1 ≤ (sheet_fault columns 1 rows text).line → FirstFault columns rows text (sheet_fault columns 1 rows text).line (sheet_fault columns 1 rows text).field
  first_found h =
      let up : suc (columns - 1) ≡ columns = omega arith in
      found_first (subst (λ (n : ℕ). SheetWrong n rows 1 text) up (sheet_wrong (columns - 1) rows 1 text (subst (λ (n : ℕ). 1 ≤ (sheet_fault n 1 rows text).line) (sym up) h)))

  pub refused_is_first : (l number : ℕ) → sheet_verdict rows columns text ≡ refuses (Field l number) → FirstFault columns rows text l number
  refused_is_first l number e = go (ltb 0 (sheet_fault columns 1 rows text).line) refl e
    where
      go : (b : Bool) → ltb 0 (sheet_fault columns 1 rows text).line ≡ b
          → refuse_if b (Field (sheet_fault columns 1 rows text).line (sheet_fault columns 1 rows text).field) ≡ refuses (Field l number) → FirstFault columns rows text l number
      go true f r =
          let same_line : (sheet_fault columns 1 rows text).line ≡ l = cc in
          let same_field : (sheet_fault columns 1 rows text).field ≡ number = cc in
          subst₂ (FirstFault columns rows text) same_line same_field (first_found (ltb-true 0 (sheet_fault columns 1 rows text).line f))
      go false f r = absurd cc

-- what is wrong at a place goes on with no sheet of the grid
pub no_sheet : {columns rows l number : ℕ} {before rest : List ℕ} {cs ls : List (List ℕ)} → WrongSheet columns rows before rest l number → SheetText columns rows (before ++ rest) cs ls → ⊥
no_sheet w s =
    let told = ap (λ (p : Place). p.line) (sym ((complete s).no_fault 1) ∙ place_told w) in
    let from_1 = some_line w in
    omega arith

-- ---- the same of the call that reads

module _ (rows columns : ℕ) (text offsets tiles : List ℕ) (l number : ℕ) where
  -- the call answers the refusal 19 with this line and this field
  abbrev pub Answers19 : Type 0
  Answers19 = read_answer rows columns text offsets tiles ≡ Err (Field l number)

  -- then they are the first place at which the text is wrong
  pub answer_is_first : Answers19 → FirstFault columns rows text l number
  answer_is_first e =
      go (from_one_to most_side rows && from_one_to most_side columns) refl (ltb 0 (sheet_fault columns 1 rows text).line) refl (not (eqb (length offsets) (rows * columns + 1)))
      (ltb (length tiles) (tile_count rows columns text)) e
    where
      go : (p : Bool) → (from_one_to most_side rows && from_one_to most_side columns) ≡ p → (q : Bool) → ltb 0 (sheet_fault columns 1 rows text).line ≡ q → (a b : Bool)
          → ◌≡◌ {A = Result ℕ Refusal}
          (answer
          (refuse_if (not p) Size
          ▷ refuse_if q (Field (sheet_fault columns 1 rows text).line (sheet_fault columns 1 rows text).field)
          ▷ refuse_if a Shape
          ▷ refuse_if b (NoRoom (tile_count rows columns text))) (tile_count rows columns text))
          (Err (Field l number))
          → FirstFault columns rows text l number
      go false s q f a b e = absurd cc
      go true s true f a b e =
          let some = leb-true 1 columns (both (leb 1 columns) (leb columns most_side) (both (from_one_to most_side rows) (from_one_to most_side columns) s).1).0 in
          let same_line : (sheet_fault columns 1 rows text).line ≡ l = cc in
          let same_field : (sheet_fault columns 1 rows text).field ≡ number = cc in
          subst₂ (FirstFault columns rows text) same_line same_field (first_found columns rows text some (ltb-true 0 (sheet_fault columns 1 rows text).line f))
      go true s false f true b e = absurd cc
      go true s false f false true e = absurd cc
      go true s false f false false e = absurd cc

  -- and over a grid of the right size the call answers so where a place is the first
  pub first_is_answered : (from_one_to most_side rows && from_one_to most_side columns) ≡ true → FirstFault columns rows text l number → Answers19
  first_is_answered sides f = rw (sides, refused_at_first f)
