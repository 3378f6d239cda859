-- Laws of the names of two sheets: laid one after the other, counted, and read from the fronts of the tables. Assumes nothing.
use Prim.Native.Nat.{ℕ, ◌+◌, ◌-◌, ◌*◌, ◌≤◌, ◌<◌}
use mathlib.Core.List.{List, [], ◌∷◌, ◌++◌, map, flatten}
use mathlib.Core.Path.{◌≡◌, refl, ap, ◌∙◌}
use native.Mathlib.Nat.{sub-zero}
use native.Mathlib.Omega.{arith}
use lib.ListN.{length, take, set, length-append, length-set}
use Rattle.std.specs.Prelude.{Result}
use Rattle.units.specs.declared.refusal.Refusal.{Refusal}
use Rattle.name_glues.specs.Names.{GlueNames, glue_names}
use Rattle.sheet_records.specs.Tables.{columns}
use Rattle.sheet_names.specs.Appended.{flag_of, ends, Appended}
use Rattle.sheet_names.specs.FrontFilled.{no_entries, FrontFilled}
use Rattle.sheet_names.specs.declared.Laid.{Laid}
use Rattle.sheet_names.proofs.Appending.{then_append, appended_offsets}
use Rattle.sheet_names.proofs.Filling.{length_columns}
use Rattle.sheet_names.proofs.Fronts.{front_text, front_offsets, front_present}
use Rattle.sheet_glues.specs.SheetGlues.{sheet_glues, bytes_laid, laid_names, Registers}

-- how many names there are
pub length_glues : (rows cols strands : ℕ) (strand_sheet scaffold_sheet : List ℕ) → length (sheet_glues rows cols strands strand_sheet scaffold_sheet) ≡ (strands - 1) * 5 + rows * cols
unfolding sheet_glues
length_glues rows cols strands strand_sheet scaffold_sheet =
    let own = length_columns (strands - 1) 7 2 5 strand_sheet in
    let bays = length_columns rows cols 0 cols scaffold_sheet in
    omega (arith, length-append (columns (strands - 1) 7 2 5 strand_sheet) (columns rows cols 0 cols scaffold_sheet))

-- the scaffold's names are laid behind the strands'
pub glues_laid : (rows cols strands : ℕ) (strand_sheet scaffold_sheet : List ℕ) {text offsets present : List ℕ} {first : Laid} {text' offsets' present' : List ℕ} {stop : Laid} {text'' offsets'' present'' : List ℕ}
    → Appended text offsets present (no_entries 0) (columns (strands - 1) 7 2 5 strand_sheet) first text' offsets' present'
    → Appended text' offsets' present' first (columns rows cols 0 cols scaffold_sheet) stop text'' offsets'' present''
    → Appended text offsets present (no_entries 0) (sheet_glues rows cols strands strand_sheet scaffold_sheet) stop text'' offsets'' present''
unfolding sheet_glues
glues_laid rows cols strands strand_sheet scaffold_sheet a b = then_append a (omega arith) b

-- ---- the fronts of the tables

first_offset : (offsets : List ℕ) → 0 < length offsets → take 1 (set offsets 0 0) ≡ 0 ∷ []
first_offset [] h = absurd (omega arith)
first_offset (x ∷ xs) h = refl

module _ {text : List ℕ} (offsets : List ℕ) {present : List ℕ} {entries : List (List ℕ)} {stop : Laid} {text' offsets' present' : List ℕ}
    (a : Appended text (set offsets 0 0) present (no_entries 0) entries stop text' offsets' present') where
  -- where the entries end is known from them
  all_laid : FrontFilled text offsets present 0 entries (bytes_laid (length text) entries) text' offsets' present'
  all_laid =
      record {
        counted = omega arith;
        laid = record { place = omega arith; slice = a.laid.slice };
        ended = a.ended;
        flagged = a.flagged;
      }

  fronts_laid : length entries < length offsets → length entries ≤ length present
      → glue_names (take stop.bytes text') (take (stop.entries + 1) offsets') (take stop.entries present') ≡ laid_names (length text) entries
  unfolding laid_names
  fronts_laid h k =
      let l = length-set offsets 0 0 in
      let first = first_offset offsets (omega arith) in
      let t : take stop.bytes text' ≡ take (length text) (flatten entries) = front_text a (omega arith) ∙ ap (λ (n : ℕ). take n (flatten entries)) (sub-zero (length text)) in
      let o : take (stop.entries + 1) offsets' ≡ 0 ∷ ends (length text) 0 entries = front_offsets a (omega arith) ∙ ap (λ (l : List ℕ). l ++ ends (length text) 0 entries) first in
      let p : take stop.entries present' ≡ map flag_of entries = front_present a (omega arith) in
      rw (t, o, p)

-- the same of the sheets' names, by their count
module _ (rows cols strands : ℕ) (strand_sheet scaffold_sheet : List ℕ) {text : List ℕ} (offsets : List ℕ) {present : List ℕ} {stop : Laid} {text' offsets' present' : List ℕ}
    (a : Appended text (set offsets 0 0) present (no_entries 0) (sheet_glues rows cols strands strand_sheet scaffold_sheet) stop text' offsets' present') where
  pub glues_all : FrontFilled text offsets present 0 (sheet_glues rows cols strands strand_sheet scaffold_sheet) (bytes_laid (length text) (sheet_glues rows cols strands strand_sheet scaffold_sheet)) text' offsets' present'
  glues_all = all_laid offsets a

  pub glues_inside : (strands - 1) * 5 + rows * cols < length offsets → stop.entries < length offsets'
  glues_inside h =
      let k = a.counted in
      let n = length_glues rows cols strands strand_sheet scaffold_sheet in
      let l = length-set offsets 0 0 in
      omega (arith, appended_offsets a)

  pub glues_fronts : (strands - 1) * 5 + rows * cols < length offsets → (strands - 1) * 5 + rows * cols ≤ length present
      → glue_names (take stop.bytes text') (take (stop.entries + 1) offsets') (take stop.entries present') ≡ laid_names (length text) (sheet_glues rows cols strands strand_sheet scaffold_sheet)
  glues_fronts h k = let n = length_glues rows cols strands strand_sheet scaffold_sheet in fronts_laid offsets a (omega arith) (omega arith)

-- ---- what is registered

-- equal names are registered equally
pub registers_as : {rows cols strands : ℕ} {n m : GlueNames} {result : Result ℕ Refusal} {glues scaffold bases glues' scaffold' bases' : List ℕ}
    → n ≡ m → Registers rows cols strands n result glues scaffold bases glues' scaffold' bases' → Registers rows cols strands m result glues scaffold bases glues' scaffold' bases'
registers_as e r = rw (← e) r
