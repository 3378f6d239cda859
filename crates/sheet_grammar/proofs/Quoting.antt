-- Quotes and line endings change nothing: sheets with the same contents have the same lists and read the same. Assumes nothing.
use Prim.Native.Nat.{ℕ}
use mathlib.Core.Path.{◌≡◌, refl, sym, ◌∙◌, ap, ap₂}
use mathlib.Core.List.{List, [], ◌∷◌, ◌++◌, map}
use lib.ListN.{length}
use Rattle.units.specs.Refusals.{Verdict, if_passes, answer}
use Rattle.sheet_number_lists.specs.NumberLists.{list_in}
use Rattle.sheet_cells.specs.Cells.{all_tiles, starts, front}
use Rattle.sheet.specs.Read.{sheet_lists, read_verdict, read_answer, offsets_after, tiles_after}
use Rattle.sheet_grammar.specs.Grammar.{RecordText, last, comma, SheetText, none, line, open_ended}
use Rattle.sheet_grammar.proofs.OneField.{cell_read}
use Rattle.sheet_grammar.proofs.Accepted.{complete}

map_append : (cs ds : List (List ℕ)) → map list_in (cs ++ ds) ≡ map list_in cs ++ map list_in ds
map_append [] ds = refl
map_append (c ∷ cs) ds = ap (λ (l : List (List ℕ)). list_in c ∷ l) (map_append cs ds)

-- the lists of a sheet are what its contents read as
record-lists : {k : ℕ} {t : List ℕ} {cs ls : List (List ℕ)} → RecordText k t cs ls → map list_in cs ≡ ls
record-lists (last f) = ap (λ (l : List ℕ). l ∷ []) (cell_read f).1
record-lists (comma f r) = ap₂ (λ (l : List ℕ) (ls : List (List ℕ)). l ∷ ls) (cell_read f).1 (record-lists r)

pub lists_of_contents : {columns rows : ℕ} {t : List ℕ} {cs ls : List (List ℕ)} → SheetText columns rows t cs ls → map list_in cs ≡ ls
lists_of_contents none = refl
lists_of_contents (line {cs = cs} {ds = ds} r e s) = map_append cs ds ∙ ap₂ (λ (a b : List (List ℕ)). a ++ b) (record-lists r) (lists_of_contents s)
lists_of_contents (open_ended r) = record-lists r

module _ {columns rows : ℕ} {s t : List ℕ} {cs ls ms : List (List ℕ)} (p : SheetText columns rows s cs ls) (q : SheetText columns rows t cs ms) where
  -- two sheets with the same contents, which differ in quotes and line endings alone, have the same lists
  pub same_lists : ls ≡ ms
  same_lists = sym (lists_of_contents p) ∙ lists_of_contents q

  -- and are read the same
  pub read_the_same : sheet_lists rows columns s ≡ sheet_lists rows columns t
  read_the_same = (complete p).lists ∙ same_lists ∙ sym (complete q).lists

  -- so the call answers the same of both, and leaves the same
  module _ (o x : List ℕ) where
    pub same_verdict : read_verdict rows columns s o x ≡ read_verdict rows columns t o x
    same_verdict = rw ((complete p).no_fault 1, (complete q).no_fault 1, read_the_same)

    pub same_answer : read_answer rows columns s o x ≡ read_answer rows columns t o x
    same_answer = ap₂ (λ (v : Verdict) (ks : List (List ℕ)). answer v (length (all_tiles ks))) same_verdict read_the_same

    pub same_offsets_after : offsets_after rows columns s o x ≡ offsets_after rows columns t o x
    same_offsets_after = ap₂ (λ (v : Verdict) (ks : List (List ℕ)). if_passes v (starts 0 ks) o) same_verdict read_the_same

    pub same_tiles_after : tiles_after rows columns s o x ≡ tiles_after rows columns t o x
    same_tiles_after = ap₂ (λ (v : Verdict) (ks : List (List ℕ)). if_passes v (front (all_tiles ks) x) x) same_verdict read_the_same
