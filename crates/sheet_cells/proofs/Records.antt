-- Laws of the test of one record: what a field adds to it, and the turns of its loop. Assumes nothing.
use Prim.Native.Nat.{ℕ, zero, suc, ◌+◌, ◌-◌, ◌≤◌, ◌<◌}
use mathlib.Core.Bool.{Bool, true, false, cond, ◌&&◌}
use mathlib.Core.List.{List}
use mathlib.Core.Path.{◌≡◌, refl, sym, ap, ◌∙◌}
use native.Mathlib.Nat.{sub-zero}
use native.Mathlib.Omega.{arith}
use borrow.Author.Tests.{ne_eqb}
use lib.Dec.{eqb, ltb}
use lib.ListN.{length, take, drop, length-drop, drop_of_length-le}
use Rattle.sheet_fields.specs.Fields.{field, raw, content, after, field_at}
use Rattle.sheet_fields.specs.Runs.{goes_on, record_fault}
use Rattle.sheet_fields.specs.declared.Field.{Field}
use Rattle.units.specs.declared.refusal.Refusal.TheVariants.{Field as field_refusal}
use Rattle.sheet_fields.specs.Answers.{places, field_answer}
use Rattle.sheet_fields.proofs.Answers.{some_is, none_is, answer_sound, answer_unsound}
use Rattle.std.specs.Prelude.{Option, Some, None, Ok, Err}
use Rattle.sheet_fields.proofs.Bounds.{field_at_within, raw_at}
use Rattle.sheet_fields.proofs.Faults.{InRecord, record-starts, record-ends, record-stops, record-goes-on}
use Rattle.sheet_fields.proofs.Passing.{rest_at}
use Rattle.sheet_number_lists.specs.NumberLists.{is_list, list_in}
use Rattle.sheet_number_lists.specs.Counts.{list_count}
use Rattle.sheet_cells.specs.Cells.{is_cell}
use Rattle.sheet_cells.specs.Checks.{count_in, are_cells, cell_at, line_fault, record_at}
use Rattle.sheet_cells.specs.declared.cells.Cell.{Cell}
use Rattle.sheet_cells.proofs.Quotes.{content_list, content_raw, cell_length}
use Rattle.sheet_cells.proofs.Counts.{count_none, count_suc}

-- ---- one field

module _ (text : List ℕ) (at : ℕ) where
  abbrev found : Option Cell
  found = cell_at text at

  -- a field that is not sound is no cell
  pub cell_broken : None ≡ field_answer (field_at text at) → None ≡ cell_at text at
  unfolding is_cell
  cell_broken e = let s : (field (drop at text)).sound ≡ false = answer_unsound (field_at text at) e in rw s

  module _ (f : Field) (e : Some f ≡ field_answer (field_at text at)) where
    sound : (field (drop at text)).sound ≡ true
    sound = (answer_sound (field_at text at) f e).0

    same : f ≡ places (field_at text at)
    same = (answer_sound (field_at text at) f e).1

    raw_is : take (f.to - f.from) (drop f.from text) ≡ raw (drop at text)
    raw_is = rw same (raw_at text at)

    -- nor is a sound one whose bytes are no list
    pub cell_other : None ≡ list_count (take (f.to - f.from) (drop f.from text)) → None ≡ cell_at text at
    unfolding is_cell
    cell_other k =
        let bad : is_list (raw (drop at text)) ≡ false = none_is (is_list (raw (drop at text))) (length (list_in (raw (drop at text)))) (k ∙ ap list_count raw_is) in
        rw (sound, content_list (drop at text), bad)

    pub cell_found : (n : ℕ) → Some n ≡ list_count (take (f.to - f.from) (drop f.from text)) → Some (record { more = f.more; next = f.next; count = n }) ≡ cell_at text at
    unfolding is_cell
    cell_found n k =
        let list = some_is (is_list (raw (drop at text))) n (length (list_in (raw (drop at text)))) (k ∙ ap list_count raw_is) in
        rw (sound, content_list (drop at text), list.0, content_raw (drop at text) list.0, list.1, same)

-- a record without a fault has cells only
pub fault_none : (n left : ℕ) (t : List ℕ) → record_fault is_cell (n + 1) left t ≡ 0 → are_cells left t ≡ true
unfolding are_cells record_fault
fault_none n zero t e = refl
fault_none n (suc left) t e = go (is_cell t) (goes_on left t) e (λ h. fault_none (n + 1) left (after t) h)
  where
    go : (s g : Bool) → cond s (cond g (record_fault is_cell (n + 1 + 1) left (after t)) (n + 1 + 1)) (n + 1) ≡ 0
        → (record_fault is_cell (n + 1 + 1) left (after t) ≡ 0 → are_cells left (after t) ≡ true) → s && are_cells left (after t) ≡ true
    go true true h more = more h
    go true false h more = absurd (omega arith)
    go false g h more = absurd (omega arith)

-- ---- the loop's turns

-- the fields before `next` are the record's first ones, without a fault, and `count` is how many numbers they have
pub record Counting (columns : ℕ) (text : List ℕ) (at next count i : ℕ) : Type 0 where
  pub walked : InRecord is_cell columns text at next i
  pub inside : next ≤ length text
  pub few : count ≤ next
  pub sum : count_in columns (drop at text) ≡ count + count_in (columns - i) (drop next text)

pub missing_record : (line columns : ℕ) (text : List ℕ) (at : ℕ) → length text ≤ at → Err (field_refusal line 1) ≡ record_at line columns text at
unfolding line_fault
missing_record line columns text at h = rw (drop_of_length-le text h)

module _ (line columns : ℕ) (text : List ℕ) (at : ℕ) (h : at < length text) where
  pub counting_starts : Counting columns text at at 0 0
  counting_starts =
      record {
        walked = record-starts is_cell columns text at;
        inside = omega arith;
        few = omega arith;
        sum = rw (sub-zero columns) (omega arith);
      }

  there : line_fault columns (drop at text) ≡ record_fault is_cell 1 columns (drop at text)
  unfolding line_fault
  there = let n : eqb (length (drop at text)) 0 ≡ false = ne_eqb (length (drop at text)) 0 (let l = length-drop at text in omega arith) in rw n

  faulty_at : (n : ℕ) → record_fault is_cell 1 columns (drop at text) ≡ n + 1 → Err (field_refusal line (n + 1)) ≡ record_at line columns text at
  faulty_at n e = rw (there, e, ne_eqb (n + 1) 0 (λ (z : n + 1 ≡ 0). omega arith))

  module _ (next count i : ℕ) (s : Counting columns text at next count i) where
    pub counting_ends : columns ≤ i → Ok (record { next = next; count = count }) ≡ record_at line columns text at
    counting_ends k =
        let none : columns - i ≡ 0 = omega arith in
        let e = record-ends is_cell columns text at next i s.walked k in
        let sum : count_in columns (drop at text) ≡ count = s.sum ∙ rw (none, count_none (drop next text)) (omega arith) in
        rw (there, e.0, e.1, sum)

    module _ (more : i < columns) where
      abbrev here : List ℕ
      here = drop next text

      abbrev left : ℕ
      left = columns - (i + 1)

      pub counting_breaks : None ≡ cell_at text next → Err (field_refusal line (i + 1)) ≡ record_at line columns text at
      counting_breaks k =
          let broken : false ≡ is_cell here = sym (none_is (is_cell here) _ k) in
          faulty_at i
          (record-stops is_cell columns text at next i s.walked more false (field_at text next).more (field_at text next).next broken refl refl (i + 1) refl (λ (z : i + 1 ≡ 0). omega arith))

      module _ (cell : Cell) (k : Some cell ≡ cell_at text next) where
        cell_is : (is_cell here ≡ true) × (cell ≡ record { more = (field here).more; next = next + (field here).next; count = length (list_in (content here)) })
        cell_is = some_is (is_cell here) cell _ k

        is_cell_holds : is_cell here ≡ true
        is_cell_holds = cell_is.0

        more_is : cell.more ≡ (field_at text next).more
        more_is = ap (λ (c : Cell). c.more) cell_is.1

        next_is : cell.next ≡ (field_at text next).next
        next_is = ap (λ (c : Cell). c.next) cell_is.1

        count_is : cell.count ≡ length (list_in (content here))
        count_is = ap (λ (c : Cell). c.count) cell_is.1

        pub counting_stops : false ≡ cond cell.more (ltb 0 left) (eqb left 0) → Err (field_refusal line (i + 1 + 1)) ≡ record_at line columns text at
        counting_stops bad =
            faulty_at (i + 1)
            (record-stops is_cell columns text at next i s.walked more true cell.more cell.next (sym is_cell_holds) more_is next_is (i + 1 + 1) (rw (← bad) refl) (λ (z : i + 1 + 1 ≡ 0). omega arith))

        pub few_more : count + cell.count ≤ cell.next
        few_more =
            let few = s.few in
            let most = cell_length here is_cell_holds in
            omega (arith, count_is, next_is)

        pub inside_more : cell.next ≤ length text
        inside_more = rw next_is (field_at_within text next s.inside).ends

        pub counting_goes_on : true ≡ cond cell.more (ltb 0 left) (eqb left 0) → Counting columns text at cell.next (count + cell.count) (i + 1)
        counting_goes_on good =
            let one_more : columns - i ≡ suc left = omega arith in
            let rest = rest_at text next cell.next next_is in
            record {
              walked = record-goes-on is_cell columns text at next i s.walked more true cell.more cell.next (sym is_cell_holds) more_is next_is 0 (rw (← good) refl) refl;
              inside = inside_more;
              few = few_more;
              sum = s.sum ∙ rw (one_more, count_suc left here, rest, count_is) (omega arith);
            }
