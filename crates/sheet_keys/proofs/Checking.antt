-- Laws of the test of keys: what is found of one record's fields, and the turns of the loop over records. Assumes nothing.
use Rattle.std.specs.Prelude.{Some, None, Ok, Err}
use Prim.Native.Nat.{ℕ, suc, ◌+◌, ◌-◌, ◌≤◌, ◌<◌}
use mathlib.Core.Bool.{Bool, cond}
use mathlib.Core.List.{List}
use mathlib.Core.Path.{◌≡◌, refl, sym, ◌∙◌}
use native.Mathlib.Nat.{sub-zero}
use native.Mathlib.Omega.{arith}
use lib.Dec.{eqb}
use lib.ListN.{length, take, drop}
use Rattle.sheet_fields.specs.Answers.{places}
use Rattle.sheet_fields.specs.Fields.{content, field_at}
use Rattle.sheet_fields.specs.declared.Field.{Field}
use Rattle.sheet_fields.specs.Runs.{contents, past, bytes_in}
use Rattle.sheet_fields.proofs.Bounds.{raw_at}
use Rattle.sheet_fields.proofs.Quotes.{content_blank}
use Rattle.sheet_fields.proofs.Runs.{past_at}
use Rattle.sheet_keys.specs.SheetKeys.{is_blank, fits, key_fault, told, keys_from, keys_fault}

-- ---- one record

-- a field is blank where no bytes stand between its places
pub blank_is : (text : List ℕ) (at : ℕ) (f : Field) → f ≡ places (field_at text at) → eqb (length (take (f.to - f.from) (drop f.from text))) 0 ≡ is_blank (content (drop at text))
unfolding is_blank
blank_is text at f e = rw (content_blank (drop at text), e, raw_at text at) refl

module _ (text : List ℕ) (at : ℕ) where
  abbrev here : List ℕ
  here = drop at text

  -- the record's fault, from what is found of its name, its sequence and its numbers
  pub fault_is : (sequence first second : ℕ) → sequence ≡ at + bytes_in 4 here → first ≡ at + bytes_in 2 here → second ≡ at + bytes_in 3 here
      → (nameless numbers first_fits second_fits : Bool) → nameless ≡ is_blank (content here) → numbers ≡ is_blank (content (drop sequence text))
      → first_fits ≡ fits numbers (content (drop first text)) → second_fits ≡ fits numbers (content (drop second text))
      → cond nameless (Some 1) (cond first_fits (cond second_fits None (Some 4)) (Some 3)) ≡ key_fault (contents 5 here)
  unfolding key_fault contents past
  fault_is sequence first second e f g nameless numbers first_fits second_fits p q r s = rw (s, r, q, p, e, f, g, past_at 4 text at, past_at 2 text at, past_at 3 text at)

-- ---- all records

-- the first i records are keys: the fault of those that are left is the table's
pub record InKeys (records : ℕ) (text : List ℕ) (next i : ℕ) : Type 0 where
  pub within : i ≤ records
  pub left : keys_fault records text ≡ keys_from (i + 1) (records - i) (drop next text)

pub keys_start : (records : ℕ) (text : List ℕ) → InKeys records text 0 0
keys_start records text = record { within = omega arith; left = rw (sub-zero records) refl }

module _ (records : ℕ) (text : List ℕ) (next i : ℕ) (s : InKeys records text next i) where
  pub keys_end : records ≤ i → Ok tt ≡ keys_fault records text
  unfolding keys_from
  keys_end k = let none : records - i ≡ 0 = omega arith in sym (s.left ∙ rw none)

  module _ (more : i < records) where
    step : keys_fault records text ≡ told (i + 1) (key_fault (contents 5 (drop next text))) (keys_from (i + 1 + 1) (records - (i + 1)) (past 5 (drop next text)))
    unfolding keys_from
    step = let one_more : records - i ≡ suc (records - (i + 1)) = omega arith in s.left ∙ rw one_more

    pub keys_stop : (number : ℕ) → Some number ≡ key_fault (contents 5 (drop next text)) → Err (record { line = i + 1; field = number }) ≡ keys_fault records text
    keys_stop number e = sym (step ∙ rw (← e))

    pub keys_go_on : None ≡ key_fault (contents 5 (drop next text)) → (after : ℕ) → after ≡ next + bytes_in 5 (drop next text) → InKeys records text after (i + 1)
    keys_go_on none after f =
        record {
          within = omega arith;
          left = step ∙ rw (← none, f, past_at 5 text next);
        }
