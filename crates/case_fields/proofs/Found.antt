-- Laws of a field that the line has, and of one that it lacks. Assumes nothing.
use Rattle.std.proofs.Common.{Option, Some, None, IfSome}
use Prim.Native.Nat.{ℕ, ◌^◌, ◌≤◌}
use mathlib.Core.Bool.{Bool, true, false, cond, ◌&&◌}
use mathlib.Core.List.{List}
use mathlib.Core.Path.{◌≡◌, refl}
use lib.ListN.{length}
use lib.Dec.{leb}
use borrow.Author.Tests.{leb-true}
use Rattle.text_digits.specs.Digits.{number_of}
use Rattle.case_text.specs.Fields.{words, any_field, first_field}
use Rattle.case_lists.specs.Lists.{all, values, counted, front}
use Rattle.case_fields.specs.Values.{field_count, field_front, number_or}

-- ---- the number of a field

pub found_number : (key line value : List ℕ) → any_field key (words line) ≡ true → value ≡ first_field key (words line)
    → (otherwise : ℕ) → number_of (2 ^ 64) value ≡ number_or key line otherwise
unfolding number_or
found_number key line value there e otherwise = rw (there, e)

pub missing_number : (key line : List ℕ) → any_field key (words line) ≡ false → (otherwise : ℕ) → Some otherwise ≡ number_or key line otherwise
unfolding number_or
missing_number key line missing otherwise = rw missing

-- ---- the items of a field

module _ {A : Type 0} (ok : List ℕ → Bool) (cut : List ℕ → List (List ℕ)) (worth : List ℕ → A) (key line : List ℕ) (old : List A) where
  -- what the readers of a value answer and leave, of the field's value
  pub as_field : {value : List ℕ} {count : Option ℕ} {new : List A} → any_field key (words line) ≡ true → value ≡ first_field key (words line)
      → (count ≡ counted ok (cut value) (length old)) × (new ≡ front (values ok worth (cut value)) old)
      → (count ≡ field_count ok cut key line (length old)) × (new ≡ field_front ok worth cut key line old)
  unfolding field_count field_front
  as_field there e r = (rw (there, ← e) r.0, rw (there, ← e) r.1)

  -- of a field that the line lacks
  pub no_field : any_field key (words line) ≡ false → (None ≡ field_count ok cut key line (length old)) × (old ≡ field_front ok worth cut key line old)
  unfolding field_count field_front
  no_field missing = (rw missing, rw missing)

-- as many items are counted as have room
pub counted_within : (ok : List ℕ → Bool) (ws : List (List ℕ)) (room : ℕ) → IfSome (counted ok ws room) (λ n. n ≤ room)
unfolding counted
counted_within ok ws room = go (all ok ws) (leb (length ws) room) refl
  where
    go : (a b : Bool) → leb (length ws) room ≡ b → IfSome (cond (a && b) (Some (length ws)) None) (λ n. n ≤ room)
    go true true e = leb-true (length ws) room e
    go true false e = tt
    go false b e = tt
