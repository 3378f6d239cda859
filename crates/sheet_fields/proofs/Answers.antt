-- What a field that was answered, or was not, says of the text. Assumes nothing.
use Prim.Native.Nat.{ℕ, ◌+◌}
use mathlib.Core.Bool.{Bool, true, false, cond}
use mathlib.Core.List.{List}
use mathlib.Core.Path.{◌≡◌, refl, sym, ap, ◌∙◌}
use native.Mathlib.Nat.{add-zero}
use lib.ListN.{drop}
use Rattle.std.specs.Prelude.{Some, None, unwrap_or}
use Rattle.sheet_fields.specs.Fields.{EndFound, FieldFound, field_of, bare_field, quoted_field, is_quoted, field, field_at}
use Rattle.sheet_fields.specs.Answers.{places, field_answer}
use Rattle.sheet_fields.specs.declared.Field.{Field}

-- an answer that is there exactly where a test passes
pub some_is : {A : Type 0} (b : Bool) (x y : A) → Some x ≡ cond b (Some y) None → (b ≡ true) × (x ≡ y)
some_is true x y e = (refl, cc)
some_is false x y e = absurd cc

pub none_is : {A : Type 0} (b : Bool) (y : A) → None ≡ cond b (Some y) None → b ≡ false
none_is true y e = absurd cc
none_is false y e = refl

-- a field that was answered is sound, and has these places
pub answer_sound : (f : FieldFound) (d : Field) → Some d ≡ field_answer f → (f.sound ≡ true) × (d ≡ places f)
answer_sound f d e = some_is f.sound d (places f) e

-- where none was, none is sound
pub answer_unsound : (f : FieldFound) → None ≡ field_answer f → f.sound ≡ false
answer_unsound f e = none_is f.sound (places f) e

-- ---- a field that is not sound takes no bytes

abbrev no_field : Field
no_field = record { more = false; from = 0; to = 0; next = 0 }

closed_empty : (from to at : ℕ) (e : EndFound) → (field_of from to at e).sound ≡ false → places (field_of from to at e) ≡ no_field
unfolding field_of
closed_empty from to at e = go e.sound
  where
    go : (s : Bool) → (cond {A = FieldFound} s (record { sound = true; more = e.more; from = from; to = to; next = at + e.width }) (record { sound = false; more = false; from = 0; to = 0; next = 0 })).sound ≡ false
        → places (cond s (record { sound = true; more = e.more; from = from; to = to; next = at + e.width }) (record { sound = false; more = false; from = 0; to = 0; next = 0 })) ≡ no_field
    go true k = absurd cc
    go false k = refl

unsound_empty : (t : List ℕ) → (field t).sound ≡ false → places (field t) ≡ no_field
unfolding field bare_field quoted_field
unsound_empty t = go (is_quoted t)
  where
    go : (q : Bool) → (cond q (quoted_field t) (bare_field t)).sound ≡ false → places (cond q (quoted_field t) (bare_field t)) ≡ no_field
    go true = closed_empty _ _ _ _
    go false = closed_empty _ _ _ _

pub or_empty : (text : List ℕ) (at : ℕ) (d : Field) → d ≡ unwrap_or (field_answer (field_at text at)) (record { more = false; from = at; to = at; next = at })
    → d ≡ places (field_at text at)
or_empty text at d e = go (field (drop at text)).sound refl
  where
    f : FieldFound
    f = field (drop at text)

    go : (s : Bool) → f.sound ≡ s → d ≡ places (field_at text at)
    go true q = e ∙ rw q
    go false q =
        let none : places f ≡ no_field = unsound_empty (drop at text) q in
        let here : at + 0 ≡ at = add-zero at in
        e ∙ (rw q (sym (ap (λ (p : Field). record { more = p.more; from = at + p.from; to = at + p.to; next = at + p.next }) none ∙ rw here)))
