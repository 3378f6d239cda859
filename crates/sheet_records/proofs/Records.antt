-- Laws of the test of one record: the turns of its loop. Assumes nothing.
use Prim.Native.Nat.{ℕ, ◌+◌, ◌-◌, ◌<◌, ◌≤◌}
use mathlib.Core.Bool.{true, false, cond}
use mathlib.Core.List.{List}
use mathlib.Core.Path.{◌≡◌, refl, sym, ap}
use native.Mathlib.Omega.{arith}
use borrow.Author.Tests.{ne_eqb}
use lib.Dec.{eqb, ltb}
use lib.ListN.{drop}
use Rattle.std.specs.Prelude.{Some, None, Ok, Err}
use Rattle.sheet_fields.specs.Fields.{field_at}
use Rattle.sheet_fields.specs.Answers.{places, field_answer}
use Rattle.sheet_fields.specs.declared.Field.{Field}
use Rattle.sheet_fields.specs.Runs.{is_sound, record_fault}
use Rattle.sheet_fields.proofs.Answers.{answer_sound, answer_unsound}
use Rattle.sheet_fields.proofs.Faults.{InRecord, record-ends as ends, record-stops as stops, record-goes-on as goes_on}
use Rattle.sheet_records.specs.Tables.{place, record_at}

faulty_at : (line width : ℕ) (text : List ℕ) (at n : ℕ) → record_fault is_sound 1 width (drop at text) ≡ n + 1 → Err (place line (n + 1)) ≡ record_at line width text at
faulty_at line width text at n e = rw (e, ne_eqb (n + 1) 0 (λ (z : n + 1 ≡ 0). omega arith))

module _ (line width : ℕ) (text : List ℕ) (at next i : ℕ) (s : InRecord is_sound width text at next i) where
  pub record-ends : width ≤ i → Ok next ≡ record_at line width text at
  record-ends k = let e = ends is_sound width text at next i s k in rw (e.0, e.1)

  module _ (more : i < width) where
    pub record-breaks : None ≡ field_answer (field_at text next) → Err (place line (i + 1)) ≡ record_at line width text at
    unfolding is_sound
    record-breaks k =
        let broken : false ≡ is_sound (drop next text) = sym (answer_unsound (field_at text next) k) in
        faulty_at line width text at i
        (stops is_sound width text at next i s more false (field_at text next).more (field_at text next).next broken refl refl (i + 1) refl (λ (z : i + 1 ≡ 0). omega arith))

    module _ (d : Field) (k : Some d ≡ field_answer (field_at text next)) where
      abbrev left : ℕ
      left = width - (i + 1)

      found : d ≡ places (field_at text next)
      found = (answer_sound (field_at text next) d k).1

      sound : true ≡ is_sound (drop next text)
      unfolding is_sound
      sound = sym (answer_sound (field_at text next) d k).0

      pub record-stops : false ≡ cond d.more (ltb 0 left) (eqb left 0) → Err (place line (i + 1 + 1)) ≡ record_at line width text at
      record-stops bad =
          faulty_at line width text at (i + 1)
          (stops is_sound width text at next i s more true d.more d.next sound (ap (λ (g : Field). g.more) found) (ap (λ (g : Field). g.next) found) (i + 1 + 1) (rw (← bad) refl) (λ (z : i + 1 + 1 ≡ 0). omega arith))

      pub record-goes-on : true ≡ cond d.more (ltb 0 left) (eqb left 0) → InRecord is_sound width text at d.next (i + 1)
      record-goes-on good =
          goes_on is_sound width text at next i s more true d.more d.next sound (ap (λ (g : Field). g.more) found) (ap (λ (g : Field). g.next) found) 0 (rw (← good) refl) refl
