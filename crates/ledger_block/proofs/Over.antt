-- A stretch of a list written anew: its length, the places before it, and two stretches side by side. Assumes nothing.
use mathlib.Core.Path.{◌≡◌, sym, ap, ap₂, ◌∙◌}
use mathlib.Core.List.{List, [], ◌∷◌, ◌++◌, append_assoc}
use Prim.Native.Nat.{ℕ, suc, ◌+◌, ◌-◌, ◌≤◌, ◌<◌}
use native.Mathlib.Nat.{add-zero}
use native.Mathlib.Omega.{arith}
use lib.ListN.{length, get_or, set, take, drop, length-append, length-drop, take-append-drop}
use lib.Seq.{length-take-le, take_at, set_at, drop-cons, take-append-le, drop-append-le, drop-append-add, drop-drop}
use Rattle.ledger_block.specs.declared.Stretch.{Stretch}
use Rattle.ledger_block.specs.Block.{over, part}

module _ {A : Type 0} (old : List A) (at : ℕ) where
  pub over_none : over old at [] ≡ old
  over_none = rw (add-zero at) (take-append-drop at old)

  module _ (new : List A) where
    pub length_over : at + length new ≤ length old → length (over old at new) ≡ length old
    length_over h =
        omega (
          arith,
          length-append (take at old) (new ++ drop (at + length new) old),
          length-append new (drop (at + length new) old),
          length-take-le at old (omega arith),
          length-drop (at + length new) old,
        )

    -- what is written ends where the rest begins
    front : at + length new ≤ length old → length (take at old ++ new) ≡ at + length new
    front h = omega (arith, length-append (take at old) new, length-take-le at old (omega arith))

    joined : over old at new ≡ (take at old ++ new) ++ drop (at + length new) old
    joined = sym (append_assoc (take at old) new (drop (at + length new) old))

    -- one store behind what is written
    pub over_store : (j : ℕ) (v d : A) → j ≡ at + length new → j < length old → set (over old at new) j v ≡ over old at (new ++ (v ∷ []))
    over_store j v d e h =
        let long : at + length new ≤ length old = omega arith in
        let one : at + length (new ++ (v ∷ [])) ≡ suc j = omega (arith, length-append new (v ∷ [])) in
        ap (λ l. set l j v) (joined ∙ ap (λ i. (take at old ++ new) ++ drop i old) (sym e) ∙ ap (λ l. (take at old ++ new) ++ l) (drop-cons old j d h))
        ∙ set_at (take at old ++ new) (get_or old j d) (drop (suc j) old) v j (front long ∙ sym e)
        ∙ append_assoc (take at old) new (v ∷ drop (suc j) old)
        ∙ ap (λ l. take at old ++ l) (sym (append_assoc new (v ∷ []) (drop (suc j) old)))
        ∙ ap (λ i. take at old ++ ((new ++ (v ∷ [])) ++ drop i old)) (sym one)

    -- a part before it is as it was
    pub part_over : (s : Stretch) → s.from ≤ s.end → s.end ≤ at → at ≤ length old → part s (over old at new) ≡ part s old
    part_over s h b l =
        before (new ++ drop (at + length new) old)
        ∙ sym (before (drop at old))
        ∙ ap (part s) (take-append-drop at old)
      where
        before : (rest : List A) → part s (take at old ++ rest) ≡ take (s.end - s.from) (drop s.from (take at old))
        before rest =
            let long = length-take-le at old l in
            ap (take (s.end - s.from)) (drop-append-le s.from (take at old) rest (omega arith))
            ∙ take-append-le (s.end - s.from) (drop s.from (take at old)) rest (omega (arith, length-drop s.from (take at old)))

    -- a second stretch right behind the first
    pub over_over : (more : List A) (j : ℕ) → j ≡ at + length new → j + length more ≤ length old → over (over old at new) j more ≡ over old at (new ++ more)
    over_over more j e h =
        let long : at + length new ≤ length old = omega arith in
        let f = take at old ++ new in
        let lf : length f ≡ j = front long ∙ sym e in
        let ends : at + length (new ++ more) ≡ j + length more = omega (arith, length-append new more) in
        let whole : over old at new ≡ f ++ drop j old = joined ∙ ap (λ i. f ++ drop i old) (sym e) in
        let rest : drop (j + length more) (f ++ drop j old) ≡ drop (j + length more) old =
        ap (λ i. drop (i + length more) (f ++ drop j old)) (sym lf) ∙ drop-append-add f (drop j old) (length more) ∙ drop-drop (length more) j old in
        ap (λ l. over l j more) whole
        ∙ ap₂ (λ a b. a ++ (more ++ b)) (take_at f (drop j old) j lf) rest
        ∙ append_assoc (take at old) new (more ++ drop (j + length more) old)
        ∙ ap (λ l. take at old ++ l) (sym (append_assoc new more (drop (j + length more) old)))
        ∙ ap (λ i. take at old ++ ((new ++ more) ++ drop i old)) (sym ends)
