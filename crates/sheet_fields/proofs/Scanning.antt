-- Laws of the scanner's turns: over plain bytes, within quotes, and what its functions find together. Assumes nothing.
use Prim.Native.Nat.{ℕ, suc, ◌+◌, ◌-◌, ◌^◌, ◌≤◌, ◌<◌, zero-le, suc-le-suc}
use mathlib.Core.Bool.{Bool, true, false, cond, not, ◌&&◌}
use mathlib.Core.List.{List, [], ◌∷◌}
use mathlib.Core.Path.{◌≡◌, refl, sym, ap, ◌∙◌}
use native.Mathlib.Nat.{add-zero, add_assoc}
use native.Mathlib.Omega.{arith}
use borrow.Author.Tests.{eq-eqb, ne_eqb, leb-true, leb-false}
use lib.Dec.{eqb, ltb, leb}
use lib.ListN.{length, get_or, take, drop, length-drop, get_or-eq_default}
use lib.Seq.{drop-drop, get_or-drop, take_all}
use Rattle.std.specs.Prelude.{Some, None, Option, unwrap_or}
use Rattle.std.specs.Option.{option_map}
use Rattle.std.proofs.lemmas.Bool.Decides.{nat_tests}
use Rattle.std.proofs.lemmas.List.Sums.{prefix_len-le-length}
use Rattle.std.specs.List.{position_or_len}
use Rattle.std.proofs.lemmas.List.Recursion.{is_position_or_len}
use Rattle.sheet_fields.specs.Fields.{EndFound, FieldFound, is_plain, plain_length, quoted_length, ending_of, broken, ended, field_of, bare_field, quoted_field, is_quoted, moved}
use Rattle.sheet_fields.specs.Scan.{quoted_step}
use Rattle.sheet_fields.specs.Answers.{ending_answer, field_answer}
use Rattle.sheet_fields.specs.declared.Ending.{Ending}
use Rattle.sheet_fields.specs.declared.Field.{Field}

-- ---- plain bytes, and bytes within quotes

pub plain_is : (t : List ℕ) → plain_length t ≡ position_or_len (λ (b : ℕ). not (is_plain b)) t
unfolding plain_length
plain_is = is_position_or_len plain_length (λ (b : ℕ). not (is_plain b)) refl next
  where
    turned : (p : Bool) (n : ℕ) → cond p (suc n) 0 ≡ cond (not p) 0 (1 + n)
    turned true n = omega arith
    turned false n = refl

    next : (b : ℕ) (t : List ℕ) → plain_length (b ∷ t) ≡ cond (not (is_plain b)) 0 (1 + plain_length t)
    next b t = turned (is_plain b) (plain_length t)

-- what a turn within quotes passes, by the first two bytes
pub step_by : (t : List ℕ) → quoted_step t ≡ cond (eqb (length t) 0) 0 (cond (eqb (get_or t 0 0) 34) (cond (eqb (get_or t 1 0) 34) 2 0) 1)
unfolding quoted_step
step_by [] = refl
step_by (a ∷ []) = refl
step_by (a ∷ b ∷ t) = rw (ne_eqb (suc (suc (length t))) 0 (λ (e : suc (suc (length t)) ≡ 0). omega arith))

-- a turn that passes some bytes stays within the text
pub step_within : (t : List ℕ) → quoted_step t ≤ length t
unfolding quoted_step
step_within [] = zero-le
step_within (a ∷ []) = go (eqb a 34)
  where
    go : (q : Bool) → cond q 0 1 ≤ 1
    go true = omega arith
    go false = omega arith
step_within (a ∷ b ∷ t) = go (eqb a 34) (eqb b 34)
  where
    go : (q p : Bool) → cond q (cond p 2 0) 1 ≤ suc (suc (length t))
    go true true = omega arith
    go true false = omega arith
    go false p = omega arith

-- what a turn passes and what is left make the whole
pub step_length : (t : List ℕ) → quoted_length t ≡ cond (eqb (quoted_step t) 0) 0 (quoted_step t + quoted_length (drop (quoted_step t) t))
unfolding quoted_step quoted_length
step_length [] = refl
step_length (a ∷ []) = go (eqb a 34)
  where
    go : (q : Bool) → cond q 0 1 ≡ cond (eqb (cond q 0 1) 0) 0 (cond q 0 1 + quoted_length (drop (cond q 0 1) (a ∷ [])))
    go true = refl
    go false = refl
step_length (a ∷ b ∷ t) = go (eqb a 34) (eqb b 34)
  where
    go : (q p : Bool) → cond q (cond p (suc (suc (quoted_length t))) 0) (suc (quoted_length (b ∷ t)))
        ≡ cond (eqb (cond q (cond p 2 0) 1) 0) 0 (cond q (cond p 2 0) 1 + quoted_length (drop (cond q (cond p 2 0) 1) (a ∷ b ∷ t)))
    go true true = omega arith
    go true false = refl
    go false p = omega arith

-- the bytes from a place on, as a slice has them
from_place : (text : List ℕ) (i : ℕ) → take (length text - i) (drop i text) ≡ drop i text
from_place text i = take_all (length text - i) (drop i text) (rw length-drop (omega arith))

module _ (text : List ℕ) (i s : ℕ) (e₀ : s ≡ quoted_step (take (length text - i) (drop i text))) where
  e : s ≡ quoted_step (drop i text)
  e = e₀ ∙ rw (from_place text i)

  pub quoted_stops : s ≡ 0 → quoted_length (drop i text) ≡ 0
  quoted_stops z = let n : quoted_step (drop i text) ≡ 0 = sym e ∙ z in step_length (drop i text) ∙ rw n

  pub quoted_next : (s ≡ 0 → ⊥) → quoted_length (drop i text) ≡ s + quoted_length (drop (i + s) text)
  quoted_next some =
      step_length (drop i text) ∙ rw (← e, ne_eqb s 0 some) (ap (λ (l : List ℕ). s + quoted_length l) (drop-drop s i text))

  pub quoted_room : i ≤ length text → i + s ≤ length text
  quoted_room h =
      let same = e in
      let k : quoted_step (drop i text) ≤ length text - i = rw (← length-drop i text) (step_within (drop i text)) in
      omega arith

-- the end before a text, by its first two bytes
pub ending_by : (t : List ℕ)
    → ending_of t ≡ cond (eqb (length t) 0) (ended false 0) (cond (eqb (get_or t 0 0) 44) (ended true 1)
    (cond (eqb (get_or t 0 0) 10) (ended false 1) (cond (eqb (get_or t 0 0) 13) (cond (eqb (get_or t 1 0) 10) (ended false 2) broken) broken)))
unfolding ending_of
ending_by [] = refl
ending_by (b ∷ t) = rw (ne_eqb (suc (length t)) 0 (λ (e : suc (length t) ≡ 0). omega arith)) (go (eqb b 13))
  where
    go : (p : Bool) → cond (eqb b 44) (ended true 1) (cond (eqb b 10) (ended false 1) (cond (p && eqb (get_or t 0 0) 10) (ended false 2) broken))
        ≡ cond (eqb b 44) (ended true 1) (cond (eqb b 10) (ended false 1) (cond p (cond (eqb (get_or t 0 0) 10) (ended false 2) broken) broken))
    go true = refl
    go false = refl

-- where the position of the first byte that is not plain is told, or the length where there is none
pub end_of_plain : (t : List ℕ) (r : Option ℕ)
    → r ≡ cond (ltb (position_or_len (λ (b : ℕ). not (is_plain b)) t) (length t)) (Some (position_or_len (λ (b : ℕ). not (is_plain b)) t)) None
    → unwrap_or r (length t) ≡ plain_length t
end_of_plain t r e = rw (e, plain_is t) (go (position_or_len test t) (prefix_len-le-length (λ (b : ℕ). not (test b)) t))
  where
    test : ℕ → Bool
    test b = not (is_plain b)

    go : (n : ℕ) → n ≤ length t → unwrap_or (cond (ltb n (length t)) (Some n) None) (length t) ≡ n
    go n h = grind (arith, nat_tests)

pub plain_within : (t : List ℕ) → plain_length t ≤ length t
unfolding plain_length
plain_within [] = zero-le
plain_within (b ∷ t) = go (is_plain b) (plain_within t)
  where
    go : (p : Bool) → plain_length t ≤ length t → cond p (suc (plain_length t)) 0 ≤ suc (length t)
    go true h = suc-le-suc h
    go false h = zero-le

pub quoted_within : (t : List ℕ) → quoted_length t ≤ length t
unfolding quoted_length
quoted_within [] = zero-le
quoted_within (a ∷ []) = go (eqb a 34)
  where
    go : (q : Bool) → cond q 0 1 ≤ 1
    go true = omega arith
    go false = omega arith
quoted_within (a ∷ b ∷ t) = go (eqb a 34) (eqb b 34) (quoted_within t) (quoted_within (b ∷ t))
  where
    go : (q p : Bool) → quoted_length t ≤ length t → quoted_length (b ∷ t) ≤ suc (length t)
        → cond q (cond p (suc (suc (quoted_length t))) 0) (suc (quoted_length (b ∷ t))) ≤ suc (suc (length t))
    go true true h k = omega arith
    go true false h k = omega arith
    go false p h k = omega arith

-- a place no further on than the bytes that are left is a place of the machine
pub front_fits : (text : List ℕ) (at n : ℕ) → n ≤ length (drop at text) → at < 2 ^ 64 → length text < 2 ^ 64 → at + n < 2 ^ 64
front_fits text at n h k j = let some : n ≤ length text - at = rw (← length-drop at text) h in omega arith

-- ---- the quote at a field's front

module _ (text : List ℕ) (i : ℕ) where
  first : get_or (drop i text) 0 0 ≡ get_or text i 0
  first = get_or-drop i text 0 0 ∙ ap (λ (n : ℕ). get_or text n 0) (add-zero i)

  pub quote_first : get_or text i 0 ≡ 34 → is_quoted (drop i text) ≡ true
  unfolding is_quoted
  quote_first e = rw (first, eq-eqb (get_or text i 0) 34 e)

  pub other_first : (get_or text i 0 ≡ 34 → ⊥) → is_quoted (drop i text) ≡ false
  unfolding is_quoted
  other_first n = rw (first, ne_eqb (get_or text i 0) 34 n)

  -- past the end there is no quote
  pub quote_within : get_or text i 0 ≡ 34 → i < length text
  quote_within e = go (leb (length text) i) refl
    where
      go : (t : Bool) → leb (length text) i ≡ t → i < length text
      go true k = let z = get_or-eq_default text 0 (leb-true (length text) i k) in absurd (omega arith)
      go false k = leb-false (length text) i k

-- ---- a field's end

-- an end takes no more bytes than there are
pub width_within : (t : List ℕ) → (ending_of t).width ≤ length t
unfolding ending_of
width_within [] = zero-le
width_within (b ∷ t) = go (eqb b 44) (eqb b 10) (eqb b 13) (eqb (get_or t 0 0) 10) (after_cr t)
  where
    after_cr : (u : List ℕ) → eqb (get_or u 0 0) 10 ≡ true → 1 ≤ length u
    after_cr [] e = let z : ◌≡◌ {A = ℕ} 0 1 = cc in absurd (omega arith)
    after_cr (a ∷ u) e = omega arith

    go : (p q r s : Bool) → (s ≡ true → 1 ≤ length t)
        → (cond p (ended true 1) (cond q (ended false 1) (cond (r && s) (ended false 2) broken))).width ≤ suc (length t)
    go true q r s k = omega arith
    go false true r s k = omega arith
    go false false true true k = let one = k refl in omega arith
    go false false true false k = omega arith
    go false false false s k = omega arith

-- the place after an end is a place of the machine
pub width_fits : (text : List ℕ) (at : ℕ) (d : Ending) → ending_answer (ending_of (drop at text)) ≡ Some d → at < 2 ^ 64 → length text < 2 ^ 64 → at + d.width < 2 ^ 64
width_fits text at d k = front_fits text at d.width (of_answer (ending_of (drop at text)) (width_within (drop at text)) k)
  where
    of_answer : (e : EndFound) → e.width ≤ length (drop at text) → ending_answer e ≡ Some d → d.width ≤ length (drop at text)
    of_answer e h q = go e.sound q
      where
        go : (s : Bool) → cond s (Some (record { more = e.more; width = e.width })) None ≡ Some d → d.width ≤ length (drop at text)
        go true r = let same : e.width ≡ d.width = cc in omega arith
        go false r = absurd cc

-- ---- a field by its places

-- a field that starts at a place of the text and whose end at another place is `ending`
unfoldable placed : (start from to at : ℕ) → EndFound → FieldFound
placed start from to at ending =
    cond ending.sound
    (record { sound = true; more = ending.more; from = from; to = to; next = at + ending.width })
    (record { sound = false; more = false; from = start; to = start; next = start })

placed_moved : (at f t n : ℕ) (e : EndFound) → placed at (at + f) (at + t) (at + n) e ≡ moved at (field_of f t n e)
unfolding placed field_of
placed_moved at f t n e = go e.sound
  where
    go : (s : Bool) → cond s (record { sound = true; more = e.more; from = at + f; to = at + t; next = at + n + e.width })
        (record { sound = false; more = false; from = at; to = at; next = at })
        ≡ moved at (cond s (record { sound = true; more = e.more; from = f; to = t; next = n + e.width })
        (record { sound = false; more = false; from = 0; to = 0; next = 0 }))
    go true = ap (λ (k : ℕ). record { sound = true; more = e.more; from = at + f; to = at + t; next = k }) (add_assoc at n e.width)
    go false = ap (λ (k : ℕ). record { sound = false; more = false; from = k; to = k; next = k }) (sym (add-zero at))

-- the field that an end closes
abbrev pub closed : (from to at : ℕ) → Ending → Field
closed from to at d = record { more = d.more; from = from; to = to; next = at + d.width }

answered : (start from to at : ℕ) (e : EndFound) → field_answer (placed start from to at e) ≡ option_map (closed from to at) (ending_answer e)
unfolding placed
answered start from to at e = go e.sound
  where
    go : (s : Bool) → field_answer (cond s (record { sound = true; more = e.more; from = from; to = to; next = at + e.width })
        (record { sound = false; more = false; from = start; to = start; next = start }))
        ≡ option_map (closed from to at) (cond s (Some (record { more = e.more; width = e.width })) None)
    go true = refl
    go false = refl

-- a bare field, from where its plain bytes end
pub bare_found : (text : List ℕ) (at to : ℕ) → to ≡ at + plain_length (drop at text)
    → field_answer (moved at (bare_field (drop at text))) ≡ option_map (closed at to to) (ending_answer (ending_of (drop to text)))
unfolding bare_field
bare_found text at to p =
    let n = plain_length (drop at text) in
    let same : ending_of (drop n (drop at text)) ≡ ending_of (drop to text) = rw (drop-drop n at text, ← p) in
    let here = add-zero at in
    let all : field_answer (moved at (field_of 0 n n (ending_of (drop n (drop at text))))) ≡ option_map (closed (at + 0) (at + n) (at + n)) (ending_answer (ending_of (drop n (drop at text)))) =
    sym (ap field_answer (placed_moved at 0 n n (ending_of (drop n (drop at text))))) ∙ answered at (at + 0) (at + n) (at + n) (ending_of (drop n (drop at text))) in
    all ∙ rw (same, here, ← p)

-- a field in quotes, from where they end
module _ (text : List ℕ) (at to : ℕ) (p : to ≡ (at + 1) + quoted_length (drop (at + 1) text)) where
  abbrev inside : ℕ
  inside = quoted_length (drop 1 (drop at text))

  to_is : to ≡ at + (inside + 1)
  to_is = p ∙ rw (drop-drop 1 at text) (omega arith)

  close_byte : get_or (drop at text) (inside + 1) 0 ≡ get_or text to 0
  close_byte = rw (to_is) (get_or-drop at text (inside + 1) 0)

  pub quoted_open : (get_or text to 0 ≡ 34 → ⊥) → field_answer (moved at (quoted_field (drop at text))) ≡ None
  unfolding quoted_field field_of
  quoted_open n = rw (close_byte, ne_eqb (get_or text to 0) 34 n)

  pub quoted_found : get_or text to 0 ≡ 34
      → field_answer (moved at (quoted_field (drop at text))) ≡ option_map (closed (at + 1) to (to + 1)) (ending_answer (ending_of (drop (to + 1) text)))
  unfolding quoted_field
  quoted_found c =
      let past : to + 1 ≡ at + (inside + 2) = let t = to_is in omega arith in
      let same : ending_of (drop (inside + 2) (drop at text)) ≡ ending_of (drop (to + 1) text) = rw (drop-drop (inside + 2) at text, ← past) in
      let end : EndFound = ending_of (drop (inside + 2) (drop at text)) in
      let all : field_answer (moved at (field_of 1 (inside + 1) (inside + 2) end)) ≡ option_map (closed (at + 1) (at + (inside + 1)) (at + (inside + 2))) (ending_answer end) =
      sym (ap field_answer (placed_moved at 1 (inside + 1) (inside + 2) end)) ∙ answered at (at + 1) (at + (inside + 1)) (at + (inside + 2)) end in
      rw (close_byte, eq-eqb (get_or text to 0) 34 c) (all ∙ rw (same, ← past, ← to_is))
