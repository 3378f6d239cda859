-- Laws of the first stray byte: character by character, and in a walk over a text. Assumes nothing.
use Prim.Native.Nat.{ℕ, zero, suc, ◌+◌, ◌-◌, ◌≤◌}
use mathlib.Core.Bool.{true, false, ◌&&◌}
use mathlib.Core.List.{List, [], ◌∷◌}
use mathlib.Core.Path.{◌≡◌, refl, sym, ◌∙◌, ap}
use native.Mathlib.Omega.{arith}
use borrow.Author.Tests.{ne_eqb}
use lib.Dec.{eqb}
use lib.ListN.{length, take, drop, drop_of_length-le, length-drop}
use lib.Seq.{take_all, drop-drop}
use Rattle.text_plain.specs.Texts.{character_length, stray_after, first_stray, has_mark, without_mark}
use Rattle.units.proofs.Tests.{and_false}
use Rattle.text_plain.proofs.Characters.{character_fits}

-- what is left of a character is passed
passed : (left : ℕ) (t : List ℕ) → left ≤ length t → stray_after left t ≡ left + stray_after 0 (drop left t)
unfolding stray_after
passed zero t h = omega arith
passed (suc left) [] h = absurd (omega arith)
passed (suc left) (b ∷ t) h = let more = passed left t (omega arith) in omega arith

-- a character at the front is passed
pub character_passed : (t : List ℕ) (n : ℕ) → suc n ≡ character_length t → first_stray t ≡ suc n + first_stray (drop (suc n) t)
unfolding first_stray stray_after
character_passed [] n e = let fits = character_fits [] in absurd (omega arith)
character_passed (b ∷ t) n e =
    let fits = character_fits (b ∷ t) in
    let more = passed n t (omega arith) in
    let same : suc n - 1 ≡ n = omega arith in
    rw (← e, ne_eqb (suc n) 0 (λ z. omega arith), same) (omega arith)

-- no character at the front
pub stray_at_once : (t : List ℕ) → character_length t ≡ 0 → first_stray t ≡ 0
unfolding first_stray stray_after
stray_at_once [] e = refl
stray_at_once (b ∷ t) e = rw e

-- a part from a place to the end
pub to_the_end : (t : List ℕ) (from : ℕ) → from ≤ length t → take (length t - from) (drop from t) ≡ drop from t
to_the_end t from h = take_all (length t - from) (drop from t) (rw (length-drop from t) (omega arith))

-- the characters before place i are sound
pub record Walked (text : List ℕ) (i : ℕ) : Type 0 where
  pub within : i ≤ length text
  pub rest : i + first_stray (drop i text) ≡ first_stray text

module _ (text : List ℕ) where
  pub walk_starts : Walked text 0
  walk_starts = record { within = omega arith; rest = omega arith }

  module _ (i : ℕ) (s : Walked text i) where
    pub walk_ends : length text ≤ i → i ≡ first_stray text
    walk_ends h = let r = s.rest in let none = stray_at_once (drop i text) (rw (drop_of_length-le text h) nothing) in omega arith
      where
        nothing : character_length [] ≡ 0
        nothing = let fits = character_fits [] in omega arith

    module _ {n : ℕ} (e : n ≡ character_length (take (length text - i) (drop i text))) where
      here : character_length (drop i text) ≡ n
      here = sym (e ∙ ap character_length (to_the_end text i s.within))

      pub walk_fits : i + n ≤ length text
      walk_fits = let w = s.within in let h = here in omega (arith, character_fits (drop i text), length-drop i text)

      pub walk_stops : n ≡ 0 → i ≡ first_stray text
      walk_stops z = let r = s.rest in let none = stray_at_once (drop i text) (here ∙ z) in omega arith

      pub walk_goes_on : (n ≡ 0 → ⊥) → Walked text (i + n)
      walk_goes_on z = record { within = walk_fits; rest = go n refl }
        where
          go : (m : ℕ) → n ≡ m → i + n + first_stray (drop (i + n) text) ≡ first_stray text
          go zero k = absurd (z k)
          go (suc m) k =
              let r = s.rest in
              let one = character_passed (drop i text) m (sym (here ∙ k)) in
              rw (k, ← drop-drop (suc m) i text) (omega arith)

-- ---- a byte order mark

-- a text that begins with one has at least its three bytes
pub mark_fits : (t : List ℕ) → has_mark t ≡ true → 3 ≤ length t
unfolding has_mark
mark_fits [] e = let z : ◌≡◌ {A = ℕ} 0 1 = cc in absurd (omega arith)
mark_fits (a ∷ []) e = let z = and_false (eqb a 239) in let y : ◌≡◌ {A = ℕ} 0 1 = cc in absurd (omega arith)
mark_fits (a ∷ b ∷ []) e = let z : eqb a 239 && (eqb b 187 && false) ≡ false = simp and_false in let y : ◌≡◌ {A = ℕ} 0 1 = cc in absurd (omega arith)
mark_fits (a ∷ b ∷ c ∷ t) e = omega arith

pub marked : (t : List ℕ) → has_mark t ≡ true → take (length t - 3) (drop 3 t) ≡ without_mark t
unfolding without_mark
marked t e = rw e (to_the_end t 3 (mark_fits t e))
