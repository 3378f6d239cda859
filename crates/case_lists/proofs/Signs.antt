-- Laws of a text's signs: where the first one ends, and what a sign is read as. Assumes nothing.
use Rattle.std.proofs.Common.{Some, None}
use Prim.Native.Nat.{ℕ, suc, ◌+◌, ◌-◌, ◌≤◌, ◌<◌}
use mathlib.Core.Bool.{Bool, true, false, cond, not, ◌&&◌}
use mathlib.Core.List.{List, [], ◌∷◌}
use mathlib.Core.Path.{◌≡◌, refl, ap, ◌∙◌}
use native.Mathlib.Omega.{arith}
use borrow.Author.Tests.{eq-eqb, ne_eqb, leb-true}
use lib.Dec.{eqb, leb, lit<, lit≤}
use lib.ListN.{length, get_or, take, drop, length-drop, drop_of_length-le}
use lib.Seq.{drop-cons, drop-drop, take-length, drop-length}
use Rattle.text_digits.specs.Digits.{all_digits, worth, whole_of}
use Rattle.case_text.specs.Plain.{is_plain}
use Rattle.case_lists.specs.Text.{signs, is_sign, byte_of, plain_of, hidden_of, sign_of, SignEnds}
use Rattle.text_digits.proofs.Worth.{and_left, and_right, worth_bound, read_of, read_none, whole_16}

-- a sign of k bytes at the front of the text from a place on
ends : (text : List ℕ) (at k r : ℕ) → r ≡ at + k → 0 < k → r ≤ length text
    → signs (drop at text) ≡ take k (drop at text) ∷ signs (drop k (drop at text)) → SignEnds text at r
ends text at k r e some room s =
    let n : r - at ≡ k = omega arith in
    record { onward = omega arith; within = room; split = rw (n, e, ← drop-drop k at text) s }

one : (x : ℕ) (xs : List ℕ) → (x ≡ 37 → ⊥) → signs (x ∷ xs) ≡ (x ∷ []) ∷ signs xs
unfolding signs
one x [] h = refl
one x (y ∷ []) h = rw (ne_eqb x 37 h)
one x (y ∷ z ∷ more) h = rw (ne_eqb x 37 h)

short : (x : ℕ) (xs : List ℕ) → x ≡ 37 → length xs < 2 → signs (x ∷ xs) ≡ (x ∷ xs) ∷ []
unfolding signs
short x [] e h = refl
short x (y ∷ []) e h = rw (eq-eqb x 37 e)
short x (y ∷ z ∷ more) e h = absurd (omega arith)

three : (x : ℕ) (xs : List ℕ) → x ≡ 37 → 2 ≤ length xs → signs (x ∷ xs) ≡ take 3 (x ∷ xs) ∷ signs (drop 3 (x ∷ xs))
unfolding signs
three x [] e h = absurd (omega arith)
three x (y ∷ []) e h = absurd (omega arith)
three x (y ∷ z ∷ more) e h = rw (eq-eqb x 37 e)

module _ (text : List ℕ) (at : ℕ) (h : at < length text) where
  here : drop at text ≡ get_or text at 0 ∷ drop (suc at) text
  here = drop-cons text at 0 h

  pub ends_plain : (get_or text at 0 ≡ 37 → ⊥) → SignEnds text at (at + 1)
  ends_plain n = ends text at 1 (at + 1) refl (omega arith) (omega arith) (rw here (one (get_or text at 0) (drop (suc at) text) n))

  pub ends_short : get_or text at 0 ≡ 37 → length text - at < 3 → SignEnds text at (length text)
  unfolding signs
  ends_short e few =
      let k : length (drop (suc at) text) < 2 = rw length-drop (omega arith) in
      ends text at (length (drop at text)) (length text) (rw length-drop (omega arith)) (rw length-drop (omega arith)) (omega arith)
      (rw (take-length, drop-length, here) (short (get_or text at 0) (drop (suc at) text) e k))

  pub ends_three : get_or text at 0 ≡ 37 → 3 ≤ length text - at → SignEnds text at (at + 3)
  ends_three e room =
      let k : 2 ≤ length (drop (suc at) text) = rw length-drop (omega arith) in
      ends text at 3 (at + 3) refl (omega arith) (omega arith) (rw here (three (get_or text at 0) (drop (suc at) text) e k))

pub no_signs : (text : List ℕ) (at : ℕ) → length text ≤ at → signs (drop at text) ≡ []
unfolding signs
no_signs text at h = rw (drop_of_length-le text h)

-- ---- what a sign is read as

pub sign_one : (part : List ℕ) → length part ≡ 1 → plain_of (get_or part 0 0) ≡ sign_of part
unfolding plain_of sign_of is_sign byte_of
sign_one [] e = absurd (omega arith)
sign_one (x ∷ []) e = refl
sign_one (x ∷ y ∷ more) e = absurd (omega arith)

pub sign_other : (part : List ℕ) → (length part ≡ 1 → ⊥) → (length part ≡ 3 → ⊥) → None ≡ sign_of part
unfolding sign_of is_sign
sign_other [] n m = refl
sign_other (x ∷ []) n m = absurd (n refl)
sign_other (x ∷ y ∷ []) n m = refl
sign_other (x ∷ y ∷ z ∷ []) n m = absurd (m refl)
sign_other (x ∷ y ∷ z ∷ a ∷ more) n m = refl

hidden_is : (t : Bool) (b : ℕ) → hidden_of (cond t (Some b) None) ≡ cond (t && not (is_plain b)) (Some b) None
unfolding hidden_of
hidden_is true b = go (is_plain b)
  where
    go : (p : Bool) → cond p None (Some b) ≡ cond (not p) (Some b) None
    go true = refl
    go false = refl
hidden_is false b = refl

pub sign_three : (part : List ℕ) → length part ≡ 3 → hidden_of (whole_of 16 (take (length part - 1) (drop 1 part))) ≡ sign_of part
unfolding sign_of is_sign byte_of
sign_three [] e = absurd (omega arith)
sign_three (x ∷ []) e = absurd (omega arith)
sign_three (x ∷ y ∷ []) e = absurd (omega arith)
sign_three (x ∷ y ∷ z ∷ []) e = ap hidden_of (whole_16 (y ∷ z ∷ []) (lit≤ tt)) ∙ hidden_is (all_digits 16 (y ∷ z ∷ [])) (worth 16 0 (y ∷ z ∷ []))
sign_three (x ∷ y ∷ z ∷ a ∷ more) e = absurd (omega arith)

pub sign_of_lem : (part : List ℕ) (b : ℕ) → sign_of part ≡ Some b → (is_sign part ≡ true) × (byte_of part ≡ b)
unfolding sign_of
sign_of_lem part b e = read_of (is_sign part) (byte_of part) b e

pub sign_not : (part : List ℕ) → sign_of part ≡ None → is_sign part ≡ false
unfolding sign_of
sign_not part e = read_none (is_sign part) (byte_of part) e

-- a sign stands for a byte
plain_small : (x : ℕ) → is_plain x ≡ true → x < 256
unfolding is_plain
plain_small x e =
    let prints = and_left (leb 33 x && leb x 126) (not (eqb x 37)) (and_left (leb 33 x && leb x 126 && not (eqb x 37)) (not (eqb x 44)) e) in
    let small = leb-true x 126 (and_right (leb 33 x) (leb x 126) prints) in
    omega arith

pub sign_small : (part : List ℕ) → is_sign part ≡ true → byte_of part < 256
unfolding is_sign byte_of
sign_small [] e = lit< tt
sign_small (x ∷ []) e = plain_small x e
sign_small (x ∷ y ∷ []) e = let z : ◌≡◌ {A = ℕ} 0 1 = cc in absurd (omega arith)
sign_small (x ∷ y ∷ z ∷ []) e =
    worth_bound 16 0 (y ∷ z ∷ []) (and_left (all_digits 16 (y ∷ z ∷ [])) (not (is_plain (worth 16 0 (y ∷ z ∷ [])))) e)
sign_small (x ∷ y ∷ z ∷ a ∷ more) e = let q : ◌≡◌ {A = ℕ} 0 1 = cc in absurd (omega arith)
