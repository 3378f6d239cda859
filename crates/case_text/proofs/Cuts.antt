-- Laws of places and parts: what a search for a byte passes, and how the parts of a text follow from the places of the byte. Assumes nothing.
use Prim.Native.Nat.{ℕ, suc, ◌+◌, ◌-◌, ◌≤◌, ◌<◌, zero-le, suc-le-suc}
use mathlib.Core.Bool.{Bool, true, false, cond}
use mathlib.Core.List.{List, [], ◌∷◌}
use mathlib.Core.Path.{◌≡◌, refl, ap, ◌∙◌}
use native.Mathlib.Nat.{not-suc-le-zero, le_of_suc-le-suc, add-suc}
use native.Mathlib.Numerals.{add-one}
use native.Mathlib.Omega.{arith}
use borrow.Author.Tests.{eq-eqb, eqb-true}
use lib.Dec.{eqb}
use lib.ListN.{length, take, drop, drop_of_length-le, length-drop}
use lib.Seq.{drop-drop}
use Rattle.std.specs.Option.{unwrap_or}
use Rattle.text_search.specs.Search.{index_after, index_of, place_in}
use Rattle.text_search.proofs.Searching.{place_or_end}
use Rattle.case_text.specs.Places.{place_of, Onward, longer, parts}
use Rattle.case_text.specs.Fields.{rest}

-- ---- a search for a byte

pub place_past : (b : ℕ) (text : List ℕ) (i : ℕ) → length text ≤ i → place_of b text i ≡ length text
unfolding place_of index_of
place_past b text i h = rw (drop_of_length-le text h) (omega arith)

pub place_found : (b : ℕ) (text : List ℕ) (from : ℕ) → from < length text → unwrap_or (place_in b from (length text) text) (length text) ≡ place_of b text from
unfolding place_of
place_found b text from h = let found = place_or_end b from text (omega arith) in omega arith

-- ---- how far a search goes

pub index_le : (b : ℕ) (xs : List ℕ) → index_of b xs ≤ length xs
unfolding index_of index_after
index_le b [] = zero-le
index_le b (x ∷ xs) = go (eqb x b) (index_le b xs)
  where
    go : (t : Bool) → index_of b xs ≤ length xs → index_after t (index_of b xs) ≤ suc (length xs)
    go true h = zero-le
    go false h = suc-le-suc h

place_onward : (b : ℕ) (text : List ℕ) (from : ℕ) → Onward from text (place_of b text from)
unfolding place_of
place_onward b text from =
    let h : index_of b (drop from text) ≤ length text - from = rw (← length-drop from text) (index_le b (drop from text)) in
    (omega arith, omega arith)

-- what a search finds is a place from where it starts to the text's end
pub onward_at : (b : ℕ) (text : List ℕ) (from r : ℕ) → r ≡ place_of b text from → Onward from text r
onward_at b text from r e = rw e (place_onward b text from)

-- ---- the parts

-- the first part is what stands before the first b
pub parts_head : (b : ℕ) (xs : List ℕ) → parts b xs ≡ take (index_of b xs) xs ∷ rest (parts b xs)
unfolding parts index_of index_after rest longer
parts_head b [] = refl
parts_head b (x ∷ xs) = go (eqb x b) (parts_head b xs)
  where
    go : (t : Bool) → parts b xs ≡ take (index_of b xs) xs ∷ rest (parts b xs)
        → cond t ([] ∷ parts b xs) (longer x (parts b xs)) ≡ take (index_after t (index_of b xs)) (x ∷ xs) ∷ rest (cond t ([] ∷ parts b xs) (longer x (parts b xs)))
    go true h = refl
    go false h = rw h

-- the other parts come from that b on
pub parts_rest : (b : ℕ) (xs : List ℕ) → rest (parts b xs) ≡ rest (parts b (drop (index_of b xs) xs))
unfolding parts index_of index_after rest longer
parts_rest b [] = refl
parts_rest b (x ∷ xs) = go (eqb x b) refl (parts_rest b xs)
  where
    longer_rest : (ps : List (List ℕ)) (p : List ℕ) (qs : List (List ℕ)) → ps ≡ p ∷ qs → rest (longer x ps) ≡ rest ps
    longer_rest ps p qs e = rw e

    go : (t : Bool) → eqb x b ≡ t → rest (parts b xs) ≡ rest (parts b (drop (index_of b xs) xs))
        → rest (cond t ([] ∷ parts b xs) (longer x (parts b xs))) ≡ rest (parts b (drop (index_after t (index_of b xs)) (x ∷ xs)))
    go true e h = rw e
    go false e h = longer_rest (parts b xs) _ _ (parts_head b xs) ∙ h

-- ---- the place of a byte

-- at the place of a b the text goes on with b
pub at_index : (b : ℕ) (xs : List ℕ) → index_of b xs < length xs → drop (index_of b xs) xs ≡ b ∷ drop (suc (index_of b xs)) xs
unfolding index_of index_after
at_index b [] h = absurd (not-suc-le-zero h)
at_index b (x ∷ xs) h = go (eqb x b) refl h (at_index b xs)
  where
    go : (t : Bool) → eqb x b ≡ t → index_after t (index_of b xs) < suc (length xs)
        → (index_of b xs < length xs → drop (index_of b xs) xs ≡ b ∷ drop (suc (index_of b xs)) xs)
        → drop (index_after t (index_of b xs)) (x ∷ xs) ≡ b ∷ drop (suc (index_after t (index_of b xs))) (x ∷ xs)
    go true e k more = ap (λ (y : ℕ). y ∷ xs) (eqb-true x b e)
    go false e k more = more (le_of_suc-le-suc k)

-- ---- the parts from a place s on, where the next b stands at `place_of b text s`

place_is : (b : ℕ) (text : List ℕ) (s : ℕ) → s ≤ length text → place_of b text s ≡ s + index_of b (drop s text)
unfolding place_of
place_is b text s h = omega arith

pub place_first : (b : ℕ) (text : List ℕ) → place_of b text 0 ≡ index_of b text
place_first b text = let e = place_is b text 0 zero-le in omega arith

pub part_at : (b : ℕ) (text : List ℕ) (s : ℕ) → s ≤ length text
    → parts b (drop s text) ≡ take (place_of b text s - s) (drop s text) ∷ rest (parts b (drop (place_of b text s) text))
part_at b text s h =
    let e = place_is b text s h in
    let n : place_of b text s - s ≡ index_of b (drop s text) = omega arith in
    rw (n, e, ← drop-drop (index_of b (drop s text)) s text, ← parts_rest b (drop s text)) (parts_head b (drop s text))

pub none_after : (b : ℕ) (text : List ℕ) (e : ℕ) → length text ≤ e → rest (parts b (drop e text)) ≡ []
unfolding parts rest
none_after b text e h = rw (drop_of_length-le text h)

pub more_after : (b : ℕ) (text : List ℕ) (s : ℕ) → s ≤ length text → place_of b text s < length text
    → rest (parts b (drop (place_of b text s) text)) ≡ parts b (drop (place_of b text s + 1) text)
unfolding parts rest
more_after b text s h within =
    let e = place_is b text s h in
    let n = index_of b (drop s text) in
    let k : n < length (drop s text) = rw (length-drop s text) (omega arith) in
    rw (e, add-one, ← add-suc s n, ← drop-drop n s text, ← drop-drop (suc n) s text, at_index b (drop s text) k, eq-eqb b b refl)
