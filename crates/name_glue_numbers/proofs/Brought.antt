-- What the entries that bring a base have in common: each base once, each that is there, and every base of an entry. Assumes nothing.
use Prim.Native.Nat.{ℕ, zero, suc, ◌<◌}
use mathlib.Core.Path.{◌≡◌, refl, ap, sym, ◌∙◌, subst}
use mathlib.Core.Bool.{Bool, true, false, cond, and-eq-true_iff}
use mathlib.Core.List.{List, [], ◌∷◌, ◌++◌, append-nil}
use mathlib.Core.Logic.{⊎_elim}
use native.Mathlib.Nat.{not-suc-le-zero, le_of_suc-le-suc, eq-or-lt_of_le}
use native.Mathlib.Numerals.{add-one, lt_of_le_of_ne}
use native.Mathlib.Omega.{arith}
use lib.Dec.{eqb}
use lib.ListN.{length, get_or, length-append, get_or-append}
use lib.Seq.{get_or_at}
use borrow.Author.Tests.{eqb-true, eqb-false}
use Rattle.name_glues.specs.Names.{GlueNames, is_present}
use Rattle.name_new_bases.specs.Bases.{bases_of, is_new, firsts_to}
use Rattle.name_new_bases.proofs.Firsts.{brings}
use Rattle.name_glue_numbers.proofs.Places.{base, place, place_is, place_at_most, place_stays}

-- the base of a new entry is none of those before it
new_differs : (n : GlueNames) (es : List ℕ) (k : ℕ) → is_new n (bases_of n es) (length es) k ≡ true → (j : ℕ) → j < length es → base n (get_or es j 0) ≡ base n k → ⊥
new_differs n es k e j l =
    let last = eqb-true (place n es k) (length es) ((and-eq-true_iff (is_present n k) (eqb (place n es k) (length es))).0 e).1 in
    (place_is n es k).others j (omega arith)

-- the base of a present entry that is not new is one of them
known_place : (n : GlueNames) (es : List ℕ) (k : ℕ) → is_new n (bases_of n es) (length es) k ≡ false → is_present n k ≡ true → place n es k < length es
known_place n es k e p =
    let other = eqb-false (place n es k) (length es) (rw p at e) in
    lt_of_le_of_ne (place_is n es k).to other

-- No base is brought twice.
abbrev pub Distinct : GlueNames → List ℕ → Type 0
Distinct n es = (j m : ℕ) → j < m → m < length es → base n (get_or es j 0) ≡ base n (get_or es m 0) → ⊥

-- Each entry brings a base that is brought by it or before it.
abbrev pub Covers : GlueNames → List ℕ → ℕ → Type 0
Covers n es k = (i : ℕ) → i < k → is_present n i ≡ true → place n es i < length es

-- Each that brings a base is there.
abbrev pub Present : GlueNames → List ℕ → Type 0
Present n es = (j : ℕ) → j < length es → is_present n (get_or es j 0) ≡ true

-- The entry at place j is new where j bases stand before it.
abbrev pub InOrder : GlueNames → List ℕ → Type 0
InOrder n es = (j : ℕ) → j < length es → (length (firsts_to n (get_or es j 0)) ≡ j) × (brings n (get_or es j 0) ≡ true)

module _ (n : GlueNames) (es : List ℕ) (k : ℕ) where
  -- where the last of these is
  last_or_earlier : {A : Type 0} (m : ℕ) → m < length (es ++ (k ∷ [])) → (m ≡ length es → A) → (m < length es → A) → A
  last_or_earlier m l f g = ⊎_elim f g (eq-or-lt_of_le (le_of_suc-le-suc (rw (length-append es (k ∷ []), add-one (length es)) at l)))

  at_last : {m : ℕ} → m ≡ length es → get_or (es ++ (k ∷ [])) m 0 ≡ k
  at_last {m} e = get_or_at es k [] 0 m (sym e)

  at_earlier : (m : ℕ) → m < length es → get_or (es ++ (k ∷ [])) m 0 ≡ get_or es m 0
  at_earlier m l = get_or-append es (k ∷ []) 0 m l

  distinct_more : is_new n (bases_of n es) (length es) k ≡ true → Distinct n es → Distinct n (es ++ (k ∷ []))
  distinct_more e d j m l h q =
      last_or_earlier m h
      (λ p. new_differs n es k e j (omega arith) (sym (ap (base n) (at_earlier j (omega arith))) ∙ q ∙ ap (base n) (at_last p)))
      (λ p. d j m l p (sym (ap (base n) (at_earlier j (omega arith))) ∙ q ∙ ap (base n) (at_earlier m p)))

  present_more : is_new n (bases_of n es) (length es) k ≡ true → Present n es → Present n (es ++ (k ∷ []))
  present_more e f j l =
      last_or_earlier j l
      (λ p. ap (is_present n) (at_last p) ∙ ((and-eq-true_iff (is_present n k) (eqb (place n es k) (length es))).0 e).0)
      (λ p. ap (is_present n) (at_earlier j p) ∙ f j p)

  covers_more : is_new n (bases_of n es) (length es) k ≡ true → Covers n es k → Covers n (es ++ (k ∷ [])) (suc k)
  covers_more e f i l p = ⊎_elim newest earlier (eq-or-lt_of_le (le_of_suc-le-suc l))
    where
      earlier : i < k → place n (es ++ (k ∷ [])) i < length (es ++ (k ∷ []))
      earlier h = rw (place_stays n es (k ∷ []) i (f i h p), length-append es (k ∷ [])) (omega (arith, f i h p))

      newest : i ≡ k → place n (es ++ (k ∷ [])) i < length (es ++ (k ∷ []))
      newest h =
          let here = place_at_most n (es ++ (k ∷ [])) i (length es) (ap (base n) (at_last refl) ∙ ap (base n) (sym h)) in
          omega (arith, here, length-append es (k ∷ []))

  covers_kept : is_new n (bases_of n es) (length es) k ≡ false → Covers n es k → Covers n es (suc k)
  covers_kept e f i l p = ⊎_elim (λ h. subst (λ j. is_present n j ≡ true → place n es j < length es) (sym h) (known_place n es k e) p) (λ h. f i h p) (eq-or-lt_of_le (le_of_suc-le-suc l))

-- by how an entry adds to them
by_entry : (n : GlueNames) (k : ℕ) (P : List ℕ → Type 0) → (brings n k ≡ false → P (firsts_to n k)) → (brings n k ≡ true → P (firsts_to n k ++ (k ∷ []))) → P (firsts_to n (suc k))
unfolding firsts_to
by_entry n k P f g = go (brings n k) refl
  where
    go : (t : Bool) → brings n k ≡ t → P (firsts_to n k ++ cond t (k ∷ []) [])
    go true e = g e
    go false e = subst P (sym (append-nil (firsts_to n k))) (f e)

module _ (n : GlueNames) where
  -- the newest of them comes after all others
  order_more : (k : ℕ) → brings n k ≡ true → InOrder n (firsts_to n k) → InOrder n (firsts_to n k ++ (k ∷ []))
  order_more k e f j l =
      last_or_earlier n (firsts_to n k) k j l
      (λ p. subst (λ i. (length (firsts_to n i) ≡ j) × (brings n i ≡ true)) (sym (at_last n (firsts_to n k) k p)) (sym p, e))
      (λ p. subst (λ i. (length (firsts_to n i) ≡ j) × (brings n i ≡ true)) (sym (at_earlier n (firsts_to n k) k j p)) (f j p))

  pub in_order : (k : ℕ) → InOrder n (firsts_to n k)
  unfolding firsts_to
  in_order zero = λ j h. absurd (not-suc-le-zero h)
  in_order (suc k) = by_entry n k (InOrder n) (λ e. in_order k) (λ e. order_more k e (in_order k))

  pub distinct : (k : ℕ) → Distinct n (firsts_to n k)
  unfolding firsts_to
  distinct zero = λ j m l h. absurd (not-suc-le-zero h)
  distinct (suc k) = by_entry n k (Distinct n) (λ e. distinct k) (λ e. distinct_more n (firsts_to n k) k e (distinct k))

  pub all_present : (k : ℕ) → Present n (firsts_to n k)
  unfolding firsts_to
  all_present zero = λ j h. absurd (not-suc-le-zero h)
  all_present (suc k) = by_entry n k (Present n) (λ e. all_present k) (λ e. present_more n (firsts_to n k) k e (all_present k))

  pub covers : (k : ℕ) → Covers n (firsts_to n k) k
  covers zero = λ i l. absurd (not-suc-le-zero l)
  covers (suc k) = by_entry n k (λ es. Covers n es (suc k)) (λ e. covers_kept n (firsts_to n k) k e (covers k)) (λ e. covers_more n (firsts_to n k) k e (covers k))
