-- Lists that grow at their end, as loops make them: lengths, and what stands at a place. Assumes nothing.
use mathlib.Core.Path.{◌≡◌, refl, sym, ap, ◌∙◌, subst}
use mathlib.Core.Logic.{⊎_elim}
use mathlib.Core.List.{List, [], ◌∷◌, ◌++◌}
use Prim.Native.Nat.{ℕ, zero, suc, ◌+◌, ◌*◌, ◌<◌}
use native.Mathlib.Nat.{eq-or-lt_of_le, le_of_suc-le-suc, not-suc-le-zero}
use native.Mathlib.Numerals.{add-one}
use native.Mathlib.Omega.{arith}
use lib.Arith.{digits_lt}
use lib.ListN.{length, get_or, length-append, get_or-append}
use lib.Seq.{get_or-append-add, get_or_at}
use Rattle.ledger_rows.specs.Blocks.{tab, flat}

-- ---- a list by places
pub length_tab : {A : Type 0} (f : ℕ → A) (n : ℕ) → length (tab f n) ≡ n
unfolding tab
length_tab f zero = refl
length_tab f (suc n) = length-append (tab f n) (f n ∷ []) ∙ ap (λ k. k + 1) (length_tab f n) ∙ add-one n

pub tab_at : {A : Type 0} (f : ℕ → A) (n i : ℕ) (d : A) → i < n → get_or (tab f n) i d ≡ f i
unfolding tab
tab_at f zero i d h = absurd (not-suc-le-zero h)
tab_at f (suc n) i d h = ⊎_elim last (λ l. earlier l ∙ tab_at f n i d l) (eq-or-lt_of_le (le_of_suc-le-suc h))
  where
    last : i ≡ n → get_or (tab f n ++ (f n ∷ [])) i d ≡ f i
    last e = get_or_at (tab f n) (f n) [] d i (length_tab f n ∙ sym e) ∙ ap f (sym e)

    earlier : i < n → get_or (tab f n ++ (f n ∷ [])) i d ≡ get_or (tab f n) i d
    earlier l = get_or-append (tab f n) (f n ∷ []) d i (subst (λ k. i < k) (sym (length_tab f n)) l)

pub tab_none : {A : Type 0} (f : ℕ → A) → tab f 0 ≡ []
unfolding tab
tab_none f = refl

pub tab_more : {A : Type 0} (f : ℕ → A) (n : ℕ) → tab f (n + 1) ≡ tab f n ++ (f n ∷ [])
unfolding tab
tab_more f n = rw (add-one n)

-- ---- lists of one length, one behind the other
pub flat_none : {A : Type 0} (f : ℕ → List A) → flat f 0 ≡ []
unfolding flat
flat_none f = refl

pub flat_more : {A : Type 0} (f : ℕ → List A) (n : ℕ) → flat f (n + 1) ≡ flat f n ++ f n
unfolding flat
flat_more f n = rw (add-one n)

module _ {A : Type 0} (f : ℕ → List A) (c : ℕ) (even : (q : ℕ) → length (f q) ≡ c) where
  pub length_flat : (n : ℕ) → length (flat f n) ≡ n * c
  unfolding flat
  length_flat zero = omega arith
  length_flat (suc n) = omega (arith, length-append (flat f n) (f n), length_flat n, even n)

  pub flat_at : (n q p : ℕ) (d : A) → q < n → p < c → get_or (flat f n) (q * c + p) d ≡ get_or (f q) p d
  unfolding flat
  flat_at zero q p d h l = absurd (not-suc-le-zero h)
  flat_at (suc n) q p d h l = ⊎_elim last (λ g. earlier g ∙ flat_at n q p d g l) (eq-or-lt_of_le (le_of_suc-le-suc h))
    where
      last : q ≡ n → get_or (flat f n ++ f n) (q * c + p) d ≡ get_or (f q) p d
      last e = rw e (ap (λ k. get_or (flat f n ++ f n) (k + p) d) (sym (length_flat n)) ∙ get_or-append-add (flat f n) (f n) p d)

      earlier : q < n → get_or (flat f n ++ f n) (q * c + p) d ≡ get_or (flat f n) (q * c + p) d
      earlier g = get_or-append (flat f n) (f n) d (q * c + p) (subst (λ k. q * c + p < k) (sym (length_flat n)) (digits_lt g l))
