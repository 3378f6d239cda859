-- The place of a base among those that entries bring: the first of them that has it, or their number. Assumes nothing.
use Prim.Native.Nat.{ℕ, ◌*◌, ◌-◌, ◌≤◌, ◌<◌}
use mathlib.Core.Path.{◌≡◌, refl, ap, sym, ◌∙◌}
use mathlib.Core.Bool.{Bool, true, false, true≢false}
use mathlib.Core.List.{List, ◌++◌}
use native.Mathlib.Nat.{le_of_suc-le-suc, lt_of_not-le}
use native.Mathlib.Omega.{arith}
use lib.ListN.{length, get_or, replicate, length-append, get_or-append}
use Rattle.units.specs.Limits.{base_numbers}
use Rattle.text_entries.specs.Entries.{same_bytes}
use Rattle.text_entries.proofs.Same.{same_equal, equal_same}
use Rattle.name_stars.specs.Stars.{base_of}
use Rattle.text_entries.proofs.InOrder.{first, first_only}
use Rattle.name_base_list.specs.Bases.{is_base}
use Rattle.name_glues.specs.Names.{GlueNames, name_at}
use Rattle.name_glues.specs.Glues.{base_at}
use Rattle.name_new_bases.specs.Bases.{bases_of, bases_table}
use Rattle.name_new_bases.proofs.Front.{find_front}
use Rattle.name_new_bases.proofs.Firsts.{length_bases, base_of_first}

-- the base of entry i, and the place of it among the bases of some entries
abbrev pub base : GlueNames → ℕ → List ℕ
base n i = base_of (name_at n i)

abbrev pub place : GlueNames → List ℕ → ℕ → ℕ
place n es i = base_at n (bases_of n es) (length es) i

-- the place in the table is that in the list
pub place_in_table : (n : GlueNames) (es : List ℕ) (i : ℕ) → base_at n (bases_table n es) (length es) i ≡ place n es i
place_in_table n es i = find_front (bases_of n es) (replicate (base_numbers - length es * 2) 0) n.text (base n i) (length es) (omega (arith, length_bases n es))

-- the first of these entries that has the base of entry i, or their number
pub record FirstOf (n : GlueNames) (es : List ℕ) (i r : ℕ) : Type 0 where
  pub to : r ≤ length es
  pub same : r < length es → base n (get_or es r 0) ≡ base n i
  pub others : (j : ℕ) → j < r → base n (get_or es j 0) ≡ base n i → ⊥

-- bytes that are not the same are not equal
differ : (xs ys : List ℕ) → same_bytes xs ys ≡ false → xs ≡ ys → ⊥
differ xs ys e f = true≢false (sym (equal_same xs ys f) ∙ e)

not_same : (xs ys : List ℕ) → (xs ≡ ys → ⊥) → same_bytes xs ys ≡ false
not_same xs ys f = go (same_bytes xs ys) refl
  where
    go : (t : Bool) → same_bytes xs ys ≡ t → same_bytes xs ys ≡ false
    go true e = absurd (f (same_equal xs ys e))
    go false e = e

module _ (n : GlueNames) (es : List ℕ) (i : ℕ) where
  pub place_is : FirstOf n es i (place n es i)
  place_is =
      let f = first (is_base n.text (bases_of n es) (base n i)) 0 (length es) in
      record {
        to = omega (arith, f.to);
        same = λ l. sym (base_of_first n es (place n es i) l) ∙ same_equal _ _ (f.there (omega arith));
        others = λ j l e. differ _ _ (f.none_before j (omega arith) l) (base_of_first n es j (omega (arith, f.to)) ∙ e);
      }

  pub place_only : {r : ℕ} → FirstOf n es i r → place n es i ≡ r
  place_only {r} g =
      first_only (is_base n.text (bases_of n es) (base n i)) (length es)
      (record {
        from = omega arith;
        to = omega (arith, g.to);
        there = λ l. equal_same _ _ (base_of_first n es r (omega arith) ∙ g.same (omega arith));
        none_before = λ j h l. not_same _ _ λ e. g.others j l (sym (base_of_first n es j (omega (arith, g.to))) ∙ e);
      })

-- the place is not behind an entry with that base
pub place_at_most : (n : GlueNames) (es : List ℕ) (i r : ℕ) → base n (get_or es r 0) ≡ base n i → place n es i ≤ r
place_at_most n es i r e = le_of_suc-le-suc (lt_of_not-le λ l. (place_is n es i).others r l e)

-- a base that is found stays at its place in a longer list
pub place_stays : (n : GlueNames) (es rest : List ℕ) (i : ℕ) → place n es i < length es → place n (es ++ rest) i ≡ place n es i
place_stays n es rest i l =
    let f = place_is n es i in
    place_only n (es ++ rest) i
    (record {
      to = rw (length-append es rest) (omega arith);
      same = λ m. ap (base n) (get_or-append es rest 0 (place n es i) l) ∙ f.same l;
      others = λ j m e. f.others j m (sym (ap (base n) (get_or-append es rest 0 j (omega arith))) ∙ e);
    })
