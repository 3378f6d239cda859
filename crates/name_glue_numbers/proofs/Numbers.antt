-- What the numbers mean: which names get the same glue, which glues a base has, and what the list of bases holds. Assumes nothing.
use Prim.Native.Nat.{ℕ, ◌+◌, ◌*◌, ◌<◌}
use mathlib.Core.Path.{◌≡◌, refl, ap, ap₂, sym, ◌∙◌, subst}
use mathlib.Core.Bool.{Bool, true, false, cond, true≢false}
use mathlib.Core.List.{List}
use mathlib.Core.Logic.{◌↔◌}
use native.Mathlib.Omega.{arith}
use lib.ListN.{length, get_or}
use Rattle.name_stars.specs.Stars.{base_of, is_from}
use Rattle.name_base_list.specs.Bases.{base_name, find_base, glue_of}
use Rattle.name_glues.specs.Names.{GlueNames, name_at, is_present}
use Rattle.name_glues.specs.Glues.{base_at, glue_at}
use Rattle.name_new_bases.specs.Bases.{bases_of, firsts_to, bases_table}
use Rattle.name_new_bases.proofs.Firsts.{length_bases, base_of_first, firsts_below}
use Rattle.name_new_bases.proofs.Front.{name_front}
use Rattle.name_glue_numbers.proofs.Places.{base, place, place_in_table, place_is, place_only}
use Rattle.name_glue_numbers.proofs.Brought.{distinct, all_present, covers}

-- the glue of base r, with the parity s of the stars
abbrev numbered : Bool → ℕ → ℕ
numbered s r = cond s (r * 2 + 1) (r * 2 + 1 + 1)

as_printed : (s : Bool) (r : ℕ) → numbered s r ≡ cond s (2 * r + 1) (2 * r + 2)
as_printed true r = omega arith
as_printed false r = omega arith

same_number : (s t : Bool) (a b : ℕ) → numbered s a ≡ numbered t b → (a ≡ b) × (s ≡ t)
same_number true true a b e = (omega arith, refl)
same_number true false a b e = absurd (omega arith)
same_number false true a b e = absurd (omega arith)
same_number false false a b e = (omega arith, refl)

zero_exactly : (b s : Bool) (r : ℕ) → (cond b (numbered s r) 0 ≡ 0) ↔ (b ≡ false)
zero_exactly true true r = (λ e. absurd (omega arith), λ e. absurd (true≢false e))
zero_exactly true false r = (λ e. absurd (omega arith), λ e. absurd (true≢false e))
zero_exactly false s r = (λ e. refl, λ e. refl)

below : (b s : Bool) (r c : ℕ) → (b ≡ true → r < c) → cond b (numbered s r) 0 < c * 2 + 1
below true true r c f = omega (arith, f refl)
below true false r c f = omega (arith, f refl)
below false s r c f = omega arith

module _ (n : GlueNames) (k : ℕ) where
  -- After k entries: how many bases, their list, and the glue of an entry.
  abbrev pub count : ℕ
  count = length (firsts_to n k)

  abbrev pub list : List ℕ
  list = bases_table n (firsts_to n k)

  abbrev pub glue : ℕ → ℕ
  glue i = glue_at n list count i

  -- the base at place j of the list is that of the entry that brought it
  brought : (j : ℕ) → j < count → base_name n.text list j ≡ base n (get_or (firsts_to n k) j 0)
  brought j l = name_front (bases_of n (firsts_to n k)) _ n.text j (omega (arith, length_bases n (firsts_to n k))) ∙ base_of_first n (firsts_to n k) j l

  -- The list: every base in it is the base of a present entry.
  pub every_base_is_present : (j : ℕ) → j < count → (i : ℕ) × (i < k) × (is_present n i ≡ true) × (base_name n.text list j ≡ base_of (name_at n i))
  every_base_is_present j l = (get_or (firsts_to n k) j 0, firsts_below n k j l, all_present n k j l, brought j l)

  -- The list: no base occurs twice.
  pub no_base_twice : (j m : ℕ) → j < m → m < count → base_name n.text list j ≡ base_name n.text list m → ⊥
  no_base_twice j m l h e = distinct n k j m l h (sym (brought j (omega arith)) ∙ e ∙ brought m h)

  -- The list: the base of every present entry is in it.
  pub every_entry_is_listed : (i : ℕ) → i < k → is_present n i ≡ true → (base_at n list count i < count) × (base_name n.text list (base_at n list count i) ≡ base_of (name_at n i))
  every_entry_is_listed i l p =
      let es = firsts_to n k in
      let found = covers n k i l p in
      subst (λ r. (r < count) × (base_name n.text list r ≡ base n i)) (sym (place_in_table n es i)) (found, brought (place n es i) found ∙ (place_is n es i).same found)

  -- the glue of a present entry, by the place of its base
  by_place : (i : ℕ) → is_present n i ≡ true → glue i ≡ glue_of (place n (firsts_to n k) i) (name_at n i)
  by_place i p = rw p (ap (λ r. glue_of r (name_at n i)) (place_in_table n (firsts_to n k) i))

  -- Base j has the glues 2j + 1, for names with an even number of stars, and 2j + 2, for the others.
  pub glues_of_base : (i j : ℕ) → i < k → is_present n i ≡ true → j < count → base_name n.text list j ≡ base_of (name_at n i) → glue i ≡ cond (is_from (name_at n i)) (2 * j + 1) (2 * j + 2)
  glues_of_base i j l p h e =
      let es = firsts_to n k in
      let here : base n (get_or es j 0) ≡ base n i = sym (brought j h) ∙ e in
      let first : place n es i ≡ j = place_only n es i (record { to = omega arith; same = λ m. here; others = λ m b d. distinct n k m j b h (d ∙ sym here) }) in
      by_place i p ∙ ap (λ r. glue_of r (name_at n i)) first ∙ as_printed (is_from (name_at n i)) j

  -- Equal numbers go to equal bases with like parity of stars, and to no others.
  pub same_glue : (i m : ℕ) → i < k → m < k → is_present n i ≡ true → is_present n m ≡ true
      → (glue i ≡ glue m) ↔ ((base_of (name_at n i) ≡ base_of (name_at n m)) × (is_from (name_at n i) ≡ is_from (name_at n m)))
  same_glue i m l h p q = (to, from)
    where
      to : glue i ≡ glue m → (base_of (name_at n i) ≡ base_of (name_at n m)) × (is_from (name_at n i) ≡ is_from (name_at n m))
      to e =
          let both = same_number (is_from (name_at n i)) (is_from (name_at n m)) (place n (firsts_to n k) i) (place n (firsts_to n k) m) (sym (by_place i p) ∙ e ∙ by_place m q) in (
            sym ((place_is n (firsts_to n k) i).same (covers n k i l p))
                ∙ ap (λ r. base n (get_or (firsts_to n k) r 0)) both.0
                ∙ (place_is n (firsts_to n k) m).same (covers n k m h q),
            both.1,
          )

      from : (base_of (name_at n i) ≡ base_of (name_at n m)) × (is_from (name_at n i) ≡ is_from (name_at n m)) → glue i ≡ glue m
      from e = by_place i p ∙ ap₂ (λ s name. numbered s (find_base n.text (bases_of n (firsts_to n k)) count name)) e.1 e.0 ∙ sym (by_place m q)

  -- An absent entry has glue 0, and no other has.
  pub absent_is_zero : (i : ℕ) → (glue i ≡ 0) ↔ (is_present n i ≡ false)
  absent_is_zero i = zero_exactly (is_present n i) (is_from (name_at n i)) (base_at n list count i)

  -- Every glue is below the count of glues.
  pub glue_below : (i : ℕ) → i < k → glue i < count * 2 + 1
  glue_below i l = below (is_present n i) (is_from (name_at n i)) (base_at n list count i) count λ p. (every_entry_is_listed i l p).0
