-- The numbers go by the names alone, in their order: what comes later, and where the names stand in their text, do not matter. Assumes nothing.
use Prim.Native.Nat.{ℕ, zero, suc, ◌+◌, ◌-◌, ◌≤◌, ◌<◌}
use mathlib.Core.Path.{◌≡◌, refl, ap, ap₂, sym, ◌∙◌}
use mathlib.Core.Bool.{Bool, true, false, cond, ◌&&◌}
use mathlib.Core.List.{List, [], ◌∷◌, ◌++◌}
use native.Mathlib.Nat.{le_step}
use native.Mathlib.Omega.{arith}
use lib.Dec.{eqb}
use lib.ListN.{length, get_or, take, drop, get_or-append, length-drop}
use lib.Seq.{take-append-le, drop-append-le}
use Rattle.text_entries.specs.Entries.{part}
use Rattle.text_entries.proofs.Bounds.{entry_starts, offset_within}
use Rattle.name_stars.specs.Stars.{base_of}
use Rattle.name_base_list.specs.Bases.{glue_of}
use Rattle.name_glues.specs.Names.{GlueNames, glue_names, name_at, is_present, GluesReadable}
use Rattle.name_new_bases.specs.Bases.{bases_of, is_new, firsts_to}
use Rattle.name_new_bases.proofs.Firsts.{brings, firsts_below, firsts_grow}
use Rattle.name_glue_numbers.proofs.Places.{base, place, place_in_table, place_is, place_only, place_stays}
use Rattle.name_glue_numbers.proofs.Brought.{covers}
use Rattle.name_glue_numbers.proofs.Numbers.{glue}

-- Two requests whose first k entries have the same names.
pub record Alike (a b : GlueNames) (k : ℕ) : Type 0 where
  pub presence : (i : ℕ) → i < k → is_present a i ≡ is_present b i
  pub name : (i : ℕ) → i < k → name_at a i ≡ name_at b i

-- the glue of an entry, by the place of its base
by_place : (n : GlueNames) (k i : ℕ) → glue n k i ≡ cond (is_present n i) (glue_of (place n (firsts_to n k) i) (name_at n i)) 0
by_place n k i = ap (λ r. cond (is_present n i) (glue_of r (name_at n i)) 0) (place_in_table n (firsts_to n k) i)

where_present : (t : Bool) {x y : ℕ} → (t ≡ true → x ≡ y) → cond t x 0 ≡ cond t y 0
where_present true f = f refl
where_present false f = refl

module _ (a b : GlueNames) where
  same_place : (k : ℕ) → Alike a b k → (es : List ℕ) → ((j : ℕ) → j < length es → get_or es j 0 < k) → (i : ℕ) → i < k → place a es i ≡ place b es i
  same_place k s es there i l =
      let f = place_is b es i in
      let equal : (j : ℕ) → j < k → base a j ≡ base b j = λ j h. ap base_of (s.name j h) in
      place_only a es i
      (record {
        to = f.to;
        same = λ m. equal (get_or es (place b es i) 0) (there (place b es i) m) ∙ f.same m ∙ sym (equal i l);
        others = λ j m e. f.others j m (sym (equal (get_or es j 0) (there j (omega (arith, f.to)))) ∙ e ∙ equal i l);
      })

  same_new : (k : ℕ) → Alike a b (suc k) → firsts_to a k ≡ firsts_to b k → brings a k ≡ brings b k
  same_new k s e =
      let es = firsts_to b k in
      let below : (j : ℕ) → j < length es → get_or es j 0 < suc k = λ j l. le_step (firsts_below b k j l) in
      ap (λ fs. is_new a (bases_of a fs) (length fs) k) e
      ∙ ap₂ (λ t r. t && eqb r (length es)) (s.presence k (omega arith)) (same_place (suc k) s es below k (omega arith))

  same_firsts : (k : ℕ) → Alike a b k → firsts_to a k ≡ firsts_to b k
  unfolding firsts_to
  same_firsts zero s = refl
  same_firsts (suc k) s =
      let before = same_firsts k (record { presence = λ i l. s.presence i (omega arith); name = λ i l. s.name i (omega arith) }) in
      ap₂ (λ es t. es ++ cond t (k ∷ []) []) before (same_new k s before)

  -- The number of an entry goes by the names up to it: it is the same whatever entries come later.
  pub later_names_do_not_matter : (k m i : ℕ) → Alike a b k → k ≤ m → i < k → glue a k i ≡ glue b m i
  later_names_do_not_matter k m i s l h =
      let es = firsts_to b k in
      let grow = firsts_grow b k (m - k) in
      let all : k + (m - k) ≡ m = omega arith in
      let longer : firsts_to b m ≡ es ++ grow.0 = sym (ap (firsts_to b) all) ∙ grow.1 in
      let here : place a (firsts_to a k) i ≡ place b es i = ap (λ fs. place a fs i) (same_firsts k s) ∙ same_place k s es (firsts_below b k) i h in
      by_place a k i
      ∙ ap₂ (λ t r. cond t (glue_of r (name_at a i)) 0) (s.presence i h) here
      ∙ ap (λ name. cond (is_present b i) (glue_of (place b es i) name) 0) (s.name i h)
      ∙ where_present (is_present b i) (λ p. ap (λ r. glue_of r (name_at b i)) (sym (ap (λ fs. place b fs i) longer ∙ place_stays b es grow.0 i (covers b k i h p))))
      ∙ sym (by_place b m i)

-- Names added behind others leave those as they are.
abbrev pub followed : GlueNames → (text offsets present : List ℕ) → GlueNames
followed n text offsets present = glue_names (n.text ++ text) (n.offsets ++ offsets) (n.present ++ present)

module _ (n : GlueNames) (r : GluesReadable n) (text offsets present : List ℕ) where
  part_stays : (from to : ℕ) → from ≤ to → to ≤ length n.text → part n.text from to ≡ part (n.text ++ text) from to
  part_stays from to h l =
      sym (ap (take (to - from)) (drop-append-le from n.text text (omega arith)) ∙ take-append-le (to - from) (drop from n.text) text (rw (length-drop from n.text) (omega arith)))

  pub followed_alike : Alike n (followed n text offsets present) (length n.present)
  followed_alike = record { presence = there; name = same }
    where
      there : (i : ℕ) → i < length n.present → is_present n i ≡ is_present (followed n text offsets present) i
      there i l = ap (λ byte. eqb byte 1) (sym (get_or-append n.present present 0 i l))

      same : (i : ℕ) → i < length n.present → name_at n i ≡ name_at (followed n text offsets present) i
      same i l =
          let end = length n.text in
          let last : i + 1 < length n.offsets = omega (arith, r.counted) in
          part_stays (get_or n.offsets i 0) (get_or n.offsets (i + 1) 0) (entry_starts end n.offsets i r.fits last) (offset_within end n.offsets (i + 1) r.fits last)
          ∙ ap₂ (part (n.text ++ text)) (sym (get_or-append n.offsets offsets 0 i (omega arith))) (sym (get_or-append n.offsets offsets 0 (i + 1) last))

  -- So the number of an entry is the same in a longer list of entries.
  pub same_in_a_longer_list : (i m : ℕ) → i < length n.present → length n.present ≤ m → glue n (length n.present) i ≡ glue (followed n text offsets present) m i
  same_in_a_longer_list i m l h = later_names_do_not_matter n (followed n text offsets present) (length n.present) m i followed_alike h l
