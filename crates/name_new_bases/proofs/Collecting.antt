-- How the bases are collected, entry by entry. Assumes nothing.
use Prim.Native.Nat.{ℕ, suc, ◌+◌, ◌*◌, ◌-◌, ◌≤◌, ◌<◌}
use mathlib.Core.Path.{◌≡◌, refl, ap, ap₂, sym, ◌∙◌}
use mathlib.Core.Bool.{Bool, true, false, not, ◌&&◌, true≢false}
use mathlib.Core.List.{List, [], ◌∷◌, ◌++◌, append_assoc}
use native.Mathlib.Nat.{lt_of_not-le}
use native.Mathlib.Decide.{dec_le}
use native.Mathlib.Omega.{arith}
use lib.Dec.{eqb}
use lib.ListN.{length, get_or, take, drop, replicate, length-append, length-replicate, get_or-append}
use lib.Seq.{take-append_seam, drop-append-add, get_or_at}
use borrow.Author.Tests.{lt-ltb, le-ltb, eq-eqb, ne_eqb}
use Rattle.units.specs.Limits.{most_glues, most_bases, base_numbers}
use Rattle.std.specs.Prelude.{Ok, Err, Option, is_some}
use Rattle.text_entries.specs.InOrder.{found}
use Rattle.text_entries.proofs.InOrder.{found_at, found_nowhere}
use Rattle.units.specs.declared.refusal.Refusal.{Refusal}
use Rattle.units.specs.declared.refusal.Refusal.TheVariants.{TooManyBases}
use Rattle.units.specs.Refusals.{passes, refuses, answer}
use Rattle.text_entries.proofs.Bounds.{entry_starts, offset_within, length_part}
use Rattle.name_stars.specs.Stars.{base_length, base_of}
use Rattle.name_stars.proofs.BeforeStars.{base_at_most}
use Rattle.name_base_list.proofs.Within.{all_fit}
use Rattle.name_glues.specs.Names.{GlueNames, name_at, is_present, GluesReadable}
use Rattle.name_base_list.specs.Bases.{Searchable}
use Rattle.name_new_bases.specs.Bases.{bases_of, is_new, firsts_to, bases_table, count_verdict}
use Rattle.name_new_bases.specs.Steps.{base_list, Holds}
use Rattle.name_new_bases.proofs.Firsts.{length_bases, bases_append, base_offset, base_size, brings, firsts_kept, firsts_more, firsts_below, firsts_grow}
use Rattle.name_new_bases.proofs.Front.{find_front, fit_front}

-- 127 bases pass, and the 128th entry that brings one is refused
pub few_pass : (es : List ℕ) → length es ≤ most_bases → count_verdict es ≡ passes
few_pass es h = rw (le-ltb most_glues (length es * 2 + 1) (omega arith))

pub many_refused : (es : List ℕ) → most_bases < length es → count_verdict es ≡ refuses (TooManyBases (get_or es most_bases 0))
many_refused es h = rw (lt-ltb most_glues (length es * 2 + 1) (omega arith))

-- more than 127 were brought where they are refused, and a refusal stays, whatever is brought later
refused_many : (es : List ℕ) {r : Refusal} → count_verdict es ≡ refuses r → most_bases < length es
refused_many es e = elim (dec_le (length es) most_bases) [ yes few ↦ let pass = few_pass es few in cc | no many ↦ lt_of_not-le many ]

refused_stays : (es rest : List ℕ) {r : Refusal} → count_verdict es ≡ refuses r → count_verdict (es ++ rest) ≡ count_verdict es
refused_stays es rest e =
    let many = refused_many es e in
    many_refused (es ++ rest) (rw (length-append es rest) (omega arith))
    ∙ ap (λ entry. refuses (TooManyBases entry)) (get_or-append es rest 0 most_bases many)
    ∙ sym (many_refused es many)

-- what a search did not find would be the next base
pub none_found : (answer : Bool) {count place : ℕ} {r : Option ℕ} → r ≡ found count place → is_some r ≡ not answer → place ≤ count → answer ≡ eqb place count
none_found true {count} {place} e s w =
    elim (dec_le count place) [ yes h ↦ sym (eq-eqb place count (omega arith)) | no h ↦ absurd (true≢false (ap is_some (found_at refl (lt_of_not-le h) ∙ sym e) ∙ s)) ]
none_found false {count} {place} e s w =
    elim (dec_le count place) [ yes h ↦ absurd (true≢false (sym s ∙ ap is_some (e ∙ sym (found_nowhere h)))) | no h ↦ sym (ne_eqb place count λ q. omega (arith, q, lt_of_not-le h)) ]

-- two numbers behind k others, in a list of zeros from there on
put_behind : (front : List ℕ) (a b k m : ℕ) → length front ≡ k
    → take k (front ++ replicate (suc (suc m)) 0) ++ (a ∷ b ∷ drop (k + 2) (front ++ replicate (suc (suc m)) 0)) ≡ (front ++ (a ∷ b ∷ [])) ++ replicate m 0
put_behind front a b k m e =
    rw (← e, take-append_seam front (replicate (suc (suc m)) 0), drop-append-add front (replicate (suc (suc m)) 0) 2)
    (sym (append_assoc front (a ∷ b ∷ []) (replicate m 0)))

module _ (n : GlueNames) where
  pub begins : Holds n 0 (replicate base_numbers 0) 0
  unfolding firsts_to bases_of
  begins = record { few = omega arith; counted = refl; list = refl }

  -- the search in the table is that in the list of bases
  same_new : (i c : ℕ) (bases : List ℕ) → Holds n i bases c → is_new n bases c i ≡ brings n i
  same_new i c bases h =
      let es = firsts_to n i in
      ap₂ (λ list count. is_new n list count i) h.list h.counted
      ∙ ap (λ place. is_present n i && eqb place (length es))
      (find_front (bases_of n es) (replicate (base_numbers - length es * 2) 0) n.text (base_of (name_at n i)) (length es) (omega (arith, length_bases n es)))

  -- bases of entries that are there lie within the text
  inside : GluesReadable n → (e : ℕ) → e < length n.present → get_or n.offsets e 0 + base_length (name_at n e) ≤ length n.text
  inside r e l =
      let text = n.text in
      let from = get_or n.offsets e 0 in
      let to = get_or n.offsets (e + 1) 0 in
      let last : e + 1 < length n.offsets = omega (arith, r.counted) in
      let rises : from ≤ to = entry_starts (length text) n.offsets e r.fits last in
      let ends : to ≤ length text = offset_within (length text) n.offsets (e + 1) r.fits last in
      omega (arith, base_at_most (name_at n e), length_part text from to rises ends)

  table_searchable : (es : List ℕ) → GluesReadable n → length es ≤ most_bases → ((j : ℕ) → j < length es → get_or es j 0 < length n.present) → Searchable n.text (bases_table n es) (length es)
  table_searchable es r few there =
      let twice = length_bases n es in
      record {
        few = few;
        held = rw (length-append (bases_of n es) (replicate (base_numbers - length es * 2) 0)) (omega (arith, twice));
        within = fit_front (bases_of n es) (replicate (base_numbers - length es * 2) 0) (length n.text) (length es) (omega (arith, twice))
            ∙ all_fit (length n.text) (bases_of n es) (length es) λ j l. rw (base_offset n es j l, base_size n es j l) (inside r (get_or es j 0) (there j l));
      }

  pub searchable : (k c : ℕ) (bases : List ℕ) → GluesReadable n → k ≤ length n.present → Holds n k bases c → Searchable n.text bases c
  searchable k c bases r l h =
      rw (h.list, h.counted) (table_searchable (firsts_to n k) r (omega (arith, h.few, h.counted)) λ j m. omega (arith, firsts_below n k j m))

  -- bases that are held are answered
  pub collects : (k : ℕ) {c : ℕ} {bases : List ℕ} → Holds n k bases c → Ok (record { numbers = bases; count = c }) ≡ answer (count_verdict (firsts_to n k)) (base_list n (firsts_to n k))
  collects k h = rw (few_pass (firsts_to n k) (omega (arith, h.few, h.counted)), h.counted, h.list)

  -- and so is a refusal, whatever comes later
  pub stops : (i k : ℕ) {r : Refusal} → count_verdict (firsts_to n i) ≡ refuses r → i ≤ k → Err r ≡ answer (count_verdict (firsts_to n k)) (base_list n (firsts_to n k))
  stops i k e l =
      let grow = firsts_grow n i (k - i) in
      let all : i + (k - i) ≡ k = omega arith in
      let later = sym (ap (firsts_to n) all) ∙ grow.1 in
      rw (ap count_verdict later ∙ refused_stays (firsts_to n i) grow.0 e ∙ e)

  -- one entry more in the table
  grown : (es : List ℕ) (i : ℕ) → length es < most_bases
      → take (length es + length es) (bases_table n es) ++ (get_or n.offsets i 0 ∷ base_length (name_at n i) ∷ drop (length es + length es + 2) (bases_table n es)) ≡ bases_table n (es ++ (i ∷ []))
  unfolding bases_of
  grown es i l =
      let k = length es + length es in
      let a = get_or n.offsets i 0 in
      let b = base_length (name_at n i) in
      let m = base_numbers - length (es ++ (i ∷ [])) * 2 in
      let two : base_numbers - length es * 2 ≡ suc (suc m) = omega (arith, length-append es (i ∷ [])) in
      ap (λ zeros. take k (bases_of n es ++ replicate zeros 0) ++ (a ∷ b ∷ drop (k + 2) (bases_of n es ++ replicate zeros 0))) two
      ∙ put_behind (bases_of n es) a b k m (omega (arith, length_bases n es))
      ∙ ap (λ front. front ++ replicate m 0) (sym (bases_append n es (i ∷ [])))

  module _ (i c : ℕ) (bases : List ℕ) (h : Holds n i bases c) where
    pub kept : is_new n bases c i ≡ false → Holds n (i + 1) bases c
    kept e =
        let same = firsts_kept n i (sym (same_new i c bases h) ∙ e) in
        record { few = h.few; counted = h.counted ∙ sym (ap length same); list = h.list ∙ sym (ap (bases_table n) same) }

    -- there is room for one base more
    pub room : (c ≡ most_bases → ⊥) → c + c + 2 ≤ length bases
    room l =
        let es = firsts_to n i in
        let zeros = base_numbers - length es * 2 in
        rw (h.list, length-append (bases_of n es) (replicate zeros 0), length-replicate {A = ℕ} zeros 0) (omega (arith, length_bases n es, h.few, h.counted))

    pub full : is_new n bases c i ≡ true → c ≡ most_bases → count_verdict (firsts_to n (i + 1)) ≡ refuses (TooManyBases i)
    full e l =
        let es = firsts_to n i in
        let one = firsts_more n i (sym (same_new i c bases h) ∙ e) in
        let size : length es ≡ most_bases = sym h.counted ∙ l in
        rw one (many_refused (es ++ (i ∷ [])) (rw (length-append es (i ∷ [])) (omega arith)) ∙ ap (λ entry. refuses (TooManyBases entry)) (get_or_at es i [] 0 most_bases size))

    pub more : is_new n bases c i ≡ true → (c ≡ most_bases → ⊥) → {new : List ℕ} {count : ℕ} (offset size : ℕ) → offset ≡ get_or n.offsets i 0 → size ≡ base_length (name_at n i)
        → new ≡ take (c + c) bases ++ (offset ∷ size ∷ drop (c + c + 2) bases) → count ≡ c + 1 → Holds n (i + 1) new count
    more e l offset size o s w counted =
        let es = firsts_to n i in
        let one = firsts_more n i (sym (same_new i c bases h) ∙ e) in
        let written = rw (o, s, h.list, h.counted) at w in
        record {
          few = omega (arith, h.few);
          counted = rw (one, length-append es (i ∷ [])) (omega (arith, h.counted));
          list = written ∙ grown es i (omega (arith, h.few, h.counted)) ∙ sym (ap (bases_table n) one);
        }
