-- The sets bay by bay; and refusal 7 comes exactly where a bay has no legal strand, with the first such bay in scan order: the theorem stands last.
-- Assumes nothing.
use Prim.Native.Nat.{ℕ, zero, suc, ◌+◌, ◌*◌, ◌≤◌, ◌<◌}
use mathlib.Core.Path.{◌≡◌, refl, sym, ◌∙◌, ap, subst}
use mathlib.Core.Bool.{Bool, true, false, cond, true≢false}
use mathlib.Core.List.{List, [], ◌∷◌, ◌++◌}
use native.Mathlib.Decide.{dec_lt}
use native.Mathlib.Omega.{arith}
use lib.Dec.{eqb, ltb}
use lib.ListN.{get_or, get_or-append}
use lib.Seq.{get_or-append_seam}
use borrow.Author.Tests.{eqb-true, eqb-false, ltb-true, ltb-false, lt-ltb}
use Rattle.units.specs.declared.refusal.Refusal.TheVariants.{NoLegalStrand}
use Rattle.units.specs.Refusals.{passes, refuses, refuse_if}
use Rattle.sets.specs.Set.{has, word, next_of}
use Rattle.sets.proofs.Bits.{has_beyond}
use Rattle.sets.proofs.NextMember.{is_false, next}
use Rattle.sets.proofs.Operations.{word_none}
use Rattle.sets.proofs.Words.{word_same, has_word}
use Rattle.bay_system.specs.declared.sizes.Sizes.{Sizes}
use Rattle.bay_system.specs.System.{System, system_verdict}
use Rattle.bay_system.proofs.Fine.{fine}
use Rattle.bay_lists.specs.Lists.{Constraints}
use Rattle.bay_legal_at.specs.Legal.{is_legal}
use Rattle.bay_legal_at.proofs.StrandBelow.{strand_below}
use Rattle.bay_scan_order.specs.Scan.{bay_at, number_at}
use Rattle.bay_scan_order.proofs.Scanned.{bay_inside, number_inside, scanned, numbered}
use Rattle.bay_legal.specs.Sets.{bays, sets_to, first_empty, empty_verdict}
use Rattle.bay_legal.specs.Seven.{SomeStrand, FirstWithoutStrand, seven_verdict, SevenTheorem}
use Rattle.bay_legal.proofs.Fronts.{length_sets}

module _ (rows cols : ℕ) (sets : List ℕ) where
  -- the set of the bay that is scanned as number k
  abbrev pub scanned_set : ℕ → ℕ
  scanned_set k = get_or sets (bay_at rows cols k) 0

  -- a number in the scan at which the set is empty, and before which none is
  pub record FirstWithout (from k : ℕ) : Type 0 where
    pub is_empty : scanned_set k ≡ 0
    pub none_before : (i : ℕ) → from ≤ i → i < k → scanned_set i ≡ 0 → ⊥

  -- one step of the search
  one_step : (i k : ℕ) (b : Bool) → eqb (scanned_set i) 0 ≡ b → (rest : ℕ) → (rest < suc i + k → FirstWithout (suc i) rest)
      → cond b i rest < i + suc k → FirstWithout i (cond b i rest)
  one_step i k true e rest later h = record { is_empty = eqb-true (scanned_set i) 0 e; none_before = λ j f l z. absurd (omega (arith, f, l)) }
  one_step i k false e rest later h =
      let found = later (omega (arith, h)) in record { is_empty = found.is_empty; none_before = λ j f l z. before found j f l z (eqb i j) refl }
    where
      before : FirstWithout (suc i) rest → (j : ℕ) → i ≤ j → j < rest → scanned_set j ≡ 0 → (b : Bool) → eqb i j ≡ b → ⊥
      before found j f l z true same = eqb-false (scanned_set i) 0 e (ap scanned_set (eqb-true i j same) ∙ z)
      before found j f l z false other = found.none_before j (omega (arith, f, eqb-false i j other)) l z

  first_without : (i k : ℕ) → first_empty rows cols sets i k < i + k → FirstWithout i (first_empty rows cols sets i k)
  unfolding first_empty
  first_without i zero h = absurd (omega (arith, h))
  first_without i (suc k) h = one_step i k (eqb (scanned_set i) 0) refl (first_empty rows cols sets (suc i) k) (first_without (suc i) k) h

  -- the search does not pass an empty set
  not_passed : (i j rest : ℕ) (b : Bool) → eqb (scanned_set i) 0 ≡ b → i ≤ j → scanned_set j ≡ 0 → (suc i ≤ j → rest ≤ j) → cond b i rest ≤ j
  not_passed i j rest true e h z later = h
  not_passed i j rest false e h z later = by (eqb i j) refl
    where
      by : (b : Bool) → eqb i j ≡ b → rest ≤ j
      by true same = absurd (eqb-false (scanned_set i) 0 e (ap scanned_set (eqb-true i j same) ∙ z))
      by false other = later (omega (arith, h, eqb-false i j other))

  not_after : (i k j : ℕ) → i ≤ j → j < i + k → scanned_set j ≡ 0 → first_empty rows cols sets i k ≤ j
  unfolding first_empty
  not_after i zero j h l z = absurd (omega (arith, h, l))
  not_after i (suc k) j h l z =
      not_passed i j (first_empty rows cols sets (suc i) k) (eqb (scanned_set i) 0) refl h z (λ m. not_after (suc i) k j m (omega (arith, l)) z)

  -- a bay without a legal strand is refused, and the bay that the refusal names is the first one in scan order
  pub seven : (bay : ℕ) → bay < rows * cols → get_or sets bay 0 ≡ 0
      → let k = first_empty rows cols sets 0 (rows * cols) in (empty_verdict rows cols sets ≡ refuses (NoLegalStrand (bay_at rows cols k))) × FirstWithout 0 k
  seven bay h z =
      let n = rows * cols in
      let k = first_empty rows cols sets 0 n in
      let at = number_at rows cols bay in
      let here : at < n = number_inside rows cols bay h in
      let none : scanned_set at ≡ 0 = ap (λ (b : ℕ). get_or sets b 0) (scanned rows cols bay h) ∙ z in
      let found : k < n = omega (arith, not_after 0 n at (omega arith) (omega (arith, here)) none, here) in
      (ap (λ (t : Bool). refuse_if t (NoLegalStrand (bay_at rows cols k))) (lt-ltb k n found), first_without 0 n (omega (arith, found)))

-- the set of a bay stands at the bay's place
pub set_of_bay : (legal : ℕ → ℕ → Bool) (n bay : ℕ) → bay < n → get_or (sets_to legal n) bay 0 ≡ word (legal bay) 64
unfolding sets_to
set_of_bay legal zero bay h = absurd (omega (arith, h))
set_of_bay legal (suc n) bay h = by (ltb bay n) refl (set_of_bay legal n bay)
  where
    by : (b : Bool) → ltb bay n ≡ b → (bay < n → get_or (sets_to legal n) bay 0 ≡ word (legal bay) 64) → get_or (sets_to legal n ++ (word (legal n) 64 ∷ [])) bay 0 ≡ word (legal bay) 64
    by true e before = get_or-append (sets_to legal n) (word (legal n) 64 ∷ []) 0 bay (omega (arith, ltb-true bay n e, length_sets legal n)) ∙ before (ltb-true bay n e)
    by false e before =
        let last : bay ≡ n = omega (arith, h, ltb-false bay n e) in
        ap (λ (k : ℕ). get_or (sets_to legal n ++ (word (legal n) 64 ∷ [])) k 0) (last ∙ sym (length_sets legal n)) ∙ get_or-append_seam (sets_to legal n) (word (legal n) 64) [] 0 ∙ ap (λ (k : ℕ). word (legal k) 64) (sym last)

-- ---- in the words of what is legal

-- a set without strands is 0, and 0 is without strands
no_strand : (p : ℕ → Bool) → ((t : ℕ) → p t ≡ false) → word p 64 ≡ 0
no_strand p none = word_same p (λ t. false) 64 (λ t h. none t) ∙ word_none 64

no_member : (p : ℕ → Bool) → word p 64 ≡ 0 → (t : ℕ) → t < 64 → p t ≡ false
no_member p e t h = sym (has_word p 64 t h) ∙ ap (λ (w : ℕ). has w t) e ∙ has_beyond 0 0 t (omega arith) (omega arith)

-- any other set has one, its lowest
some_member : (p : ℕ → Bool) → (word p 64 ≡ 0 → ⊥) → (t : ℕ) × (p t ≡ true)
some_member p some = by (dec_lt (next_of p 0 64) 64)
  where
    by : Dec (next_of p 0 64 < 64) → (t : ℕ) × (p t ≡ true)
    by (yes h) = (next_of p 0 64, ((next p 0 64).lands h).1)
    by (no h) = absurd (some (word_same p (λ t. false) 64 (λ t l. (next p 0 64).skips t (omega arith) (omega (arith, h, l))) ∙ word_none 64))

module _ (z : Sizes) (legal : ℕ → ℕ → Bool) (few : (bay strand : ℕ) → legal bay strand ≡ true → strand < 64) where
  abbrev sets : List ℕ
  sets = sets_to legal (bays z)

  -- the number in the scan of the first bay whose set is empty, if there is one
  abbrev found : ℕ
  found = first_empty z.rows z.cols sets 0 (bays z)

  none_legal : (bay : ℕ) → bay < bays z → get_or sets bay 0 ≡ 0 → (strand : ℕ) → legal bay strand ≡ false
  none_legal bay h e strand =
      is_false (legal bay strand)
      (λ is. true≢false (sym is ∙ no_member (legal bay) (sym (set_of_bay legal (bays z) bay h) ∙ e) strand (few bay strand is)))

  some_legal : (bay : ℕ) → bay < bays z → (get_or sets bay 0 ≡ 0 → ⊥) → SomeStrand legal bay
  some_legal bay h some = some_member (legal bay) (λ e. some (set_of_bay legal (bays z) bay h ∙ e))

  not_both : (bay : ℕ) → bay < bays z → SomeStrand legal bay → get_or sets bay 0 ≡ 0 → ⊥
  not_both bay h some e = true≢false (sym some.1 ∙ none_legal bay h e some.0)

  -- the bay that the search found is the first in scan order without a strand
  found_first : found < bays z → FirstWithoutStrand z legal (bay_at z.rows z.cols found)
  found_first h =
      let here = first_without z.rows z.cols sets 0 (bays z) (omega (arith, h)) in
      let inside = bay_inside z.rows z.cols found h in
      record {
        inside = inside;
        none_legal = none_legal (bay_at z.rows z.cols found) inside here.is_empty;
        some_before = λ other l before. some_legal other l
            (λ e. here.none_before (number_at z.rows z.cols other) (omega arith) (omega (arith, before, numbered z.rows z.cols found h))
            (ap (λ (b : ℕ). get_or sets b 0) (scanned z.rows z.cols other l) ∙ e));
      }

  -- the first in scan order without a strand is the bay that the search finds
  first_found : (bay : ℕ) → FirstWithoutStrand z legal bay → seven_verdict z legal ≡ refuses (NoLegalStrand bay)
  first_found bay f =
      let rows = z.rows in
      let cols = z.cols in
      let empty : get_or sets bay 0 ≡ 0 = set_of_bay legal (bays z) bay f.inside ∙ no_strand (legal bay) f.none_legal in
      let refused = seven rows cols sets bay f.inside empty in
      let number = number_inside rows cols bay f.inside in
      let here : scanned_set rows cols sets (number_at rows cols bay) ≡ 0 = ap (λ (b : ℕ). get_or sets b 0) (scanned rows cols bay f.inside) ∙ empty in
      let most : found ≤ number_at rows cols bay = not_after rows cols sets 0 (bays z) (number_at rows cols bay) (omega arith) (omega (arith, number)) here in
      let inside : found < bays z = omega (arith, most, number) in
      let same : found ≡ number_at rows cols bay = by most inside refused.1 (dec_lt found (number_at rows cols bay)) in
      refused.0 ∙ ap (λ (b : ℕ). refuses (NoLegalStrand b)) (ap (bay_at rows cols) same ∙ scanned rows cols bay f.inside)
    where
      by : found ≤ number_at z.rows z.cols bay → found < bays z → FirstWithout z.rows z.cols sets 0 found
          → Dec (found < number_at z.rows z.cols bay) → found ≡ number_at z.rows z.cols bay
      by most inside here (no h) = omega (arith, most, h)
      by most inside here (yes h) =
          let other = bay_at z.rows z.cols found in
          let on_grid = bay_inside z.rows z.cols found inside in
          absurd (not_both other on_grid (f.some_before other on_grid (omega (arith, h, numbered z.rows z.cols found inside))) here.is_empty)

  -- what the verdict tells of the search
  refused_found : (bay : ℕ) → seven_verdict z legal ≡ refuses (NoLegalStrand bay) → (b : Bool) → ltb found (bays z) ≡ b → FirstWithoutStrand z legal bay
  refused_found bay e true t =
      let same : refuses (NoLegalStrand (bay_at z.rows z.cols found)) ≡ refuses (NoLegalStrand bay) =
      sym (ap (λ (b : Bool). refuse_if b (NoLegalStrand (bay_at z.rows z.cols found))) t) ∙ e in
      subst (FirstWithoutStrand z legal) (cc) (found_first (ltb-true found (bays z) t))
  refused_found bay e false t =
      let never : passes ≡ refuses (NoLegalStrand bay) = sym (ap (λ (b : Bool). refuse_if b (NoLegalStrand (bay_at z.rows z.cols found))) t) ∙ e in
      cc

  passed_some : seven_verdict z legal ≡ passes → (bay : ℕ) → bay < bays z → SomeStrand legal bay
  passed_some e bay h =
      some_legal bay h
      (λ empty. let never : passes ≡ refuses (NoLegalStrand (bay_at z.rows z.cols found)) = sym e ∙ (seven z.rows z.cols sets bay h empty).0 in
      cc)

  some_passes : ((bay : ℕ) → bay < bays z → SomeStrand legal bay) → (b : Bool) → ltb found (bays z) ≡ b → seven_verdict z legal ≡ passes
  some_passes all true t =
      let f = found_first (ltb-true found (bays z) t) in
      let some = all (bay_at z.rows z.cols found) f.inside in
      absurd (true≢false (sym some.1 ∙ f.none_legal some.0))
  some_passes all false t = ap (λ (b : Bool). refuse_if b (NoLegalStrand (bay_at z.rows z.cols found))) t

  pub seven_exactly : SevenTheorem z legal
  seven_exactly =
      record {
        refused = λ bay. (λ e. refused_found bay e (ltb found (bays z)) refl, first_found bay);
        passed = (passed_some, λ all. some_passes all (ltb found (bays z)) refl);
      }

-- THE THEOREM of refusal 7, of a system that passed its tests
pub seven_of_a_system : (s : System) (c : Constraints) → system_verdict s ≡ passes → SevenTheorem s.sizes (is_legal s c)
seven_of_a_system s c e =
    seven_exactly s.sizes (is_legal s c) (λ bay strand is. omega (arith, strand_below s c bay strand is, (fine s e).shape.sizes.strands))
