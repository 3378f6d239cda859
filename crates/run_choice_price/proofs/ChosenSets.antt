-- The sets under a choice: the chosen bay has the strand alone, or nothing where it is not legal there without constraints, and every other bay
-- the set that it had. Assumes nothing.
use Prim.Native.Nat.{ℕ, ◌*◌, ◌^◌, ◌≤◌, ◌<◌}
use mathlib.Core.Path.{◌≡◌, refl, sym, ◌∙◌, ap}
use mathlib.Core.Bool.{Bool, true, false, cond, ◌&&◌}
use mathlib.Core.List.{List}
use native.Mathlib.Nat.{lt_of_lt_of_le}
use native.Mathlib.Decide.{ℕ_discrete}
use native.Mathlib.Omega.{arith}
use lib.Dec.{eqb}
use lib.ListN.{length, get_or, set, take, length-set}
use lib.Seq.{ext_get_or, take-set-lt, get_or-set_same, get_or-set_other}
use borrow.Author.Tests.{eqb-true, eq-eqb, ne_eqb}
use Rattle.units.specs.Limits.{most_strands}
use Rattle.units.specs.declared.refusal.Refusal.TheVariants.{NoLegalStrand}
use Rattle.units.specs.Refusals.{passes, refuses}
use Rattle.units.proofs.Tests.{both, and_false}
use Rattle.sets.specs.Set.{has, word}
use Rattle.sets.proofs.Words.{word_same, has_word}
use Rattle.sets.proofs.Operations.{word_none, word_only}
use Rattle.bay_system.specs.System.{System, bays, system_verdict}
use Rattle.bay_system.proofs.Fine.{fine}
use Rattle.bay_lists.specs.Lists.{Constraints, absent}
use Rattle.bay_lists.proofs.Restricting.{and_true, kept_of}
use Rattle.bay_legal_at.specs.Legal.{is_permitted, is_legal, set_at}
use Rattle.bay_legal_at.proofs.StrandBelow.{strand_below}
use Rattle.bay_scan_order.specs.Scan.{bay_at}
use Rattle.bay_legal.specs.Sets.{sets_to, first_empty, empty_verdict}
use Rattle.bay_legal.proofs.Fronts.{length_sets}
use Rattle.bay_legal.specs.Seven.{SevenTheorem}
use Rattle.bay_legal.proofs.Seven.{FirstWithout, seven, set_of_bay, seven_exactly}
use Rattle.run_choice_price.specs.Choice.{chosen_legal, chosen_sets}

-- ---- one set of a table changed
module _ (legal other : ℕ → ℕ → Bool) (n bay w : ℕ) (h : bay < n) (own : w ≡ word (other bay) 64)
    (rest : (b : ℕ) → (b ≡ bay → ⊥) → (t : ℕ) → other b t ≡ legal b t) where
  at : (b : ℕ) → b < n → Dec (b ≡ bay) → get_or (set (sets_to legal n) bay w) b 0 ≡ get_or (sets_to other n) b 0
  at b l (yes e) =
      let long : bay < length (sets_to legal n) = omega (arith, h, length_sets legal n) in
      ap (λ (k : ℕ). get_or (set (sets_to legal n) bay w) k 0) e ∙ get_or-set_same (sets_to legal n) bay w 0 long ∙ own
      ∙ ap (λ (k : ℕ). word (other k) 64) (sym e) ∙ sym (set_of_bay other n b l)
  at b l (no e) =
      get_or-set_other (sets_to legal n) bay b w 0 e ∙ set_of_bay legal n b l
      ∙ word_same (legal b) (other b) 64 (λ t k. sym (rest b e t)) ∙ sym (set_of_bay other n b l)

  one_changed : set (sets_to legal n) bay w ≡ sets_to other n
  one_changed =
      let long = length-set (sets_to legal n) bay w ∙ length_sets legal n in
      ext_get_or 0 (set (sets_to legal n) bay w) (sets_to other n) (long ∙ sym (length_sets other n)) (λ b l. at b (omega (arith, l, long)) (ℕ_discrete b bay))

  pub table_changed : (table : List ℕ) → take n table ≡ sets_to legal n → take n (set table bay w) ≡ sets_to other n
  table_changed table e = take-set-lt n table bay w h ∙ ap (λ (l : List ℕ). set l bay w) e ∙ one_changed

-- ---- what may lie on the bays
module _ (s : System) (c : Constraints) (chosen strand : ℕ) where
  abbrev may : ℕ → Bool
  may t = is_legal s absent chosen t

  pub there : (t : ℕ) → chosen_legal s c chosen strand chosen t ≡ (may t && eqb t strand)
  there t = ap (λ (b : Bool). cond b (may t && eqb t strand) (is_legal s c chosen t)) (eq-eqb chosen chosen refl)

  pub elsewhere : (bay : ℕ) → (bay ≡ chosen → ⊥) → (t : ℕ) → chosen_legal s c chosen strand bay t ≡ is_legal s c bay t
  elsewhere bay n t = ap (λ (b : Bool). cond b (is_legal s absent bay t && eqb t strand) (is_legal s c bay t)) (ne_eqb bay chosen n)

  -- the set of the chosen bay as the code makes it: what the bay permits, and the strand alone, cut
  pub there_word : {a b w : ℕ} → a ≡ word (is_permitted s chosen) 64 → b ≡ word (λ t. eqb t strand) 64 → w ≡ word (λ t. has a t && has b t) 64
      → w ≡ word (chosen_legal s c chosen strand chosen) 64
  there_word {a} {b} e f made =
      kept_of may (has b) (e ∙ word_same (is_permitted s chosen) may 64 (λ t h. sym (and_true (is_permitted s chosen t)))) made
      ∙ word_same (λ t. may t && has b t) (chosen_legal s c chosen strand chosen) 64
      (λ t h. ap (λ (x : Bool). may t && x) (ap (λ (x : ℕ). has x t) f ∙ has_word (λ u. eqb u strand) 64 t h) ∙ sym (there t))

  -- what may lie on a bay is a strand of the system
  pub chosen_below : (bay t : ℕ) → chosen_legal s c chosen strand bay t ≡ true → t < s.sizes.strands
  chosen_below bay t e = by (eqb bay chosen) e
    where
      by : (b : Bool) → cond b (is_legal s absent bay t && eqb t strand) (is_legal s c bay t) ≡ true → t < s.sizes.strands
      by true q = strand_below s absent bay t (both (is_legal s absent bay t) (eqb t strand) q).0
      by false q = strand_below s c bay t q

  -- ---- the sets
  pub other_sets : (bay : ℕ) → bay < bays s.sizes → (bay ≡ chosen → ⊥) → get_or (chosen_sets s c chosen strand) bay 0 ≡ set_at s c bay
  other_sets bay h n =
      set_of_bay (chosen_legal s c chosen strand) (bays s.sizes) bay h
      ∙ word_same (chosen_legal s c chosen strand bay) (is_legal s c bay) 64 (λ t k. elsewhere bay n t)

  module _ (inside : chosen < bays s.sizes) where
    -- the strand alone, as far as the bay permits it without constraints
    alone : (b : Bool) → may strand ≡ b → (t : ℕ) → chosen_legal s c chosen strand chosen t ≡ (b && eqb t strand)
    alone b e t = there t ∙ by (eqb t strand) refl
      where
        by : (same : Bool) → eqb t strand ≡ same → (may t && same) ≡ (b && same)
        by true q = ap (λ (x : Bool). x && true) (ap may (eqb-true t strand q) ∙ e)
        by false q = and_false (may t) ∙ sym (and_false b)

    set_is : (b : Bool) → may strand ≡ b → get_or (chosen_sets s c chosen strand) chosen 0 ≡ word (λ t. b && eqb t strand) 64
    set_is b e =
        set_of_bay (chosen_legal s c chosen strand) (bays s.sizes) chosen inside
        ∙ word_same (chosen_legal s c chosen strand chosen) (λ t. b && eqb t strand) 64 (λ t k. alone b e t)

    -- a strand that is legal there without constraints
    pub chosen_set : s.sizes.strands ≤ most_strands → may strand ≡ true → get_or (chosen_sets s c chosen strand) chosen 0 ≡ 2 ^ strand
    chosen_set few e = set_is true e ∙ word_only 64 strand (lt_of_lt_of_le (strand_below s absent chosen strand e) few)

    -- and one that is not
    pub nothing_left : may strand ≡ false → get_or (chosen_sets s c chosen strand) chosen 0 ≡ 0
    nothing_left e = set_is false e ∙ word_none 64

    -- then 7 is refused, with the first bay in scan order that has no strand left
    pub seven_there : may strand ≡ false
        → let sets = chosen_sets s c chosen strand in
        let rows = s.sizes.rows in
        let cols = s.sizes.cols in
        let k = first_empty rows cols sets 0 (rows * cols) in
        (empty_verdict rows cols sets ≡ refuses (NoLegalStrand (bay_at rows cols k))) × FirstWithout rows cols sets 0 k
    seven_there e = seven s.sizes.rows s.sizes.cols (chosen_sets s c chosen strand) chosen inside (nothing_left e)

-- 7 under a choice comes exactly where the bay that it names is the first one in scan order that has no strand left
pub seven_of_a_choice : (s : System) (c : Constraints) (chosen strand : ℕ) → system_verdict s ≡ passes → SevenTheorem s.sizes (chosen_legal s c chosen strand)
seven_of_a_choice s c chosen strand e =
    seven_exactly s.sizes (chosen_legal s c chosen strand) (λ bay t is. omega (arith, chosen_below s c chosen strand bay t is, (fine s e).shape.sizes.strands))
