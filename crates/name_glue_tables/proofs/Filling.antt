-- How the tables grow by one strand and by one bay. Assumes nothing.
use Prim.Native.Nat.{ℕ, zero, suc, ◌+◌, ◌*◌, ◌-◌, ◌<◌}
use mathlib.Core.Path.{◌≡◌, refl, ap, ap₂, sym, ◌∙◌}
use mathlib.Core.List.{List, [], ◌∷◌, ◌++◌}
use native.Mathlib.Numerals.{add-one, sub-one}
use native.Mathlib.Omega.{arith}
use lib.ListN.{length, set, take, drop, length-append}
use Rattle.units.specs.declared.StrandGlues.{StrandGlues}
use Rattle.units.specs.Glues.{five_of}
use Rattle.name_glues.specs.Names.{GlueNames}
use Rattle.name_glues.specs.Glues.{glue_at}
use Rattle.name_glue_tables.specs.Tables.{five_from, glues_of_strand, strand_table, scaffold_table}
use Rattle.name_glue_tables.proofs.Stores.{stretch_behind, store_behind}

module _ (n : GlueNames) (bases : List ℕ) (count : ℕ) where
  pub strand_above : (s : ℕ) → (s ≡ 0 → ⊥) → glues_of_strand n bases count s ≡ five_from n bases count ((s - 1) * 5)
  strand_above zero h = absurd (h refl)
  strand_above (suc s) h = rw (sub-one (suc s))

  pub strands_more : (s : ℕ) → strand_table n bases count (s + 1) ≡ strand_table n bases count s ++ five_of (glues_of_strand n bases count s)
  unfolding strand_table
  strands_more s = rw (add-one s)

  pub length_strands : (s : ℕ) → length (strand_table n bases count s) ≡ s * 5
  unfolding strand_table
  length_strands zero = refl
  length_strands (suc s) = rw (length-append (strand_table n bases count s) (five_of (glues_of_strand n bases count s))) (omega (arith, length_strands s))

  pub strand_turn : (s : ℕ) (old : List ℕ) {table new : List ℕ} {strand : StrandGlues} → table ≡ strand_table n bases count s ++ drop (s * 5) old
      → strand ≡ glues_of_strand n bases count s → new ≡ take (s * 5) table ++ (five_of strand ++ drop (s * 5 + 5) table)
      → new ≡ strand_table n bases count (s + 1) ++ drop ((s + 1) * 5) old
  strand_turn s old t g w =
      let five = five_of (glues_of_strand n bases count s) in
      let places : (s + 1) * 5 ≡ s * 5 + 5 = omega arith in
      w
      ∙ ap₂ (λ l strand. take (s * 5) l ++ (five_of strand ++ drop (s * 5 + 5) l)) t g
      ∙ stretch_behind (strand_table n bases count s) old (s * 5) (length_strands s) five 5
      ∙ ap₂ (λ front k. front ++ drop k old) (sym (strands_more s)) (sym places)

  module _ (from : ℕ) where
    pub scaffold_more : (bay : ℕ) → scaffold_table n bases count from (bay + 1) ≡ scaffold_table n bases count from bay ++ (glue_at n bases count (from + bay) ∷ [])
    unfolding scaffold_table
    scaffold_more bay = rw (add-one bay)

    pub length_scaffold : (bays : ℕ) → length (scaffold_table n bases count from bays) ≡ bays
    unfolding scaffold_table
    length_scaffold zero = refl
    length_scaffold (suc bay) = rw (length-append (scaffold_table n bases count from bay) (glue_at n bases count (from + bay) ∷ [])) (omega (arith, length_scaffold bay))

    pub bay_turn : (bay : ℕ) (old : List ℕ) {table : List ℕ} {glue : ℕ} → table ≡ scaffold_table n bases count from bay ++ drop bay old
        → glue ≡ glue_at n bases count (from + bay) → bay < length old
        → set table bay glue ≡ scaffold_table n bases count from (bay + 1) ++ drop (bay + 1) old
    bay_turn bay old t g h =
        ap₂ (λ l glue. set l bay glue) t g
        ∙ store_behind (scaffold_table n bases count from bay) old bay (length_scaffold bay) (glue_at n bases count (from + bay)) h
        ∙ ap (λ front. front ++ drop (bay + 1) old) (sym (scaffold_more bay))
