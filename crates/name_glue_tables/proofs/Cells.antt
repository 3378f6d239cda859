-- The tables cell by cell. Assumes nothing.
use Prim.Native.Nat.{ℕ, zero, suc, ◌+◌, ◌*◌, ◌<◌}
use mathlib.Core.Path.{◌≡◌, refl, ap, sym, ◌∙◌}
use mathlib.Core.List.{List, [], ◌∷◌, ◌++◌}
use mathlib.Core.Logic.{⊎_elim}
use native.Mathlib.Nat.{not-suc-le-zero, le_of_suc-le-suc, eq-or-lt_of_le, add-zero}
use native.Mathlib.Omega.{arith}
use lib.ListN.{get_or, get_or-append}
use lib.Seq.{get_or_at, get_or-append-add}
use Rattle.units.specs.Glues.{five_of}
use Rattle.name_glues.specs.Names.{GlueNames}
use Rattle.name_glues.specs.Glues.{glue_at}
use Rattle.name_glue_tables.specs.Tables.{glues_of_strand, strand_table, scaffold_table}
use Rattle.name_glue_tables.proofs.Filling.{length_strands, length_scaffold}

module _ (n : GlueNames) (bases : List ℕ) (count : ℕ) where
  -- A bay's place holds the glue of the bay's entry.
  pub bay_cell : (from bays bay : ℕ) → bay < bays → get_or (scaffold_table n bases count from bays) bay 0 ≡ glue_at n bases count (from + bay)
  unfolding scaffold_table
  bay_cell from zero bay l = absurd (not-suc-le-zero l)
  bay_cell from (suc bays) bay l =
      let table = scaffold_table n bases count from bays in
      let last = glue_at n bases count (from + bays) in
      ⊎_elim (λ e. get_or_at table last [] 0 bay (length_scaffold n bases count from bays ∙ sym e) ∙ ap (λ b. glue_at n bases count (from + b)) (sym e))
      (λ h. get_or-append table (last ∷ []) 0 bay (omega (arith, length_scaffold n bases count from bays)) ∙ bay_cell from bays bay h)
      (eq-or-lt_of_le (le_of_suc-le-suc l))

  zeros : (side : ℕ) → get_or (five_of (glues_of_strand n bases count 0)) side 0 ≡ 0
  zeros zero = refl
  zeros (suc zero) = refl
  zeros (suc (suc zero)) = refl
  zeros (suc (suc (suc zero))) = refl
  zeros (suc (suc (suc (suc zero)))) = refl
  zeros (suc (suc (suc (suc (suc side))))) = refl

  five_cells : (s side : ℕ) → side < 5 → get_or (five_of (glues_of_strand n bases count (suc s))) side 0 ≡ glue_at n bases count (s * 5 + side)
  five_cells s zero h = rw (add-zero (s * 5))
  five_cells s (suc zero) h = refl
  five_cells s (suc (suc zero)) h = refl
  five_cells s (suc (suc (suc zero))) h = refl
  five_cells s (suc (suc (suc (suc zero)))) h = refl
  five_cells s (suc (suc (suc (suc (suc side))))) h = absurd (omega arith)

  -- the five places of strand s hold its record
  of_strand : (strands s side : ℕ) → s < strands → side < 5 → get_or (strand_table n bases count strands) (s * 5 + side) 0 ≡ get_or (five_of (glues_of_strand n bases count s)) side 0
  unfolding strand_table
  of_strand zero s side l h = absurd (not-suc-le-zero l)
  of_strand (suc strands) s side l h =
      let table = strand_table n bases count strands in
      let five = five_of (glues_of_strand n bases count strands) in
      let long = length_strands n bases count strands in
      ⊎_elim
      (λ e. ap (λ k. get_or (table ++ five) (k * 5 + side) 0) e ∙ ap (λ k. get_or (table ++ five) (k + side) 0) (sym long) ∙ get_or-append-add table five side 0
      ∙ ap (λ k. get_or (five_of (glues_of_strand n bases count k)) side 0) (sym e))
      (λ b. get_or-append table five 0 (s * 5 + side) (omega (arith, long)) ∙ of_strand strands s side b h)
      (eq-or-lt_of_le (le_of_suc-le-suc l))

  -- Strand 0's five places hold 0.
  pub no_strand_cell : (strands side : ℕ) → 0 < strands → side < 5 → get_or (strand_table n bases count strands) side 0 ≡ 0
  no_strand_cell strands side l h =
      let first : side ≡ 0 * 5 + side = omega arith in
      ap (λ k. get_or (strand_table n bases count strands) k 0) first ∙ of_strand strands 0 side l h ∙ zeros side

  -- The places of strand s + 1 hold the glues of the five entries from 5s on.
  pub strand_cell : (strands s side : ℕ) → suc s < strands → side < 5 → get_or (strand_table n bases count strands) (suc s * 5 + side) 0 ≡ glue_at n bases count (s * 5 + side)
  strand_cell strands s side l h = of_strand strands (suc s) side l h ∙ five_cells s side h
