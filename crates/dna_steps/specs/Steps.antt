-- The values of a step, two neighbouring letters read 5'→3', and the start term, as the Rust has them. Assumes nothing.
use Rattle.std.specs.Prelude.{ℕ, ◌+◌, ◌*◌}
use Rattle.std.specs.Float.{binary64}
use Rattle.std.specs.Float.Ieee.{add}
use Rattle.units.specs.declared.BaseEnergy.{BaseEnergy}
use Rattle.units.specs.Decimals.{plus, minus}
use Rattle.dna_letters.specs.declared.DnaNucleotideBase.{DnaNucleotideBase}
use Rattle.dna_letters.specs.declared.DnaNucleotideBase.TheVariants.{A, T, G, C}
use Rattle.dna_letters.specs.Bases.{index_of}

-- One step: −ΔG in hundredths of a kcal/mol, −ΔS in ten-thousandths of a kcal/(mol·K).
pub record Step : Type 0 where
  pub dg : ℕ
  pub ds : ℕ

abbrev step : ℕ → ℕ → Step
step dg ds = record { dg = dg; ds = ds }

-- the table, first letter and second letter
unfoldable pub step_of : DnaNucleotideBase → DnaNucleotideBase → Step
step_of A A = step 100 213
step_of A T = step 88 204
step_of A G = step 128 210
step_of A C = step 144 224
step_of T A = step 58 213
step_of T T = step 100 213
step_of T G = step 145 227
step_of T C = step 130 222
step_of G A = step 130 222
step_of G T = step 144 224
step_of G G = step 184 199
step_of G C = step 224 244
step_of C A = step 145 227
step_of C T = step 128 210
step_of C G = step 217 272
step_of C C = step 184 199

-- the place of a step in a table with a row for each first letter, in the Rust's order
abbrev pub step_place : DnaNucleotideBase → DnaNucleotideBase → ℕ
step_place a b = index_of a * 4 + index_of b

-- ΔG and ΔS of a step as the Rust has them: the printed decimals, each rounded once
unfoldable pub dg_ds : DnaNucleotideBase → DnaNucleotideBase → BaseEnergy
unfolding step_of
dg_ds a b = record { dg = minus (step_of a b).dg 100; ds = minus (step_of a b).ds 10000 }

-- the start term: +1.96 and +0.0057
abbrev pub start_hundredths : ℕ
start_hundredths = 196

unfoldable pub start : BaseEnergy
start = record { dg = plus start_hundredths 100; ds = plus 57 10000 }

-- the sum of two base energies, term by term, each rounded once
abbrev pub add_energy : BaseEnergy → BaseEnergy → BaseEnergy
add_energy x y = record { dg = add binary64 x.dg y.dg; ds = add binary64 x.ds y.ds }

-- 0.0 and 0.0
unfoldable pub no_energy : BaseEnergy
no_energy = record { dg = plus 0 1; ds = plus 0 1 }
