-- The published values (SantaLucia and Hicks 2004, 37 °C), ten rows and the start, with minus signs turned: ΔG as the rules give it, ΔS as Biopython's table
-- DNA_NN4 does; and what is on record of the ported ones. Assumes nothing.
use Rattle.std.specs.Prelude.{ℕ, ◌+◌, ◌≡◌, Bool, cond, ◌&&◌, ◌||◌, List, [], ◌∷◌, eqb, length, get_or}
use Rattle.units.specs.declared.BaseEnergy.{BaseEnergy}
use Rattle.units.specs.Decimals.{plus, minus}
use Rattle.dna_letters.specs.declared.DnaNucleotideBase.{DnaNucleotideBase}
use Rattle.dna_letters.specs.declared.DnaNucleotideBase.TheVariants.{A, T, G, C}
use Rattle.dna_letters.specs.Bases.{connects_to, index_of}
use Rattle.dna_steps.specs.Steps.{step_of}

-- One row: a step 5'→3', −ΔG in hundredths of a kcal/mol, −ΔS in tenths of a cal/(mol·K), which are ten-thousandths of a kcal/(mol·K).
pub record Row : Type 0 where
  pub first : DnaNucleotideBase
  pub second : DnaNucleotideBase
  pub dg : ℕ
  pub ds : ℕ

abbrev row : DnaNucleotideBase → DnaNucleotideBase → ℕ → ℕ → Row
row first second dg ds = record { first = first; second = second; dg = dg; ds = ds }

-- the ten rows; each of the other six steps is one of them read from the other strand
unfoldable pub published_rows : List Row
published_rows =
    row A A 100 213
    ∷ row A T 88 204
    ∷ row T A 58 204
    ∷ row C A 145 227
    ∷ row G T 144 224
    ∷ row C T 128 210
    ∷ row G A 130 222
    ∷ row C G 217 272
    ∷ row G C 224 244
    ∷ row G G 184 190
    ∷ []

-- whether two steps are the same letters
abbrev pub same_step : (a b c d : DnaNucleotideBase) → Bool
same_step a b c d = eqb (index_of a) (index_of c) && eqb (index_of b) (index_of d)

-- whether a row is that of step a b: the step itself, or what the other strand reads there, 5'→3'
abbrev pub is_row_of : (a b : DnaNucleotideBase) → Row → Bool
is_row_of a b r = same_step r.first r.second a b || same_step r.first r.second (connects_to b) (connects_to a)

-- the rows that are a step's
unfoldable pub rows_of : (a b : DnaNucleotideBase) → List Row → List Row
rows_of a b [] = []
rows_of a b (r ∷ rest) = cond (is_row_of a b r) (r ∷ rows_of a b rest) (rows_of a b rest)

-- what the paper prints of a step: its row
unfoldable pub published : (a b : DnaNucleotideBase) → Row
unfolding published_rows rows_of
published a b = get_or (rows_of a b published_rows) 0 (row a b 0 0)

-- the paper's start term: ΔG is +196 hundredths, ΔS is −57 tenths of a cal/(mol·K)
abbrev pub published_start_dg : ℕ
published_start_dg = 196

abbrev pub published_start_ds : ℕ
published_start_ds = 57

unfoldable pub published_start : BaseEnergy
published_start = record { dg = plus published_start_dg 100; ds = minus published_start_ds 10000 }

-- the steps on record, whose ΔS the Rust has otherwise than the paper: TA, GG and CC
abbrev pub recorded : (a b : DnaNucleotideBase) → Bool
recorded a b = same_step T A a b || (same_step G G a b || same_step C C a b)

-- A ported step beside the paper's, which has one row for it: ΔG is the same; ΔS is the same but for the steps on record, where it is 9 further from zero.
pub record AsPublished (a b : DnaNucleotideBase) : Type 0 where
  pub one_row : length (rows_of a b published_rows) ≡ 1
  pub dg : (step_of a b).dg ≡ (published a b).dg
  pub ds : (step_of a b).ds ≡ (published a b).ds + cond (recorded a b) 9 0
