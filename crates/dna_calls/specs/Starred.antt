-- The rules' starred cases of sequences, as a table of what the definitions give and what the rules print. Assumes nothing.
use Rattle.std.specs.Prelude.{ℕ, ℤ, List, [], ◌∷◌, Result, Ok, Err, pos, neg_ℤ, Float}
use Rattle.std.specs.Float.{binary64}
use Rattle.std.specs.Float.Ieee.{of_bits}
use Rattle.units.specs.declared.BaseEnergy.{BaseEnergy}
use Rattle.units.specs.declared.refusal.Refusal.{Refusal}
use Rattle.units.specs.Decimals.{plus}
use Rattle.units.specs.Refusals.{number_of, values_of}
use Rattle.dna_letters.specs.Bases.{base_at}
use Rattle.dna_mismatches.specs.Mismatches.{single_mismatch_penalty}
use Rattle.dna_calls.specs.Hundredths.{string_dna_hundredths}
use Rattle.dna_pairs.specs.Pair.{sequence_pair_dg_ds}

-- what a case is about; a refusal by its number and values, as the rules print it
pub data Outcome : Type 0 where
  penalty : Float → Outcome
  pair : BaseEnergy → Outcome
  hundredths : ℤ → Outcome
  refused : (number : ℕ) → (values : List ℕ) → Outcome

-- what the definitions give, and what is printed
pub record Case : Type 0 where
  pub given : Outcome
  pub printed : Outcome

-- letters as bytes
abbrev A : ℕ
A = 65

abbrev C : ℕ
C = 67

abbrev G : ℕ
G = 71

abbrev T : ℕ
T = 84

-- the penalty of the window at a place of two sequences
abbrev penalty_at : List ℕ → List ℕ → (i j : ℕ) → Outcome
penalty_at a b i j = penalty (single_mismatch_penalty (base_at a i) (base_at a j) (base_at b i) (base_at b j))

-- an answer as one of two outcomes: what a value is about, or a refusal by its number and values
abbrev pub told : {A O : Type 0} → (answer : A → O) → (refusal : ℕ → List ℕ → O) → Result A Refusal → O
told answer refusal (Ok value) = answer value
told answer refusal (Err r) = refusal (number_of r) (values_of r)

-- what the calls answer on two sequences, and on one in hundredths
abbrev of_pair : (a b : List ℕ) → Outcome
of_pair a b = told pair refused (sequence_pair_dg_ds a b)

abbrev of_hundredths : (dna : List ℕ) → Outcome
of_hundredths dna = told hundredths refused (string_dna_hundredths dna)

-- a pair's answer with this ΔG, by its bits in the Rust's answer, and no ΔS
abbrev answers : ℕ → Outcome
answers bits = pair (record { dg = of_bits binary64 bits; ds = plus 0 1 })

unfoldable pub starred : List Case
starred =
    record { given = penalty_at (A ∷ G ∷ A ∷ []) (T ∷ T ∷ T ∷ []) 0 1; printed = penalty (plus 71 100) }
    ∷ record { given = penalty_at (A ∷ G ∷ A ∷ []) (T ∷ T ∷ T ∷ []) 1 2; printed = penalty (plus 34 100) }
    ∷ record { given = of_pair (A ∷ G ∷ A ∷ []) (T ∷ T ∷ T ∷ []); printed = answers 0x3ff0_cccc_cccc_cccd }
    ∷ record { given = of_pair (A ∷ G ∷ G ∷ A ∷ []) (T ∷ T ∷ T ∷ T ∷ []); printed = answers 0x3ff0_cccc_cccc_cccd }
    ∷ record {
      given = of_pair (A ∷ G ∷ G ∷ A ∷ A ∷ []) (T ∷ T ∷ T ∷ T ∷ T ∷ []);
      printed = refused 14 (2 ∷ []);
    }
    ∷ record { given = of_hundredths (A ∷ A ∷ []); printed = hundredths (pos 101) }
    ∷ record { given = of_hundredths (G ∷ C ∷ []); printed = hundredths (neg_ℤ (pos 28)) }
    ∷ record { given = of_hundredths (A ∷ C ∷ []); printed = hundredths (pos 57) }
    ∷ []
