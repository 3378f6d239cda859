-- The rules' starred cases, all of them, as one table of what the definitions give and what the rules print: sequences first, then layouts. Assumes nothing.
use Rattle.std.specs.Prelude.{ℕ, ◌*◌, Bool, true, false, List, [], ◌∷◌, ◌++◌, map, pos, Float, length, replicate}
use Rattle.std.specs.Float.{nan, inf, fin, binary64}
use Rattle.std.specs.Float.Ieee.{of_bits}
use Rattle.units.specs.Decimals.{plus, minus}
use Rattle.dna_calls.specs.Starred.{told, Outcome as SequencesOutcome, Case as SequencesCase, starred as sequences_starred}
use Rattle.bay_system.specs.System.{System}
use Rattle.bay_lists.specs.Lists.{Constraints, lists, absent}
use Rattle.bay_legal_at.specs.Legal.{is_legal}
use Rattle.run_least_layout.specs.Run.{run_need}
use Rattle.run_mfe.specs.Run.{mfe_answer, layout_after, energies_after}

-- what a case is about; a refusal by its number and values, as the rules print it
pub data Outcome : Type 0 where
  sequence : SequencesOutcome → Outcome
  laid : List ℕ → Outcome
  held : List Float → Outcome
  answered : Float → Outcome
  refused : (number : ℕ) → (values : List ℕ) → Outcome
  legal : Bool → Outcome
  needs : ℕ → Outcome

pub record Case : Type 0 where
  pub given : Outcome
  pub printed : Outcome

abbrev case : Outcome → Outcome → Case
case given printed = record { given = given; printed = printed }

-- 1×1 at 310.15 K: strand 1, whose bottom glue meets the bay's with this ΔG and ΔS
abbrev one_bay : (dg ds log : Float) → (seeds : List ℕ) → System
one_bay dg ds log seeds =
    record {
      sizes = record { rows = 1; cols = 1; strands = 2; glues = 2; kelvin = plus 31015 100 };
      strand_glues = 0 ∷ 0 ∷ 0 ∷ 0 ∷ 0 ∷ 0 ∷ 0 ∷ 0 ∷ 0 ∷ 1 ∷ [];
      scaffold = 1 ∷ [];
      delta_g = plus 0 1 ∷ plus 0 1 ∷ plus 0 1 ∷ dg ∷ [];
      entropy = plus 0 1 ∷ plus 0 1 ∷ plus 0 1 ∷ ds ∷ [];
      logs = plus 0 1 ∷ log ∷ [];
      seeds = seeds;
    }

-- a grid on whose every bay strands 0 and 1 are legal
abbrev two_strands : (rows cols : ℕ) → System
two_strands rows cols =
    record {
      sizes = record { rows = rows; cols = cols; strands = 2; glues = 2; kelvin = plus 31015 100 };
      strand_glues = 0 ∷ 0 ∷ 0 ∷ 0 ∷ 0 ∷ 0 ∷ 0 ∷ 0 ∷ 0 ∷ 1 ∷ [];
      scaffold = replicate (rows * cols) 1;
      delta_g = plus 0 1 ∷ plus 0 1 ∷ plus 0 1 ∷ minus 1 1 ∷ [];
      entropy = plus 0 1 ∷ plus 0 1 ∷ plus 0 1 ∷ plus 0 1 ∷ [];
      logs = plus 0 1 ∷ plus 0 1 ∷ [];
      seeds = [];
    }

abbrev free : Constraints
free = absent

-- the list of the one bay
abbrev listed : List ℕ → Constraints
listed tiles = lists (0 ∷ length tiles ∷ []) tiles

-- the answer where the lent slices fit one bay with two rows, and what the call leaves in the lent layout, which held 7
abbrev answer_of : System → Constraints → Outcome
answer_of s c = told answered refused (mfe_answer s c 1 2 2)

abbrev layout_of : System → Constraints → Outcome
layout_of s c = laid (layout_after s c 2 2 (7 ∷ []))

-- what it leaves in the lent table of energies, one for strand 0 and one for strand 1
abbrev energies_of : System → Constraints → Outcome
energies_of s c = held (energies_after s c 1 2 (nan ∷ nan ∷ []))

unfoldable pub layouts : List Case
layouts =
    case (layout_of (one_bay (plus 1 1) (plus 0 1) (plus 0 1) []) free) (laid (0 ∷ []))
    ∷ case (answer_of (one_bay (plus 1 1) (plus 0 1) (plus 0 1) []) free) (answered (of_bits binary64 0))
    ∷ case (layout_of (one_bay (minus 1 1) (plus 0 1) (plus 0 1) []) free) (laid (1 ∷ []))
    ∷ case (answer_of (one_bay (minus 1 1) (plus 0 1) (plus 0 1) []) free) (answered (fin true 1 (pos 0)))
    ∷ case (legal (is_legal (one_bay (plus 0 1) (plus 1 1) (plus 0 1) []) free 0 1)) (legal true)
    ∷ case (energies_of (one_bay (plus 0 1) (plus 1 1) (plus 0 1) []) free) (held (of_bits binary64 0 ∷ of_bits binary64 0 ∷ []))
    ∷ case (layout_of (one_bay (plus 0 1) (plus 1 1) (plus 0 1) []) free) (laid (0 ∷ []))
    ∷ case (answer_of (one_bay (plus 1 1) (plus 0 1) (inf true) (0 ∷ 0 ∷ 1 ∷ [])) free) (answered (inf false))
    ∷ case (layout_of (one_bay (minus 1 1) (plus 0 1) (plus 0 1) []) (listed [])) (laid (1 ∷ []))
    ∷ case (answer_of (one_bay (minus 1 1) (plus 0 1) (plus 0 1) []) (listed [])) (answered (fin true 1 (pos 0)))
    ∷ case (layout_of (one_bay (minus 1 1) (plus 0 1) (plus 0 1) []) (listed (0 ∷ []))) (laid (0 ∷ []))
    ∷ case (answer_of (one_bay (minus 1 1) (plus 0 1) (plus 0 1) []) (listed (99 ∷ []))) (refused 7 (0 ∷ []))
    ∷ case (layout_of (one_bay (minus 1 1) (plus 0 1) (plus 0 1) []) (listed (99 ∷ []))) (laid (7 ∷ []))
    ∷ case (needs (run_need (two_strands 2 2) free)) (needs 14)
    ∷ case (needs (run_need (two_strands 2 3) free)) (needs 22)
    ∷ case (needs (run_need (two_strands 1 3) free)) (needs 6)
    ∷ []

-- the cases of sequences, as outcomes
abbrev pub of_sequences : List SequencesCase → List Case
of_sequences = map (λ (c : SequencesCase). case (sequence c.given) (sequence c.printed))

-- all of them
abbrev pub starred : List Case
starred = of_sequences sequences_starred ++ layouts
