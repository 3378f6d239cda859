-- The ported values beside the paper's: where they agree and where they do not; and that a step read from the other strand has the same values. Assumes nothing.
use Prim.Native.Nat.{◌+◌}
use mathlib.Core.Path.{◌≡◌, refl}
use mathlib.Core.Bool.{cond}
use lib.Ieee.{neg}
use lib.ListN.{length}
use Rattle.units.specs.Decimals.{decimal}
use Rattle.dna_letters.specs.declared.DnaNucleotideBase.{DnaNucleotideBase}
use Rattle.dna_letters.specs.Bases.{connects_to}
use Rattle.dna_steps.specs.Steps.{step_of, start}
use Rattle.dna_steps.specs.Published.{published_rows, rows_of, published, published_start, recorded, AsPublished}
use Rattle.dna_steps.proofs.StepTables.{each_step}

-- each of the sixteen ported steps is as published, but for what is on record
pub as_published : (a b : DnaNucleotideBase) → AsPublished a b
unfolding step_of published published_rows rows_of
as_published a b =
    record {
      one_row = each_step (λ x y. length (rows_of x y published_rows) ≡ 1) refl refl refl refl refl refl refl refl refl refl refl refl refl refl refl refl a b;
      dg = each_step (λ x y. (step_of x y).dg ≡ (published x y).dg) refl refl refl refl refl refl refl refl refl refl refl refl refl refl refl refl a b;
      ds = each_step (λ x y. (step_of x y).ds ≡ (published x y).ds + cond (recorded x y) 9 0) refl refl refl refl refl refl refl refl refl refl refl refl refl refl refl refl a b;
    }

-- the start term's ΔG is as published, and its ΔS has the other sign
pub start_energies_agree : start.dg ≡ published_start.dg
unfolding start published_start
start_energies_agree = refl

pub start_entropies_differ_in_sign : start.ds ≡ neg published_start.ds
unfolding start published_start decimal neg
start_entropies_differ_in_sign = refl

-- a step read from the other strand has the same values
pub same_from_the_other_strand : (a b : DnaNucleotideBase) → step_of (connects_to b) (connects_to a) ≡ step_of a b
unfolding step_of
same_from_the_other_strand =
    each_step (λ a b. step_of (connects_to b) (connects_to a) ≡ step_of a b)
    refl refl refl refl refl refl refl refl refl refl refl refl refl refl refl refl
