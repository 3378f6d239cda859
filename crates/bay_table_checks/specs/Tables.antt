-- What is refused of a system's tables, numbers 2 and 3. Assumes nothing.
use Rattle.std.specs.Prelude.{ℕ, ◌+◌, Bool, true, false, List, ltb, Float, length, drop}
use Rattle.std.specs.Float.{nan, inf, fin}
use Rattle.units.specs.Finite.{finite}
use Rattle.units.specs.Places.{place_verdict}
use Rattle.units.specs.Refusals.{Verdict, ◌▷◌}
use Rattle.units.specs.declared.refusal.Refusal.TheVariants.{Glue, Energy}

-- 2, with the first place through strand glues, then scaffold: a glue number is not below the count
abbrev pub glues_verdict : (glues : ℕ) → (strand_glues scaffold : List ℕ) → Verdict
glues_verdict glues strand_glues scaffold =
    place_verdict Glue 0 (λ g. ltb g glues) strand_glues ▷ place_verdict Glue (length strand_glues) (λ g. ltb g glues) scaffold

-- a log concentration that is neither a NaN nor plus infinity
unfoldable pub is_log : Float → Bool
is_log nan = false
is_log (inf negative) = negative
is_log (fin negative m e) = true

-- 3, with the first place through ΔG, ΔS, log concentrations: an energy is not finite, or a logarithm is none; strand 0's is never read
abbrev pub energies_verdict : (delta_g entropy logs : List Float) → Verdict
energies_verdict delta_g entropy logs =
    place_verdict Energy 0 finite delta_g
    ▷ place_verdict Energy (length delta_g) finite entropy
    ▷ place_verdict Energy (length delta_g + length entropy + 1) is_log (drop 1 logs)
