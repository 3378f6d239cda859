-- `bay_table_checks::is_log` meets its contract: what is below plus infinity. Assumes nothing.
use mathlib.Core.Bool.{true, false}
use mathlib.Core.Path.{◌≡◌, refl}
use lib.Ieee.{Float, nan, inf, fin, lt, div, of_bits}
use Rattle.bay_table_checks.specs.Tables.{is_log}
use Rattle.bay_table_checks.proofs.is_log.Goals as goal

below_infinity : (x : Float) → lt x (inf false) ≡ is_log x
unfolding lt is_log
below_infinity nan = refl
below_infinity (inf true) = refl
below_infinity (inf false) = refl
below_infinity (fin negative m e) = refl

pub returns : goal.returns
unfolding div of_bits
returns c = below_infinity c.args.x
