-- `bay_table_checks::check_energies` meets its contract: ΔG, then ΔS, then the logarithms. Assumes nothing.
use Prim.Native.Nat.{◌+◌, ◌-◌}
use mathlib.Core.Path.{◌≡◌, ◌∙◌, sym}
use mathlib.Core.List.{List}
use native.Mathlib.Nat.{zero-add}
use native.Mathlib.Omega.{arith}
use lib.Ieee.{Float}
use lib.ListN.{length, take, drop, length-drop}
use lib.Seq.{take_all}
use Rattle.units.specs.Finite.{finite}
use Rattle.units.specs.declared.refusal.Refusal.TheVariants.{Energy}
use Rattle.bay_table_checks.specs.Tables.{is_log}
use Rattle.bay_table_checks.proofs.Placed.{placed, none_placed}
use Rattle.bay_table_checks.proofs.check_energies.Goals as goal

-- the part from place 1 to the end is the rest
whole_rest : (logs : List Float) → take (length logs - 1) (drop 1 logs) ≡ drop 1 logs
whole_rest logs = take_all (length logs - 1) (drop 1 logs) (rw (length-drop 1 logs) (omega arith))

pub returns-in-Some : goal.returns-in-Some
returns-in-Some c = rw (placed Energy 0 finite c.args.delta_g.now _ (sym c.first_infinite.ensures ∙ c.in-Some.is), zero-add)

pub returns-in-Some-first_infinite : goal.returns-in-Some-first_infinite
returns-in-Some-first_infinite c = let a = c.args in
    rw (
      none_placed Energy 0 finite a.delta_g.now (sym c.first_infinite.ensures ∙ c.in_default.is),
      placed Energy (length a.delta_g.now) finite a.entropy.now _ (sym c.first_infinite-2.ensures ∙ c.in-Some-first_infinite.is),
    )

pub returns-in-Some-first_no_log : goal.returns-in-Some-first_no_log
returns-in-Some-first_no_log c = let a = c.args in
    let e = rw (whole_rest a.logs.now) at c.first_no_log.ensures in
    rw (
      none_placed Energy 0 finite a.delta_g.now (sym c.first_infinite.ensures ∙ c.in_default.is),
      none_placed Energy (length a.delta_g.now) finite a.entropy.now (sym c.first_infinite-2.ensures ∙ c.in_default-first_infinite.is),
      placed Energy (length a.delta_g.now + length a.entropy.now + 1) is_log (drop 1 a.logs.now) _ (sym e ∙ c.in-Some-first_no_log.is),
    )

pub returns : goal.returns
returns c = let a = c.args in
    let e = rw (whole_rest a.logs.now) at c.first_no_log.ensures in
    rw (
      none_placed Energy 0 finite a.delta_g.now (sym c.first_infinite.ensures ∙ c.in_default.is),
      none_placed Energy (length a.delta_g.now) finite a.entropy.now (sym c.first_infinite-2.ensures ∙ c.in_default-first_infinite.is),
      none_placed Energy (length a.delta_g.now + length a.entropy.now + 1) is_log (drop 1 a.logs.now) (sym e ∙ c.in_default-first_no_log.is),
    )
