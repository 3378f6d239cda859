-- What a layout that passed its tests is like. Assumes nothing.
use Prim.Native.Nat.{ℕ, ◌*◌}
use mathlib.Core.Path.{◌≡◌}
use mathlib.Core.Bool.{not}
use mathlib.Core.List.{List}
use lib.Dec.{eqb}
use lib.ListN.{length}
use borrow.Author.Tests.{eqb-true, not-false}
use Rattle.units.specs.Refusals.{passes, ◌▷◌}
use Rattle.units.proofs.Verdicts.{no_fault, first_passes, rest_passes}
use Rattle.bay_system.specs.System.{System, system_verdict}
use Rattle.energy_state.specs.StateG.{shape_verdict, strands_verdict, layout_verdict}

-- it has a strand for each bay
pub each_bay : (s : System) (layout : List ℕ) → layout_verdict s layout ≡ passes → length layout ≡ s.sizes.rows * s.sizes.cols
each_bay s layout passed =
    let shape = shape_verdict s.sizes layout in
    let strands = strands_verdict s.sizes layout in
    let fits = eqb (length layout) (s.sizes.rows * s.sizes.cols) in
    eqb-true (length layout) _ (not-false fits (no_fault (not fits) _ (first_passes shape strands (rest_passes (system_verdict s) (shape ▷ strands) passed))))
