-- Laws of the whole drawing: a grid that is drawn, and one that is not. Assumes nothing.
use Prim.Native.Nat.{ℕ, ◌+◌, ◌*◌, ◌≤◌}
use mathlib.Core.Bool.{Bool, true, false, cond, not}
use mathlib.Core.List.{List, [], ◌++◌}
use mathlib.Core.Path.{◌≡◌, sym, ◌∙◌, ap}
use borrow.Author.Tests.{leb-true, not-true, not-false}
use lib.Dec.{leb}
use lib.Ieee.{Float}
use Rattle.units.specs.Limits.{most_side}
use Rattle.units.proofs.Tests.{both}
use Rattle.name_strands.specs.Names.{StrandNames}
use Rattle.plan_layout_svg.specs.Frame.{head, foot}
use Rattle.plan_layout_svg.specs.Drawing.{rows_drawing, pixels_across, is_drawn, drawing, svg_text}

module _ (rows columns : ℕ) {room : Bool} (e : room ≡ is_drawn rows columns) where
  has_room : not room ≡ false → is_drawn rows columns ≡ true
  has_room h = sym e ∙ not-false room h

  pub small : not room ≡ false → (rows ≤ most_side) × (columns ≤ most_side)
  small h = let t = both (leb rows most_side) (leb columns most_side) (has_room h) in (leb-true rows most_side t.0, leb-true columns most_side t.1)

  module _ (n : StrandNames) (layout marks : List ℕ) (energy : Float) where
    pub drawn : not room ≡ false → {width : ℕ} → width ≡ pixels_across columns
        → head width (80 * rows + 124) energy ++ rows_drawing n columns 0 layout marks rows ++ foot (80 * rows + 78) ≡ svg_text rows columns n layout marks energy
    unfolding svg_text
    drawn h w =
        ap (λ (across : ℕ). head across (80 * rows + 124) energy ++ rows_drawing n columns 0 layout marks rows ++ foot (80 * rows + 78)) w
        ∙ ap (λ (t : Bool). cond t (drawing rows columns n layout marks energy) []) (sym (has_room h))

    pub not_drawn : not room ≡ true → [] ≡ svg_text rows columns n layout marks energy
    unfolding svg_text
    not_drawn h = ap (λ (t : Bool). cond t (drawing rows columns n layout marks energy) []) (sym (sym e ∙ not-true room h))
