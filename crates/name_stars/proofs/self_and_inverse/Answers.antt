-- `name_stars::self_and_inverse` meets its contract: the leading part is the base. Assumes nothing.
use mathlib.Core.Path.{refl, ap, sym}
use lib.ListN.{take}
use lib.Seq.{length-take-le}
use Rattle.name_stars.proofs.self_and_inverse.Goals as goal

pub slice_bounds-result-end : goal.slice_bounds-result-end
slice_bounds-result-end c = sym (length-take-le _ _ c.base_length-n.ensures.1)

pub returns : goal.returns
returns c =
    record {
      bytes = ap (λ n. take n c.args.name.now) c.base_length-n.ensures.0;
      place = refl;
    }
