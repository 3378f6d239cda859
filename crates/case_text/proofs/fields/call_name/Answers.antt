-- `fields::call_name` meets its contract: the search from the front ends at the first space. Assumes nothing.
use Prim.Native.Nat.{ℕ}
use mathlib.Core.Path.{sym, ap, ◌∙◌}
use lib.ListN.{take}
use lib.Seq.{length-take-le}
use Rattle.case_text.proofs.Cuts.{place_first}
use Rattle.case_text.proofs.fields.call_name.Goals as goal

pub slice_bounds-result-end : goal.slice_bounds-result-end
slice_bounds-result-end c = sym (length-take-le c.place_of-end.result c.args.line.now c.place_of-end.ensures.onward.1)

pub returns : goal.returns
returns c = let line = c.args.line.now in
    ap (λ (n : ℕ). take n line) (c.place_of-end.ensures.value ∙ place_first 32 line)
