-- `bay_legal_at::seeds::last_seed` meets its contract: seed i stands at place 3i, and a later one replaces an earlier one. Assumes nothing.
use Prim.Native.Nat.{◌+◌, ◌*◌, ◌<◌, ◌≤◌}
use mathlib.Core.Path.{◌≡◌, ◌∙◌, sym, ap}
use mathlib.Core.Bool.{cond}
use native.Mathlib.Omega.{arith}
use lib.Dec.{eqb}
use lib.ListN.{length, get_or, drop}
use borrow.Author.Tests.{eq-eqb, ne_eqb}
use Rattle.std.specs.Prelude.{Some, None}
use Rattle.bay_legal_at.proofs.SeedOf.{seed_counts, no_seed_left}
use Rattle.bay_legal_at.specs.Legal.{later, seed_at}
use Rattle.bay_legal_at.proofs.seeds.last_seed.Goals.{then-row-cols, else-row-cols}
use Rattle.bay_legal_at.proofs.seeds.last_seed.Goals as goal

pub loop-i-preserved : goal.loop-i-preserved
loop-i-preserved c = let a = c.args in let at = 3 * c.loop-i.i in
    let more : at + 2 < length a.seeds.now = omega arith in
    let here = cond (eqb (get_or a.seeds.now at 0 * a.cols + get_or a.seeds.now (at + 1) 0) a.bay) (Some (get_or a.seeds.now (at + 2) 0)) None in
    let next : at + 3 ≡ 3 * (c.loop-i.i + 1) = omega arith in
    let found : later here c.loop-i.found ≡ c.if-row-cols.found =
    elim c.if-row-cols.branch [
      | then-row-cols w ↦ rw (eq-eqb _ _ w.if-row-cols.true) (sym w.found-is)
      | else-row-cols w ↦ rw (ne_eqb _ _ w.if-row-cols.false) (sym w.found-is)
    ] in
    c.loop-i.invariant
    ∙ (rw next at (seed_counts a.cols a.seeds.now a.bay at c.loop-i.found more))
    ∙ ap (later (seed_at a.cols (drop (3 * (c.loop-i.i + 1)) a.seeds.now) a.bay)) found

pub returns : goal.returns
returns c = let a = c.args in
    let all : length a.seeds.now ≤ 3 * c.loop-i.i = omega (arith, c.requires) in
    sym (c.loop-i.invariant ∙ no_seed_left a.cols a.seeds.now a.bay (3 * c.loop-i.i) c.loop-i.found all)
