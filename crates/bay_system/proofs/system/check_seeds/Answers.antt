-- `bay_system::system::check_seeds` meets its contract: seed i stands at place 3i. Assumes nothing.
use Prim.Native.Nat.{◌+◌, ◌*◌, ◌<◌}
use mathlib.Core.Path.{◌≡◌, ◌∙◌, sym}
use native.Mathlib.Omega.{arith}
use lib.ListN.{length}
use borrow.Author.Tests.{lt-ltb}
use Rattle.bay_system.specs.System.{first_bad_seed}
use Rattle.bay_system.proofs.Seeds.{seed_passes, seed_fails}
use Rattle.bay_system.proofs.system.check_seeds.Goals as goal

pub returns-then-not-seed_fits : goal.returns-then-not-seed_fits
returns-then-not-seed_fits c = let a = c.args in let i = c.loop-i.i in
    let more : 3 * i + 2 < length a.seeds.now = omega arith in
    let first : first_bad_seed a.z a.seeds.now ≡ i
    = c.loop-i.invariant ∙ seed_fails a.z a.seeds.now (3 * i) i more (sym c.seed_fits.ensures ∙ c.if-not-seed_fits.true) in
    rw (first, lt-ltb _ _ c.loop-i-test.true)

pub loop-i-preserved : goal.loop-i-preserved
loop-i-preserved c = let a = c.args in let i = c.loop-i.i in
    let more : 3 * i + 2 < length a.seeds.now = omega arith in
    let next : 3 * i + 3 ≡ 3 * (i + 1) = omega arith in
    c.loop-i.invariant
    ∙ (rw next at (seed_passes a.z a.seeds.now (3 * i) i more (sym c.seed_fits.ensures ∙ c.if-not-seed_fits.false)))
