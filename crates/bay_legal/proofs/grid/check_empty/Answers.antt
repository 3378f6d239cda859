-- `bay_legal::grid::check_empty` meets its contract: the first bay in scan order without a strand, or none. Assumes nothing.
use Prim.Native.Nat.{ℕ, ◌*◌, ◌<◌, ◌≤◌}
use mathlib.Core.Path.{◌≡◌, ◌∙◌, ap}
use native.Mathlib.Omega.{arith}
use lib.ListN.{get_or}
use borrow.Author.Tests.{lt-ltb, le-ltb}
use Rattle.bay_scan_order.proofs.Scanned.{bay_inside}
use Rattle.bay_legal.proofs.Emptiness.{found_here, one_on, none_left}
use Rattle.bay_legal.specs.Sets.{first_empty}
use Rattle.bay_legal.proofs.grid.check_empty.Goals as goal

pub bounds-sets-bay : goal.bounds-sets-bay
bounds-sets-bay c = let a = c.args in
    let number : c.loop-k.k < a.rows * a.cols = omega (arith, c.loop-k-test.true, c.requires.2) in
    omega (arith, bay_inside a.rows a.cols c.loop-k.k number, c.bay_at-bay.ensures, c.requires.2)

pub returns-then-sets-bay-eq0 : goal.returns-then-sets-bay-eq0
returns-then-sets-bay-eq0 c = let a = c.args in let n = a.rows * a.cols in
    let inside : c.loop-k.k < n = omega (arith, c.loop-k-test.true, c.requires.2) in
    let found : first_empty a.rows a.cols a.sets.now 0 n ≡ c.loop-k.k
    = c.loop-k.invariant ∙ found_here a.rows a.cols a.sets.now n c.loop-k.k inside (rw (← c.bay_at-bay.ensures) c.if-sets-bay-eq0.true) in
    rw (found, lt-ltb c.loop-k.k n inside, c.bay_at-bay.ensures)

pub loop-k-preserved : goal.loop-k-preserved
loop-k-preserved c = let a = c.args in let n = a.rows * a.cols in
    c.loop-k.invariant
    ∙ one_on a.rows a.cols a.sets.now n c.loop-k.k (omega (arith, c.loop-k-test.true, c.requires.2))
    (λ e. c.if-sets-bay-eq0.false (ap (λ (b : ℕ). get_or a.sets.now b 0) c.bay_at-bay.ensures ∙ e))

pub returns : goal.returns
returns c = let a = c.args in let n = a.rows * a.cols in
    let all : n ≤ c.loop-k.k = omega (arith, c.loop-k-test.false, c.requires.2) in
    rw (c.loop-k.invariant ∙ none_left a.rows a.cols a.sets.now n c.loop-k.k all, le-ltb c.loop-k.k n all)
