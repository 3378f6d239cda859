-- `plan_marks::bays::fill_marks` meets its contract: each turn marks one bay. Assumes nothing.
use Prim.Native.Nat.{ℕ}
use mathlib.Core.Path.{◌≡◌, ◌∙◌, ap}
use native.Mathlib.Omega.{arith}
use lib.ListN.{length}
use Rattle.bay_system.specs.System.{system_of, bays}
use Rattle.bay_lists.specs.Lists.{constraints_of}
use Rattle.plan_reasons.specs.Reasons.{reason_of}
use Rattle.run_scan_tables.proofs.Written.{one_more, whole, none_yet}
use Rattle.plan_marks.specs.Marks.{mark_of}
use Rattle.plan_marks.proofs.bays.fill_marks.Goals as goal

pub loop-bay-init : goal.loop-bay-init
loop-bay-init c = none_yet _

pub bay_reason-requires : goal.bay_reason-requires
bay_reason-requires c = record { on_grid = c.requires.given.grid.on_grid c.loop-bay.bay (omega arith); shaped = c.requires.given.shaped }

pub loop-bay-preserved : goal.loop-bay-preserved
loop-bay-preserved c =
    one_more (λ (b : ℕ). mark_of (reason_of (system_of c.args.system.now) (constraints_of c.args.constraints.now) b)) c.loop-bay.marks c.loop-bay.bay c.loop-bay.invariant (omega arith)
    (c.mark_of.ensures ∙ ap mark_of c.bay_reason.ensures)

pub returns : goal.returns
returns c = let s = system_of c.args.system.now in
    let long : length c.loop-bay.marks ≡ bays s.sizes = c.loop-bay.auto.marks ∙ c.requires.marks_len ∙ c.requires.given.bay_count in
    whole (λ (b : ℕ). mark_of (reason_of s (constraints_of c.args.constraints.now) b)) c.loop-bay.marks c.loop-bay.bay (bays s.sizes) c.loop-bay.invariant (omega arith) long
