-- `run_tables::bonds_of::fill_bonds` meets its contract. The invariant: the first i pairs are written. Assumes nothing.
use Prim.Native.Nat.{ℕ, ◌*◌, ◌/◌, ◌%◌}
use mathlib.Core.Path.{◌≡◌, ◌∙◌}
use native.Mathlib.Omega.{arith}
use lib.ListN.{length}
use Rattle.units.specs.Limits.{most_strands}
use Rattle.bay_system.specs.System.{system_of}
use Rattle.run_tables.specs.Tables.{pair_energy}
use Rattle.run_scan_tables.proofs.Written.{one_more, whole, none_yet}
use Rattle.run_tables.proofs.bonds_of.fill_bonds.Goals as goal

pub loop-i-init : goal.loop-i-init
loop-i-init c = none_yet _

pub loop-i-preserved : goal.loop-i-preserved
loop-i-preserved c = let a = c.args in
    one_more (λ (j : ℕ). pair_energy (system_of a.system.now) a.north_south (j % most_strands) (j / most_strands)) c.loop-i.table c.loop-i.i c.loop-i.invariant (omega arith) c.pair_energy.ensures

pub returns : goal.returns
returns c = let a = c.args in
    let long : length c.loop-i.table ≡ most_strands * most_strands = c.loop-i.auto.table ∙ c.requires.table_len in
    whole (λ (j : ℕ). pair_energy (system_of a.system.now) a.north_south (j % most_strands) (j / most_strands)) c.loop-i.table c.loop-i.i (most_strands * most_strands) c.loop-i.invariant
    (omega arith) long
