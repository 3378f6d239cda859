-- `energy_listing_sum::state_beta_energy` meets its contract: one bay more at each step. Assumes nothing.
use lib.Ieee.{of_bits}
use Rattle.units.specs.Decimals.{decimal}
use Rattle.bay_system.specs.System.{system_of}
use Rattle.energy_listing_sum.proofs.Sums.{from_nothing, one_bay_more}
use Rattle.energy_listing_sum.proofs.state_beta_energy.Goals as goal

pub loop-bay-init : goal.loop-bay-init
unfolding of_bits decimal
loop-bay-init c = from_nothing (system_of c.args.system.now) c.args.layout.now

pub loop-bay-preserved : goal.loop-bay-preserved
loop-bay-preserved c =
    one_bay_more (system_of c.args.system.now) c.args.layout.now c.loop-bay.bay
    c.loop-bay.invariant c.strand_at.ensures c.site_beta_energy-site.ensures c.with_west-west.ensures c.with_north-sum.ensures
