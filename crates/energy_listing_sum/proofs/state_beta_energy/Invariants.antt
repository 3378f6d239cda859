-- `energy_listing_sum::state_beta_energy` meets its contract. The invariant: the sum is the listing sum over the bays passed. Assumes nothing.
use mathlib.Core.Path.{◌≡◌}
use Rattle.bay_system.specs.System.{system_of}
use Rattle.energy_listing_sum.specs.Listing.{listing}
use Rattle.energy_listing_sum.proofs.state_beta_energy.Given as goal

abbrev pub invariant-loop-bay : goal.invariant-loop-bay
invariant-loop-bay l = l.sum ≡ listing (system_of l.system) l.layout l.bay
