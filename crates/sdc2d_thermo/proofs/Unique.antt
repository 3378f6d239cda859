-- No second answer fits the contract of a call that is offered here. Of the other calls the crates that have them say it. Assumes nothing.
use Rattle.units.proofs.Unique.{OneAnswer, one_answer}
use Rattle.energy_bays.proofs.site_beta_energy.Kinds as site-kinds
use Rattle.energy_bays.proofs.site_beta_energy.Reads as site
use Rattle.energy_bays.proofs.edge_beta_between.Kinds as edge-kinds
use Rattle.energy_bays.proofs.edge_beta_between.Reads as edge
use Rattle.energy_listing_sum.proofs.state_beta_energy.Kinds as state-kinds
use Rattle.energy_listing_sum.proofs.state_beta_energy.Reads as state

pub site_beta_energy : OneAnswer 2 site-kinds.ps site-kinds.r site.Post
site_beta_energy κs input a b at_a at_b p q = one_answer p q

pub edge_beta_between : OneAnswer 2 edge-kinds.ps edge-kinds.r edge.Post
edge_beta_between κs input a b at_a at_b p q = one_answer p q

pub state_beta_energy : OneAnswer 3 state-kinds.ps state-kinds.r state.Post
state_beta_energy κs input a b at_a at_b p q = one_answer p q
