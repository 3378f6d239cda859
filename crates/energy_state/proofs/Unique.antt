-- No second answer fits the contract of the call. Assumes nothing.
use Rattle.units.proofs.Unique.{OneAnswer, one_answer}
use Rattle.energy_state.proofs.state.state_g.Kinds as kinds
use Rattle.energy_state.proofs.state.state_g.Reads as reads

pub state_g_lem : OneAnswer 3 kinds.ps kinds.r reads.Post
state_g_lem κs input a b at_a at_b p q = one_answer p q
