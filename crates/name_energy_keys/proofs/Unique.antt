-- No second answer, and no other matrix, fits the contract of the public call. Assumes nothing.
use Rattle.units.proofs.Unique.{OneAnswer, OneExit, one_answer}
use Rattle.name_energy_keys.proofs.energy_keys.Kinds as kinds
use Rattle.name_energy_keys.proofs.energy_keys.Reads as reads

pub energy_keys : OneAnswer 6 kinds.ps kinds.r reads.Post
energy_keys κs input a b at_a at_b p q = one_answer p.0 q.0

-- the lent matrices are the third and the fourth parameter
pub energy_keys_delta_g : OneExit 6 kinds.ps kinds.r (λ κs out. out.1.1.0.now) reads.Post
energy_keys_delta_g κs input a b at_a at_b p q = one_answer p.1.0 q.1.0

pub energy_keys_entropy : OneExit 6 kinds.ps kinds.r (λ κs out. out.1.1.1.0.now) reads.Post
energy_keys_entropy κs input a b at_a at_b p q = one_answer p.1.1 q.1.1
