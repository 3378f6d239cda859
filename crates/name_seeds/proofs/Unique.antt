-- No second answer, and no other table, fits the contract of the public call. Assumes nothing.
use Rattle.units.proofs.Unique.{OneAnswer, OneExit, one_answer}
use Rattle.name_seeds.proofs.seeds_by_name.Kinds as kinds
use Rattle.name_seeds.proofs.seeds_by_name.Reads as reads

pub seeds_by_name : OneAnswer 5 kinds.ps kinds.r reads.Post
seeds_by_name κs input a b at_a at_b p q = one_answer p.0 q.0

-- the lent table is the sixth parameter
pub seeds_by_name_table : OneExit 5 kinds.ps kinds.r (λ κs out. out.1.1.1.1.1.0.now) reads.Post
seeds_by_name_table κs input a b at_a at_b p q = one_answer p.1 q.1
