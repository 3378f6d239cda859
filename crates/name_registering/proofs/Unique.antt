-- No second answer fits the contract of the call, and no second content of a lent table. Assumes nothing.
use Rattle.units.proofs.Unique.{OneAnswer, OneExit, one_answer}
use Rattle.name_registering.proofs.register.Kinds as kinds
use Rattle.name_registering.proofs.register.Reads as reads

pub register : OneAnswer 5 kinds.ps kinds.r reads.Post
register κs input a b at_a at_b p q = one_answer p.0 q.0

pub strand_glues : OneExit 5 kinds.ps kinds.r (λ κs at. at.1.1.1.1.0.now) reads.Post
strand_glues κs input a b at_a at_b p q = one_answer p.1.0 q.1.0

pub scaffold : OneExit 5 kinds.ps kinds.r (λ κs at. at.1.1.1.1.1.0.now) reads.Post
scaffold κs input a b at_a at_b p q = one_answer p.1.1.0 q.1.1.0

pub bases : OneExit 5 kinds.ps kinds.r (λ κs at. at.1.1.1.1.1.1.0.now) reads.Post
bases κs input a b at_a at_b p q = one_answer p.1.1.1 q.1.1.1
