-- No second answer fits the contract of the call, and no second content of a lent slice. Assumes nothing.
use Rattle.units.proofs.Unique.{OneAnswer, OneExit, one_answer}
use Rattle.run_choice_price.proofs.mfe_with_choice.Kinds as kinds
use Rattle.run_choice_price.proofs.mfe_with_choice.Reads as reads

pub mfe_with_choice : OneAnswer 7 kinds.ps kinds.r reads.Post
mfe_with_choice κs input a b at_a at_b p q = one_answer p.0 q.0

pub layout : OneExit 7 kinds.ps kinds.r (λ κs at. at.1.1.1.1.0.now) reads.Post
layout κs input a b at_a at_b p q = one_answer p.1.0 q.1.0

pub energies : OneExit 7 kinds.ps kinds.r (λ κs at. at.1.1.1.1.1.0.now) reads.Post
energies κs input a b at_a at_b p q = one_answer p.1.1.0 q.1.1.0

pub leaving : OneExit 7 kinds.ps kinds.r (λ κs at. at.1.1.1.1.1.1.0.now) reads.Post
leaving κs input a b at_a at_b p q = one_answer p.1.1.1 q.1.1.1
