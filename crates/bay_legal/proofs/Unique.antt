-- No second answer fits the contract of the call, and no second content of the lent slice. Assumes nothing.
use Rattle.units.proofs.Unique.{OneAnswer, OneExit, one_answer}
use Rattle.bay_legal.proofs.allowed.allowed_tiles.Kinds as kinds
use Rattle.bay_legal.proofs.allowed.allowed_tiles.Reads as reads

pub allowed_tiles : OneAnswer 5 kinds.ps kinds.r reads.Post
allowed_tiles κs input a b at_a at_b p q = one_answer p.0 q.0

pub sets : OneExit 5 kinds.ps kinds.r (λ κs at. at.1.1.0.now) reads.Post
sets κs input a b at_a at_b p q = one_answer p.1 q.1
