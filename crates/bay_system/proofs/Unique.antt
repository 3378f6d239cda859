-- No second answer fits the contract of the call. Assumes nothing.
use Rattle.units.proofs.Unique.{OneAnswer, one_answer}
use Rattle.bay_system.proofs.system.check_system.Kinds as kinds
use Rattle.bay_system.proofs.system.check_system.Reads as reads

pub check_system : OneAnswer 2 kinds.ps kinds.r reads.Post
check_system κs input a b at_a at_b p q = one_answer p q
