-- No second answer fits the contract of writing, and no second content of the lent text. Assumes nothing.
use Rattle.units.proofs.Unique.{OneAnswer, OneExit, one_answer}
use Rattle.sheet.proofs.write.write_sheet.Kinds as kinds
use Rattle.sheet.proofs.write.write_sheet.Reads as reads

pub write_sheet : OneAnswer 3 kinds.ps kinds.r reads.Post
write_sheet κs input a b at_a at_b p q = one_answer p.0 q.0

pub text : OneExit 3 kinds.ps kinds.r (λ κs at. at.1.1.1.1.0.now) reads.Post
text κs input a b at_a at_b p q = one_answer p.1 q.1
