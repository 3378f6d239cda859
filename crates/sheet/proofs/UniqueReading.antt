-- No second answer fits the contract of the call, and no second content of a lent slice. Assumes nothing.
use Rattle.units.proofs.Unique.{OneAnswer, OneExit, one_answer}
use Rattle.sheet.proofs.read.read_sheet.Kinds as kinds
use Rattle.sheet.proofs.read.read_sheet.Reads as reads

pub read_sheet : OneAnswer 3 kinds.ps kinds.r reads.Post
read_sheet κs input a b at_a at_b p q = one_answer p.0 q.0

-- the offsets and the tiles are what is lent to be written
pub read_sheet_offsets : OneExit 3 kinds.ps kinds.r (λ κs at. at.1.1.1.0.now) reads.Post
read_sheet_offsets κs input a b at_a at_b p q = one_answer p.1.0 q.1.0

pub read_sheet_tiles : OneExit 3 kinds.ps kinds.r (λ κs at. at.1.1.1.1.0.now) reads.Post
read_sheet_tiles κs input a b at_a at_b p q = one_answer p.1.1 q.1.1
