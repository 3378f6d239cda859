-- No second answer fits the contract of either call, and no second content of the slice lent to it. Assumes nothing.
use Rattle.units.proofs.Unique.{OneAnswer, OneExit, one_answer}
use Rattle.plan_marks.proofs.bays.mark_bays.Kinds as bay-kinds
use Rattle.plan_marks.proofs.bays.mark_bays.Reads as bay-reads
use Rattle.plan_marks.proofs.strands.rule_strands.Kinds as strand-kinds
use Rattle.plan_marks.proofs.strands.rule_strands.Reads as strand-reads

pub mark_bays : OneAnswer 5 bay-kinds.ps bay-kinds.r bay-reads.Post
mark_bays κs input a b at_a at_b p q = one_answer p.0 q.0

pub marks : OneExit 5 bay-kinds.ps bay-kinds.r (λ κs at. at.1.1.0.now) bay-reads.Post
marks κs input a b at_a at_b p q = one_answer p.1 q.1

pub rule_strands : OneAnswer 5 strand-kinds.ps strand-kinds.r strand-reads.Post
rule_strands κs input a b at_a at_b p q = one_answer p.0 q.0

pub rules : OneExit 5 strand-kinds.ps strand-kinds.r (λ κs at. at.1.1.1.0.now) strand-reads.Post
rules κs input a b at_a at_b p q = one_answer p.1 q.1
