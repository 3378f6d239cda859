-- No second answer fits the contract of the exported call, and no second content of a lent slice. Assumes nothing.
use Rattle.units.proofs.Unique.{OneAnswer, OneExit, one_answer}
use Rattle.run_export.proofs.run_export_mfe_configuration.Kinds as kinds
use Rattle.run_export.proofs.run_export_mfe_configuration.Reads as reads

pub run_export_mfe_configuration : OneAnswer 11 kinds.ps kinds.r reads.Post
run_export_mfe_configuration κs input a b at_a at_b p q = one_answer p.1.0 q.1.0

pub layout : OneExit 11 kinds.ps kinds.r (λ κs at. at.1.1.1.1.1.1.1.1.1.1.1.1.1.1.0.now) reads.Post
layout κs input a b at_a at_b p q = one_answer p.1.1.0 q.1.1.0

pub energies : OneExit 11 kinds.ps kinds.r (λ κs at. at.1.1.1.1.1.1.1.1.1.1.1.1.1.1.1.0.now) reads.Post
energies κs input a b at_a at_b p q = one_answer p.1.1.1.0 q.1.1.1.0

pub leaving : OneExit 11 kinds.ps kinds.r (λ κs at. at.1.1.1.1.1.1.1.1.1.1.1.1.1.1.1.1.0.now) reads.Post
leaving κs input a b at_a at_b p q = one_answer p.1.1.1.1 q.1.1.1.1
