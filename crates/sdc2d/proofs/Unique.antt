-- No second answer fits the contract of a call that is offered here. Of the other calls the crates that have them say it. Assumes nothing.
use Rattle.units.proofs.Unique.{OneAnswer, one_answer}
use Rattle.bay_glues.proofs.strand_glues_of.Kinds as glues-kinds
use Rattle.bay_glues.proofs.strand_glues_of.Reads as glues
use Rattle.bay_glues.proofs.scaffold_glue_at.Kinds as bay-kinds
use Rattle.bay_glues.proofs.scaffold_glue_at.Reads as bay
use Rattle.bay_bonds.proofs.glue_glue_dg.Kinds as dg-kinds
use Rattle.bay_bonds.proofs.glue_glue_dg.Reads as dg
use Rattle.bay_bonds.proofs.bond_we.Kinds as we-kinds
use Rattle.bay_bonds.proofs.bond_we.Reads as we
use Rattle.bay_bonds.proofs.bond_ns.Kinds as ns-kinds
use Rattle.bay_bonds.proofs.bond_ns.Reads as ns
use Rattle.bay_bonds.proofs.bond_with_scaffold.Kinds as scaffold-kinds
use Rattle.bay_bonds.proofs.bond_with_scaffold.Reads as scaffold
use Rattle.bay_binding.proofs.friends_btm.Kinds as friends-kinds
use Rattle.bay_binding.proofs.friends_btm.Reads as friends

pub strand_glues_of : OneAnswer 2 glues-kinds.ps glues-kinds.r glues.Post
strand_glues_of κs input a b at_a at_b p q = one_answer p q

pub scaffold_glue_at : OneAnswer 2 bay-kinds.ps bay-kinds.r bay.Post
scaffold_glue_at κs input a b at_a at_b p q = one_answer p q

pub glue_glue_dg : OneAnswer 2 dg-kinds.ps dg-kinds.r dg.Post
glue_glue_dg κs input a b at_a at_b p q = one_answer p q

pub bond_we : OneAnswer 2 we-kinds.ps we-kinds.r we.Post
bond_we κs input a b at_a at_b p q = one_answer p q

pub bond_ns : OneAnswer 2 ns-kinds.ps ns-kinds.r ns.Post
bond_ns κs input a b at_a at_b p q = one_answer p q

pub bond_with_scaffold : OneAnswer 2 scaffold-kinds.ps scaffold-kinds.r scaffold.Post
bond_with_scaffold κs input a b at_a at_b p q = one_answer p q

pub friends_btm : OneAnswer 2 friends-kinds.ps friends-kinds.r friends.Post
friends_btm κs input a b at_a at_b p q = one_answer p q
