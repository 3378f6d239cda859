-- No second answer fits the contract of the public call. Assumes nothing.
use Rattle.units.proofs.Unique.{OneAnswer, one_answer}
use Rattle.dna_pairs.proofs.sequence_pair_str_dg_ds.Kinds as pair-kinds
use Rattle.dna_pairs.proofs.sequence_pair_str_dg_ds.Reads as pair

pub sequence_pair_str_dg_ds : OneAnswer 2 pair-kinds.ps pair-kinds.r pair.Post
sequence_pair_str_dg_ds κs input a b at_a at_b p q = one_answer p q
