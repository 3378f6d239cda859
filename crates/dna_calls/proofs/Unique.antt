-- No second answer fits the contract of a public call. Assumes nothing.
use Rattle.units.proofs.Unique.{OneAnswer, one_answer}
use Rattle.dna_calls.proofs.single.string_dna_dg_ds.Kinds as dg-ds-kinds
use Rattle.dna_calls.proofs.single.string_dna_dg_ds.Reads as dg-ds
use Rattle.dna_calls.proofs.single.string_dna_delta_g.Kinds as delta-g-kinds
use Rattle.dna_calls.proofs.single.string_dna_delta_g.Reads as delta_g
use Rattle.dna_calls.proofs.hundredths.string_dna_hundredths.Kinds as hundredths-kinds
use Rattle.dna_calls.proofs.hundredths.string_dna_hundredths.Reads as hundredths

pub string_dna_dg_ds_lem : OneAnswer 1 dg-ds-kinds.ps dg-ds-kinds.r dg-ds.Post
string_dna_dg_ds_lem κs input a b at_a at_b p q = one_answer p q

pub string_dna_delta_g_lem : OneAnswer 1 delta-g-kinds.ps delta-g-kinds.r delta_g.Post
string_dna_delta_g_lem κs input a b at_a at_b p q = one_answer p q

pub string_dna_hundredths_lem : OneAnswer 1 hundredths-kinds.ps hundredths-kinds.r hundredths.Post
string_dna_hundredths_lem κs input a b at_a at_b p q = one_answer p q
