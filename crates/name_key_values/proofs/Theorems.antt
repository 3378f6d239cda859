-- A key's sequence has the energy that it has when it is asked for alone. Assumes nothing.
use Prim.Native.Nat.{ℕ}
use mathlib.Core.Path.{◌≡◌, ap}
use mathlib.Core.List.{List}
use Rattle.std.specs.Prelude.{Ok}
use Rattle.units.specs.Refusals.{passes, answer}
use Rattle.dna_single.specs.Single.{single_energy}
use Rattle.dna_calls.specs.Single.{string_dna_dg_ds}
use Rattle.dna_calls.proofs.Refused.{single_passes}
use Rattle.text_entries.specs.Entries.{part}
use Rattle.name_key_values.specs.declared.GsOrSeq.TheVariants.{Seq}
use Rattle.name_key_values.specs.Refusals.{value_verdict}
use Rattle.name_key_values.specs.Values.{gs_or_seq_to_gs}

-- A sequence that a key gives and that passes has the energy that `string_dna_dg_ds` answers for it.
pub as_asked_alone : (key from to : ℕ) (sequences : List ℕ) → value_verdict key sequences (Seq from to) ≡ passes
    → string_dna_dg_ds (part sequences from to) ≡ Ok (gs_or_seq_to_gs sequences (Seq from to))
as_asked_alone key from to sequences e =
    ap (λ w. answer w (single_energy (part sequences from to))) (single_passes key (part sequences from to) e)
