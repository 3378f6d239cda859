-- No second answer fits the contract of a call. Assumes nothing.
use Prim.Native.Nat.{ℕ}
use mathlib.Core.List.{List}
use denote.Ref.{Bor}
use Rattle.units.proofs.Unique.{OneAnswer, OneAnswerAs, one_answer}
use Rattle.name_stars.proofs.self_and_inverse.Kinds as base-kinds
use Rattle.name_stars.proofs.self_and_inverse.Reads as base
use Rattle.name_stars.proofs.is_from.Kinds as from-kinds
use Rattle.name_stars.proofs.is_from.Reads as from
use Rattle.name_stars.proofs.star_count.Kinds as stars-kinds
use Rattle.name_stars.proofs.star_count.Reads as stars
use Rattle.name_key_values.proofs.gsorseq_to_gs.Kinds as energy-kinds
use Rattle.name_key_values.proofs.gsorseq_to_gs.Reads as energy

-- where a part begins, and its bytes
abbrev pub place_and_bytes : Bor (List ℕ) → (ℕ × ℕ) × List ℕ
place_and_bytes part = (part.ref_ptr, part.now)

pub self_and_inverse : OneAnswerAs 1 base-kinds.ps base-kinds.r (λ κs part. place_and_bytes part) base.Post
self_and_inverse κs input a b at_a at_b p q = λ i. (one_answer p.1 q.1 i, one_answer p.0 q.0 i)

pub is_from_lem : OneAnswer 1 from-kinds.ps from-kinds.r from.Post
is_from_lem κs input a b at_a at_b p q = one_answer p q

pub star_count_lem : OneAnswer 1 stars-kinds.ps stars-kinds.r stars.Post
star_count_lem κs input a b at_a at_b p q = one_answer p q

pub gsorseq_to_gs : OneAnswer 1 energy-kinds.ps energy-kinds.r energy.Post
gsorseq_to_gs κs input a b at_a at_b p q = one_answer p q
