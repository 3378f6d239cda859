-- No second answer fits the contract of a public call. Assumes nothing.
use Prim.Native.Nat.{ℕ}
use mathlib.Core.List.{List}
use denote.Ref.{Bor}
use Rattle.units.proofs.Unique.{OneAnswer, OneAnswerAs, one_answer}
use Rattle.name_tiles.proofs.tile_name_refusal.Kinds as refusal-kinds
use Rattle.name_tiles.proofs.tile_name_refusal.Reads as refusal
use Rattle.name_tiles.proofs.tile_name.Kinds as name-kinds
use Rattle.name_tiles.proofs.tile_name.Reads as name

pub tile_name_refusal : OneAnswer 2 refusal-kinds.ps refusal-kinds.r refusal.Post
tile_name_refusal κs input a b at_a at_b p q = one_answer p q

-- where a part begins, and its bytes
abbrev pub place_and_bytes : Bor (List ℕ) → (ℕ × ℕ) × List ℕ
place_and_bytes part = (part.ref_ptr, part.now)

pub tile_name : OneAnswerAs 2 name-kinds.ps name-kinds.r (λ κs part. place_and_bytes part) name.Post
tile_name κs input a b at_a at_b p q = λ i. (one_answer p.1 q.1 i, one_answer p.0 q.0 i)
