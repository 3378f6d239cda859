-- The place that a search to the end of a text gives, and the end where it gives none. Assumes nothing.
use Rattle.std.proofs.Common.{◌≡◌, ℕ, ◌+◌, ◌-◌, ◌≤◌, not, true, false, cond, List, ◌∷◌, length, take, drop, length-drop, refl, arith}
use Rattle.std.specs.Bool.{◌==◌}
use Rattle.std.specs.List.{position_or_len}
use Rattle.std.specs.Option.{unwrap_or}
use Rattle.std.proofs.lemmas.List.Recursion.{is_position_or_len}
use Rattle.std.proofs.lemmas.List.Sums.{prefix_len-le-length}
use Rattle.std.proofs.Math.Seq.{take_all}
use Rattle.text_search.specs.Search.{index_of, index_after, place_in}

index_step : (b x : ℕ) (xs : List ℕ) → index_of b (x ∷ xs) ≡ cond (x == b) 0 (1 + index_of b xs)
unfolding index_of index_after
index_step b x xs = elim (x == b) as (λ t. index_after t (index_of b xs) ≡ cond t 0 (1 + index_of b xs)) [ true ↦ refl | false ↦ omega arith ]

-- the place of the first b, as std has it
pub index_of_position : (b : ℕ) (xs : List ℕ) → index_of b xs ≡ position_or_len (λ x. x == b) xs
unfolding index_of
index_of_position b xs = is_position_or_len (index_of b) (λ x. x == b) refl (index_step b) xs

pub place_or_end : (b from : ℕ) (xs : List ℕ) → from ≤ length xs
    → unwrap_or (place_in b from (length xs) xs) (length xs) ≡ from + index_of b (drop from xs)
place_or_end b from xs h =
    let most = prefix_len-le-length (λ x. not (x == b)) (drop from xs) in
    let all : take (length xs - from) (drop from xs) ≡ drop from xs = take_all (length xs - from) (drop from xs) (rw (length-drop from xs) (omega arith)) in
    rw (all, index_of_position b (drop from xs)) (grind (arith, length-drop {A = ℕ}, most))
