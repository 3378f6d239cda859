-- The strand on the previous bay as the rows go by: it runs round the strands of its set. Assumes nothing.
use mathlib.Core.Path.{◌≡◌, refl, sym, ap, ◌∙◌, subst}
use mathlib.Core.Bool.{cond}
use Prim.Native.Nat.{ℕ, ◌+◌, ◌*◌, ◌/◌, ◌%◌, ◌≤◌, ◌<◌}
use native.Mathlib.Nat.{mod-lt, div-add-mod'}
use native.Mathlib.Decide.{dec_lt}
use native.Mathlib.Omega.{arith}
use lib.Arith.{digits_mod}
use lib.ListN.{length, get_or}
use borrow.Author.Tests.{lt-ltb, le-ltb}
use Rattle.units.specs.Limits.{most_strands}
use Rattle.sets.specs.Set.{has, next_of}
use Rattle.sets.proofs.Members.{member, past}
use Rattle.sets.proofs.Walk.{start, following}
use Rattle.ledger_row_choice.specs.Row.{strands_of}
use Rattle.ledger_block.specs.Block.{beside_at, following_in}
use Rattle.ledger_row_choice.proofs.Reading.{any_default}

-- the next number's rest: one more, or 0 where that is the whole
rest_more : (q c : ℕ) → 0 < c → q % c + 1 < c → (q + 1) % c ≡ q % c + 1
rest_more q c pos h =
    let split : q + 1 ≡ q / c * c + (q % c + 1) = omega (arith, div-add-mod' q c) in
    ap (λ i. i % c) split ∙ digits_mod (q / c) h

rest_again : (q c : ℕ) → 0 < c → q % c + 1 ≡ c → (q + 1) % c ≡ 0
rest_again q c pos e =
    let split : q + 1 ≡ (q / c + 1) * c + 0 = omega (arith, div-add-mod' q c) in
    ap (λ i. i % c) split ∙ digits_mod (q / c + 1) pos

pub following_on : (set u v : ℕ) → v ≡ next_of (has set) (u + 1) most_strands → v < most_strands → v ≡ following_in set u
following_on set u v e h = e ∙ sym (ap (λ b. cond b (next_of (has set) (u + 1) most_strands) (next_of (has set) 0 most_strands)) (lt-ltb (next_of (has set) (u + 1) most_strands) most_strands (subst (λ t. t < most_strands) e h)))

pub following_round : (set u v w : ℕ) → v ≡ next_of (has set) (u + 1) most_strands → most_strands ≤ v → w ≡ next_of (has set) 0 most_strands → w ≡ following_in set u
following_round set u v w e h f = f ∙ sym (ap (λ b. cond b (next_of (has set) (u + 1) most_strands) (next_of (has set) 0 most_strands)) (le-ltb (next_of (has set) (u + 1) most_strands) most_strands (subst (λ t. most_strands ≤ t) e h)))

module _ (set : ℕ) (some : 0 < length (strands_of set)) where
  pub beside_small : (q : ℕ) → beside_at set q < most_strands
  beside_small q = (member (has set) most_strands (q % length (strands_of set)) 0 (mod-lt q some)).below

  -- the first strand is on the previous bay in the first row
  pub beside_first : (u : ℕ) → u ≡ next_of (has set) 0 most_strands → u ≡ beside_at set 0
  beside_first u e =
      let none : 0 % length (strands_of set) ≡ 0 = ap (λ i. i % length (strands_of set)) (omega arith) ∙ digits_mod 0 some in
      (start (has set) most_strands u e).here ∙ any_default (strands_of set) 0 most_strands 0 some ∙ ap (λ p. get_or (strands_of set) p 0) (sym none)

  -- and from row to row it is the following one
  pub beside_next : (q u v : ℕ) → u ≡ beside_at set q → v ≡ following_in set u → v ≡ beside_at set (q + 1)
  beside_next q u v e f = go (q % length (strands_of set)) refl (dec_lt (q % length (strands_of set) + 1) (length (strands_of set)))
    where
      go : (p : ℕ) → q % length (strands_of set) ≡ p → Dec (p + 1 < length (strands_of set)) → v ≡ beside_at set (q + 1)
      go p same d =
          let c = length (strands_of set) in
          let inside : p < c = subst (λ i. i < c) same (mod-lt q some) in
          let here : u ≡ get_or (strands_of set) p 0 = e ∙ ap (λ i. get_or (strands_of set) i 0) same in
          let goes : next_of (has set) (u + 1) most_strands ≡ get_or (strands_of set) (p + 1) most_strands =
          ap (λ t. next_of (has set) (t + 1) most_strands) here ∙ following (has set) most_strands p (get_or (strands_of set) p 0) (member (has set) most_strands p 0 inside) in
          elim d [
            | yes h ↦
                let x = goes ∙ any_default (strands_of set) (p + 1) most_strands 0 h in
                f
                ∙ sym (following_on set u (next_of (has set) (u + 1) most_strands) refl (subst (λ t. t < most_strands) (sym x) (member (has set) most_strands (p + 1) 0 h).below))
                ∙ x
                ∙ ap (λ i. get_or (strands_of set) i 0) (ap (λ i. i + 1) (sym same) ∙ sym (rest_more q c some (subst (λ i. i + 1 < c) (sym same) h)))
            | no h ↦
                let last : p + 1 ≡ c = omega arith in
                let large : most_strands ≤ next_of (has set) (u + 1) most_strands = omega (arith, goes, past (has set) most_strands (p + 1) most_strands (omega arith)) in
                f
                ∙ sym (following_round set u (next_of (has set) (u + 1) most_strands) (next_of (has set) 0 most_strands) refl large refl)
                ∙ (start (has set) most_strands (next_of (has set) 0 most_strands) refl).here
                ∙ any_default (strands_of set) 0 most_strands 0 some
                ∙ ap (λ i. get_or (strands_of set) i 0) (sym (rest_again q c some (ap (λ i. i + 1) same ∙ last)))
          ]
