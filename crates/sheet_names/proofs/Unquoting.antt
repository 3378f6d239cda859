-- Laws of a content that is put byte by byte, one quote for two. Assumes nothing.
use Prim.Native.Nat.{ℕ, suc, ◌+◌, ◌-◌, ◌≤◌, ◌<◌, min}
use mathlib.Core.Bool.{Bool, true, false, cond, ◌&&◌}
use mathlib.Core.List.{List, [], ◌∷◌, ◌++◌, append_assoc, append-nil}
use mathlib.Core.Path.{◌≡◌, refl, sym, ap, ◌∙◌}
use native.Mathlib.Nat.{add-zero}
use native.Mathlib.Omega.{arith}
use lib.Dec.{eqb}
use lib.ListN.{length, get_or, take, drop, length-drop, drop_of_length-le}
use lib.Seq.{take-length, drop-drop, get_or-drop, paste-zero}
use Rattle.text_put.specs.Puts.{Put, written}
use Rattle.text_put.proofs.Putting.{put_as, then_put, put_long}
use Rattle.sheet_fields.specs.Fields.{unquoted}
use Rattle.sheet_names.specs.Appended.{pair_step}

-- the first byte, and what is left after those that stand for it
first_byte : (t : List ℕ) → 0 < length t → unquoted t ≡ get_or t 0 0 ∷ unquoted (drop (pair_step t) t)
unfolding unquoted pair_step
first_byte [] h = absurd (omega arith)
first_byte (a ∷ []) h = go (eqb a 34)
  where
    go : (p : Bool) → a ∷ [] ≡ a ∷ unquoted (drop (cond (p && eqb 0 34) 2 1) (a ∷ []))
    go true = refl
    go false = refl
first_byte (a ∷ b ∷ t) h = go (eqb a 34 && eqb b 34)
  where
    go : (p : Bool) → cond p (a ∷ unquoted t) (a ∷ unquoted (b ∷ t)) ≡ a ∷ unquoted (drop (cond p 2 1) (a ∷ b ∷ t))
    go true = refl
    go false = refl

step_within : (t : List ℕ) → 0 < length t → pair_step t ≤ length t
unfolding pair_step
step_within [] h = absurd (omega arith)
step_within (a ∷ []) h = go (eqb a 34)
  where
    go : (p : Bool) → cond (p && eqb 0 34) 2 1 ≤ 1
    go true = omega arith
    go false = omega arith
step_within (a ∷ b ∷ t) h = go (eqb a 34 && eqb b 34)
  where
    go : (p : Bool) → cond p 2 1 ≤ suc (suc (length t))
    go true = omega arith
    go false = omega arith

first : (raw : List ℕ) (i : ℕ) → get_or (drop i raw) 0 0 ≡ get_or raw i 0
first raw i = get_or-drop i raw 0 0 ∙ ap (λ (n : ℕ). get_or raw n 0) (add-zero i)

-- the step at what is left
pub step_at : (raw : List ℕ) (i step : ℕ) → step ≡ pair_step (take (length raw - i) (drop i raw)) → step ≡ pair_step (drop i raw)
step_at raw i step e = e ∙ ap pair_step (rw (← length-drop i raw) (take-length (drop i raw)))

-- ---- the loop's turns

-- the bytes before place i have been put
pub record Unquoting (raw old : List ℕ) (at : ℕ) (out : List ℕ) (next i : ℕ) : Type 0 where
  pub done : List ℕ
  pub put : Put old at done next out
  pub left : done ++ unquoted (drop i raw) ≡ unquoted raw

module _ (raw old : List ℕ) (at : ℕ) where
  pub unquoting_starts : (next : ℕ) → next ≡ min (length old) at → Unquoting raw old at old next 0
  unfolding written
  unquoting_starts next e =
      let none : min 0 (length old - at) ≡ 0 = omega arith in
      record { done = []; put = record { place = omega arith; slice = rw none (paste-zero old at []) }; left = refl }

  module _ (out : List ℕ) (next i : ℕ) (s : Unquoting raw old at out next i) where
    pub unquoting_long : length out ≡ length old
    unquoting_long = put_long s.put

    pub unquoting_ends : length raw ≤ i → Put old at (unquoted raw) next out
    unfolding unquoted
    unquoting_ends k = put_as (sym (append-nil s.done) ∙ rw (drop_of_length-le raw k) at s.left) s.put

    module _ (more : i < length raw) (step : ℕ) (e : step ≡ pair_step (drop i raw)) where
      some : 0 < length (drop i raw)
      some = rw length-drop (omega arith)

      pub step_room : i + step ≤ length raw
      step_room =
          let k : pair_step (drop i raw) ≤ length raw - i = rw (← length-drop i raw) (step_within (drop i raw) some) in
          omega arith

      pub unquoting_goes_on : (r : ℕ) (out' : List ℕ) → Put out next (get_or raw i 0 ∷ []) r out' → Unquoting raw old at out' r (i + step)
      unquoting_goes_on r out' p =
          let here : unquoted (drop i raw) ≡ get_or raw i 0 ∷ unquoted (drop (i + step) raw) =
          first_byte (drop i raw) some ∙ rw (first raw i, ← e, drop-drop step i raw) refl in
          record {
            done = s.done ++ (get_or raw i 0 ∷ []);
            put = then_put s.put p;
            left = append_assoc s.done (get_or raw i 0 ∷ []) (unquoted (drop (i + step) raw)) ∙ ap (λ (l : List ℕ). s.done ++ l) (sym here) ∙ s.left;
          }

-- some byte is passed in each turn
pub step_some : (t : List ℕ) → 1 ≤ pair_step t
unfolding pair_step
step_some t = go (eqb (get_or t 0 0) 34 && eqb (get_or t 1 0) 34)
  where
    go : (p : Bool) → 1 ≤ cond p 2 1
    go true = omega arith
    go false = omega arith
