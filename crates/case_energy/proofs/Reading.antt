-- A list that could be read stands at the front of the table that it was read into. Assumes nothing.
use Prim.Native.Nat.{ℕ, suc, ◌^◌, ◌≤◌}
use mathlib.Core.Bool.{Bool, true, false, cond, ◌&&◌}
use mathlib.Core.List.{List, [], ◌∷◌}
use mathlib.Core.Path.{◌≡◌, refl, sym, ap, ◌∙◌}
use native.Mathlib.Omega.{arith}
use borrow.Author.Tests.{leb-true}
use lib.Dec.{leb}
use lib.Ieee.{Float}
use lib.ListN.{length, take, drop}
use lib.Seq.{take_all, take-length, take-append-le}
use Rattle.std.proofs.Common.{Option, Some, None}
use Rattle.case_lists.specs.Lists.{items, all, values, counted, front}
use Rattle.case_text.specs.Fields.{words, any_field, first_field}
use Rattle.case_fields.specs.Values.{field_count, field_front}
use Rattle.text_digits.specs.Digits.{worth, is_number}
use Rattle.text_put.specs.Words.{bytes}
use Rattle.std.specs.Prelude.{Result}
use Rattle.units.specs.declared.refusal.Refusal.{Refusal}
use Rattle.bay_system.specs.System.{System}
use Rattle.energy_state.specs.StateG.{state_g}
use Rattle.case_replies.specs.Replies.{energy_text}
use Rattle.case_energy.specs.Answer.{layout_in, answer_text}

module _ {A : Type 0} (ok : List ℕ → Bool) (value : List ℕ → A) where
  -- where each item can be read, there is a value for each
  all_valued : (ws : List (List ℕ)) → all ok ws ≡ true → length (values ok value ws) ≡ length ws
  unfolding all values
  all_valued [] e = refl
  all_valued (w ∷ ws) e = go (ok w) e (all_valued ws)
    where
      go : (t : Bool) → t && all ok ws ≡ true → (all ok ws ≡ true → length (values ok value ws) ≡ length ws)
          → length (cond t (value w ∷ values ok value ws) []) ≡ suc (length ws)
      go true h more = ap suc (more h)
      go false h more = let z : ◌≡◌ {A = ℕ} 0 1 = cc in absurd (omega arith)

  front_taken : (ws : List (List ℕ)) (old : List A) → all ok ws ≡ true → length ws ≤ length old → take (length ws) (front (values ok value ws) old) ≡ values ok value ws
  unfolding front
  front_taken ws old e h =
      let vs = values ok value ws in
      let n : length vs ≡ length ws = all_valued ws e in
      let whole : take (length old) vs ≡ vs = take_all (length old) vs (omega arith) in
      rw (whole, ← n) (take-append-le (length vs) vs (drop (length vs) old) (omega arith) ∙ take-length vs)

  counted_taken : (ws : List (List ℕ)) (old : List A) (n : ℕ) → counted ok ws (length old) ≡ Some n → take n (front (values ok value ws) old) ≡ values ok value ws
  unfolding counted
  counted_taken ws old n = go (all ok ws) (leb (length ws) (length old)) refl refl
    where
      go : (a b : Bool) → all ok ws ≡ a → leb (length ws) (length old) ≡ b → cond (a && b) (Some (length ws)) None ≡ Some n
          → take n (front (values ok value ws) old) ≡ values ok value ws
      go true true e h t = let same : length ws ≡ n = cc in rw (← same) (front_taken ws old e (leb-true (length ws) (length old) h))
      go true false e h t = cc
      go false b e h t = cc

  field_taken : (key line : List ℕ) (old : List A) (room : ℕ) → length old ≡ room → (n : ℕ) → field_count ok items key line room ≡ Some n
      → take n (field_front ok value items key line old) ≡ values ok value (items (first_field key (words line)))
  unfolding field_count field_front
  field_taken key line old room long n = rw (sym long) (go (any_field key (words line)))
    where
      ws : List (List ℕ)
      ws = items (first_field key (words line))

      go : (there : Bool) → cond there (counted ok ws (length old)) None ≡ Some n
          → take n (cond there (front (values ok value ws) old) old) ≡ values ok value ws
      go true t = counted_taken ws old n t
      go false t = cc

-- what is told of a layout that was read into a table of 1,089 places
module _ (s : System) (line : List ℕ) where
  abbrev count : Option ℕ
  count = field_count (is_number (2 ^ 32)) items (bytes "layout") line 1089

  pub asked : (n : ℕ) → count ≡ Some n → (old table layout : List ℕ) → length old ≡ 1089
      → table ≡ field_front (is_number (2 ^ 32)) (worth 10 0) items (bytes "layout") line old → layout ≡ take n table
      → (a : Result Float Refusal) → a ≡ state_g s layout → energy_text a ≡ answer_text s line
  asked n e old table layout long t l a g =
      let same : layout ≡ layout_in line = l ∙ rw t (field_taken (is_number (2 ^ 32)) (worth 10 0) (bytes "layout") line old 1089 long n e) in
      rw (e, g, same)
