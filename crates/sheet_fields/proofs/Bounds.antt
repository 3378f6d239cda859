-- Where a field's places lie: they follow each other and stay within the text. Assumes nothing.
use Prim.Native.Nat.{ℕ, suc, ◌+◌, ◌-◌, ◌≤◌, zero-le}
use mathlib.Core.Bool.{Bool, true, false, cond, ◌&&◌}
use mathlib.Core.List.{List, [], ◌∷◌}
use mathlib.Core.Path.{◌≡◌, refl}
use native.Mathlib.Omega.{arith}
use borrow.Author.Tests.{eqb-true}
use lib.Dec.{eqb}
use lib.ListN.{length, get_or, take, drop, length-drop, length-take}
use lib.Seq.{drop-drop}
use Rattle.sheet_fields.specs.Fields.{plain_length, quoted_length, ending_of, broken, field_of, bare_field, quoted_field, is_quoted, field, field_at, unquoted, raw, content, after}
use Rattle.sheet_fields.specs.Fields.{EndFound}
use Rattle.sheet_fields.specs.Fields.{FieldFound}
use Rattle.sheet_fields.proofs.Scanning.{plain_within, width_within, quote_within}

-- a field's places within a text
pub record Within (t : List ℕ) (f : FieldFound) : Type 0 where
  pub ordered : f.from ≤ f.to
  pub onward : f.to ≤ f.next
  pub ends : f.next ≤ length t

placed_within : (t : List ℕ) (from to at : ℕ) (e : EndFound) → from ≤ to → to ≤ at → (e.sound ≡ true → at + e.width ≤ length t) → Within t (field_of from to at e)
unfolding field_of
placed_within t from to at e h k ends = go e.sound ends
  where
    go : (s : Bool) → (s ≡ true → at + e.width ≤ length t)
        → Within t (cond s (record { sound = true; more = e.more; from = from; to = to; next = at + e.width }) (record { sound = false; more = false; from = 0; to = 0; next = 0 }))
    go true w = record { ordered = h; onward = omega arith; ends = w refl }
    go false w = record { ordered = omega arith; onward = omega arith; ends = zero-le }

bare_within : (t : List ℕ) → Within t (bare_field t)
unfolding bare_field
bare_within t =
    let n = plain_length t in
    let room = plain_within t in
    let w : (ending_of (drop n t)).width ≤ length t - n = rw (← length-drop n t) (width_within (drop n t)) in
    placed_within t 0 n n (ending_of (drop n t)) zero-le (omega arith) (λ e. omega arith)

quoted_within : (t : List ℕ) → Within t (quoted_field t)
unfolding quoted_field
quoted_within t = go (eqb (get_or t (n + 1) 0) 34) refl
  where
    n : ℕ
    n = quoted_length (drop 1 t)

    go : (q : Bool) → eqb (get_or t (n + 1) 0) 34 ≡ q → Within t (field_of 1 (n + 1) (n + 2) (cond q (ending_of (drop (n + 2) t)) broken))
    go true e =
        let room = quote_within t (n + 1) (eqb-true (get_or t (n + 1) 0) 34 e) in
        let w : (ending_of (drop (n + 2) t)).width ≤ length t - (n + 2) = rw (← length-drop (n + 2) t) (width_within (drop (n + 2) t)) in
        placed_within t 1 (n + 1) (n + 2) (ending_of (drop (n + 2) t)) (omega arith) (omega arith) (λ s. omega arith)
    go false e = placed_within t 1 (n + 1) (n + 2) broken (omega arith) (omega arith) (λ s. let z : ◌≡◌ {A = ℕ} 0 1 = cc in absurd (omega arith))

pub field_within : (t : List ℕ) → Within t (field t)
unfolding field
field_within t = go (is_quoted t)
  where
    go : (q : Bool) → Within t (cond q (quoted_field t) (bare_field t))
    go true = quoted_within t
    go false = bare_within t

-- the same within a text in which the field stands at a place
pub field_at_within : (text : List ℕ) (at : ℕ) → at ≤ length text → Within text (field_at text at)
field_at_within text at h =
    let w = field_within (drop at text) in
    let e : (field (drop at text)).next ≤ length text - at = rw (← length-drop at text) w.ends in
    record { ordered = let o = w.ordered in omega arith; onward = let o = w.onward in omega arith; ends = omega arith }

-- what follows the field at a place
pub after_at : (text : List ℕ) (at : ℕ) → after (drop at text) ≡ drop (field_at text at).next text
unfolding after
after_at text at = drop-drop (field (drop at text)).next at text

-- the bytes between the places of the field at a place
pub raw_at : (text : List ℕ) (at : ℕ) → take ((field_at text at).to - (field_at text at).from) (drop (field_at text at).from text) ≡ raw (drop at text)
unfolding raw
raw_at text at =
    let f = field (drop at text) in
    let n : (at + f.to) - (at + f.from) ≡ f.to - f.from = omega arith in
    rw (n, drop-drop f.from at text)

-- a field takes at least the bytes of its content
pub raw_length : (t : List ℕ) → length (raw t) ≤ (field t).next
unfolding raw
raw_length t = let w = field_within t in let o = w.onward in rw length-take (omega arith)

unquoted_length : (r : List ℕ) → length (unquoted r) ≤ length r
unfolding unquoted
unquoted_length [] = zero-le
unquoted_length (a ∷ []) = omega arith
unquoted_length (a ∷ b ∷ t) = go (eqb a 34 && eqb b 34) (unquoted_length t) (unquoted_length (b ∷ t))
  where
    go : (q : Bool) → length (unquoted t) ≤ length t → length (unquoted (b ∷ t)) ≤ suc (length t)
        → length (cond q (a ∷ unquoted t) (a ∷ unquoted (b ∷ t))) ≤ suc (suc (length t))
    go true h k = omega arith
    go false h k = omega arith

pub content_length : (t : List ℕ) → length (content t) ≤ (field t).next
unfolding content
content_length t = go (is_quoted t)
  where
    go : (q : Bool) → length (cond q (unquoted (raw t)) (raw t)) ≤ (field t).next
    go true = let k = raw_length t in let h = unquoted_length (raw t) in omega arith
    go false = raw_length t
