-- Laws of the fields that a text begins with: where the next one stands, and some fields followed by others. Assumes nothing.
use Prim.Native.Nat.{ℕ, zero, suc, ◌+◌, ◌-◌, ◌≤◌, zero-le}
use mathlib.Core.List.{List, ◌∷◌, ◌++◌}
use mathlib.Core.Path.{◌≡◌, refl, sym, ap, ◌∙◌}
use native.Mathlib.Nat.{zero-add, suc-add}
use native.Mathlib.Omega.{arith}
use lib.ListN.{length, drop, length-drop}
use lib.Seq.{drop-drop}
use Rattle.sheet_fields.specs.Fields.{field, content, after}
use Rattle.sheet_fields.specs.Runs.{contents, past, bytes_in}
use Rattle.sheet_fields.proofs.Bounds.{field_within}

pub bytes_within : (k : ℕ) (t : List ℕ) → bytes_in k t ≤ length t
unfolding bytes_in after
bytes_within zero t = zero-le
bytes_within (suc k) t =
    let n = (field t).next in
    let w = (field_within t).ends in
    let more : bytes_in k (drop n t) ≤ length t - n = rw (← length-drop n t) (bytes_within k (drop n t)) in
    omega arith

-- a place some fields further on stands in the text
pub place_within : (text : List ℕ) (at k to : ℕ) → at ≤ length text → to ≡ at + bytes_in k (drop at text) → to ≤ length text
place_within text at k to h e =
    let most : bytes_in k (drop at text) ≤ length text - at = rw (← length-drop at text) (bytes_within k (drop at text)) in
    omega arith

pub drop_bytes : (k : ℕ) (t : List ℕ) → drop (bytes_in k t) t ≡ past k t
unfolding bytes_in past after
drop_bytes zero t = refl
drop_bytes (suc k) t = sym (drop-drop (bytes_in k (after t)) (field t).next t) ∙ drop_bytes k (after t)

-- the place after some fields is where the text after them begins
pub past_at : (k : ℕ) (text : List ℕ) (at : ℕ) → drop (at + bytes_in k (drop at text)) text ≡ past k (drop at text)
past_at k text at = sym (drop-drop (bytes_in k (drop at text)) at text) ∙ drop_bytes k (drop at text)

-- ---- some fields, and others after them

pub contents_add : (a b : ℕ) (t : List ℕ) → contents (a + b) t ≡ contents a t ++ contents b (past a t)
unfolding contents past
contents_add zero b t = rw (zero-add b)
contents_add (suc a) b t = rw (suc-add a b) (ap (λ (cs : List (List ℕ)). content t ∷ cs) (contents_add a b (after t)))

pub past_add : (a b : ℕ) (t : List ℕ) → past (a + b) t ≡ past b (past a t)
unfolding past
past_add zero b t = rw (zero-add b)
past_add (suc a) b t = rw (suc-add a b) (past_add a b (after t))

pub bytes_add : (a b : ℕ) (t : List ℕ) → bytes_in (a + b) t ≡ bytes_in a t + bytes_in b (past a t)
unfolding bytes_in past
bytes_add zero b t = rw (zero-add b) (omega arith)
bytes_add (suc a) b t = let more = bytes_add a b (after t) in rw (suc-add a b) (omega arith)
