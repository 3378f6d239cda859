-- The first stray byte is where the text ends: the bytes before it are characters one after the other, no character begins there, and there is one such place only.
-- Assumes nothing.
use Prim.Native.Nat.{ℕ, zero, suc, ◌+◌, ◌≤◌}
use mathlib.Core.List.{List, [], ◌++◌, append_assoc}
use mathlib.Core.Path.{◌≡◌, refl, sym, ◌∙◌, ap}
use native.Mathlib.Omega.{arith}
use lib.ListN.{length, take, drop, length-append, length-drop, take-append-drop}
use lib.Seq.{take-add, take-length, drop-append_seam, drop-drop, length-take-le}
use Rattle.text_plain.specs.Texts.{character_length, first_stray}
use Rattle.text_plain.specs.Characters.{Character, one, two, three, four, Text, nothing, more, Stray}
use Rattle.text_plain.proofs.Characters.{character_fits}
use Rattle.text_plain.proofs.Strays.{character_passed, stray_at_once}
use Rattle.text_plain.proofs.Soundness.{character_sound}
use Rattle.text_plain.proofs.Completeness.{character_complete}

some_bytes : {c : List ℕ} → Character c → 1 ≤ length c
some_bytes (one h a) = omega arith
some_bytes (two x y hy l m a) = omega arith
some_bytes (three x y z hy hz l m a) = omega arith
some_bytes (four x y z w hy hz hw l a) = omega arith

-- no character begins a text
abbrev None : List ℕ → Type 0
None t = (c rest : List ℕ) → Character c → t ≡ c ++ rest → ⊥

none_taken : (t : List ℕ) → None t → character_length t ≡ 0
none_taken t free = go (character_length t) refl
  where
    go : (n : ℕ) → character_length t ≡ n → character_length t ≡ 0
    go zero e = e
    go (suc n) e = absurd (free (take (character_length t) t) (drop (character_length t) t) (character_sound t (omega arith)) (sym (take-append-drop (character_length t) t)))

none_begins : (t : List ℕ) → character_length t ≡ 0 → None t
none_begins t e c rest k s =
    let long = character_complete k rest in
    let same = ap character_length s in
    let bytes = some_bytes k in
    omega arith

-- a character at the front is passed
past_character : {c : List ℕ} → Character c → (rest : List ℕ) → first_stray (c ++ rest) ≡ length c + first_stray rest
past_character {c} k rest = go (length c) refl
  where
    go : (n : ℕ) → length c ≡ n → first_stray (c ++ rest) ≡ length c + first_stray rest
    go zero e = let bytes = some_bytes k in absurd (omega arith)
    go (suc n) e =
        let passed = character_passed (c ++ rest) n (sym (character_complete k rest ∙ e)) in
        passed ∙ rw (← e, drop-append_seam c rest)

-- a text and what begins with no character
stray_behind : {t : List ℕ} → Text t → (rest : List ℕ) → None rest → first_stray (t ++ rest) ≡ length t
stray_behind nothing rest free = stray_at_once rest (none_taken rest free)
stray_behind (more {c} {t} k w) rest free =
    let p = past_character k (t ++ rest) in
    let q = stray_behind w rest free in
    rw (append_assoc c t rest, length-append c t) (omega arith)

-- ---- the first stray byte is such a place

nothing_found : (t : List ℕ) → character_length t ≡ 0 → Stray t (first_stray t)
nothing_found t e = rw (stray_at_once t e) (record { within = omega arith; front = nothing; stray = none_begins t e })

one_found : (t : List ℕ) (n : ℕ) → character_length t ≡ suc n → Stray (drop (suc n) t) (first_stray (drop (suc n) t)) → Stray t (first_stray t)
one_found t n e s =
    let fits = character_fits t in
    let rest = drop (suc n) t in
    let r = first_stray rest in
    let k : Character (take (suc n) t) = rw e at (character_sound t (omega arith)) in
    rw (character_passed t n (sym e))
    (record { within = let w = s.within in omega (arith, length-drop (suc n) t); front = rw (take-add (suc n) r t) (more k s.front); stray = rw (← drop-drop r (suc n) t) s.stray })

by_length : (t : List ℕ) (n : ℕ) → character_length t ≡ n → ((m : ℕ) → character_length t ≡ suc m → Stray (drop (suc m) t) (first_stray (drop (suc m) t))) → Stray t (first_stray t)
by_length t zero e f = nothing_found t e
by_length t (suc n) e f = one_found t n e (f n e)

found : (fuel : ℕ) (t : List ℕ) → length t ≤ fuel → Stray t (first_stray t)
found zero t h = let fits = character_fits t in nothing_found t (omega arith)
found (suc fuel) t h = by_length t (character_length t) refl (λ m e. let fits = character_fits t in found fuel (drop (suc m) t) (rw (length-drop (suc m) t) (omega arith)))

pub stray_found : (t : List ℕ) → Stray t (first_stray t)
stray_found t = found (length t) t (omega arith)

-- ---- and the only one

pub one_stray : (t : List ℕ) (n : ℕ) → Stray t n → n ≡ first_stray t
one_stray t n s =
    let e = stray_behind s.front (drop n t) s.stray in
    let w = s.within in
    let l = length-take-le n t w in
    let g = ap first_stray (take-append-drop n t) in
    omega arith

-- ---- all bytes are text exactly where the first stray place is the end

pub text_to_the_end : {t : List ℕ} → Text t → first_stray t ≡ length t
text_to_the_end nothing = let fits = character_fits [] in stray_at_once [] (omega arith)
text_to_the_end (more {c} {t} k w) =
    let p = past_character k t in
    let q = text_to_the_end w in
    rw (length-append c t) (omega arith)

pub to_the_end_a_text : (t : List ℕ) → first_stray t ≡ length t → Text t
to_the_end_a_text t e = let s = stray_found t in rw (take-length t) at (rw e at s.front)
