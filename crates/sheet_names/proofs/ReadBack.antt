-- Entries that all have room are read back as they were appended, by the offsets before and behind each. Assumes nothing.
use Prim.Native.Nat.{ℕ, zero, suc, ◌+◌, ◌-◌, ◌≤◌, ◌<◌, min}
use mathlib.Core.List.{List, [], ◌∷◌, ◌++◌, flatten, append_assoc}
use mathlib.Core.Path.{◌≡◌, refl, sym, ap, ◌∙◌}
use native.Mathlib.Nat.{add-zero}
use native.Mathlib.Omega.{arith}
use lib.ListN.{length, get_or, take, drop, length-append, get_or-append}
use lib.Seq.{sets, sets-eq, length-take-le, get_or-take, get_or-append-add, drop-append-add, drop-append_seam, take-append_seam, take-length}
use Rattle.text_entries.specs.Entries.{entry_of}
use Rattle.text_put.specs.Puts.{written}
use Rattle.sheet_names.specs.Appended.{ends, Appended}
use Rattle.sheet_names.specs.declared.Laid.{Laid}
use Rattle.sheet_names.proofs.Appending.{length_ends}

-- ---- what was stored, by its place

module _ (l : List ℕ) (i : ℕ) (vs : List ℕ) (h : i + length vs ≤ length l) where
  front : length (take i l) ≡ i
  front = length-take-le i l (omega arith)

  stored_before : (j : ℕ) → j < i → get_or (sets l i vs) j 0 ≡ get_or l j 0
  stored_before j k =
      ap (λ (m : List ℕ). get_or m j 0) (sets-eq vs l i h ∙ append_assoc (take i l) vs (drop (i + length vs) l))
      ∙ get_or-append (take i l) (vs ++ drop (i + length vs) l) 0 j (let f = front in omega arith) ∙ get_or-take i l j 0 k

  stored_at : (j : ℕ) → j < length vs → get_or (sets l i vs) (i + j) 0 ≡ get_or vs j 0
  stored_at j k =
      ap (λ (m : List ℕ). get_or m (i + j) 0) (sets-eq vs l i h ∙ append_assoc (take i l) vs (drop (i + length vs) l))
      ∙ ap (λ (n : ℕ). get_or (take i l ++ (vs ++ drop (i + length vs) l)) (n + j) 0) (sym front)
      ∙ get_or-append-add (take i l) (vs ++ drop (i + length vs) l) j 0 ∙ get_or-append vs (drop (i + length vs) l) 0 j k

-- ---- the entries before one, the entry and those behind it

unfoldable before : ℕ → List (List ℕ) → ℕ
before k es = length (flatten (take k es))

one_behind : (k : ℕ) (es : List (List ℕ)) → k < length es → before (suc k) es ≡ before k es + length (get_or es k [])
unfolding before flatten
one_behind k [] h = absurd (omega arith)
one_behind zero (e ∷ es) h = omega (arith, length-append e [])
one_behind (suc k) (e ∷ es) h =
    let more = one_behind k es (omega arith) in
    omega (arith, length-append e (flatten (take (suc k) es)), length-append e (flatten (take k es)))

in_three : (k : ℕ) (es : List (List ℕ)) → k < length es → flatten es ≡ flatten (take k es) ++ (get_or es k [] ++ flatten (drop (suc k) es))
unfolding flatten
in_three k [] h = absurd (omega arith)
in_three zero (e ∷ es) h = refl
in_three (suc k) (e ∷ es) h =
    rw (in_three k es (omega arith)) (sym (append_assoc e (flatten (take k es)) (get_or es k [] ++ flatten (drop (suc k) es))))

-- where all have room, an entry ends where it and those before it do
end_at : (room at : ℕ) (es : List (List ℕ)) (k : ℕ) → k < length es → at + length (flatten es) ≤ room → get_or (ends room at es) k 0 ≡ at + before (suc k) es
unfolding ends before flatten
end_at room at [] k h f = absurd (omega arith)
end_at room at (e ∷ es) zero h f =
    omega (arith, length-append e [], length-append e (flatten es))
end_at room at (e ∷ es) (suc k) h f =
    let here : min room (at + length e) ≡ at + length e = omega (arith, length-append e (flatten es)) in
    rw here (let more = end_at room (at + length e) es k (omega arith) (omega (arith, length-append e (flatten es))) in omega (arith, length-append e (flatten (take (suc k) es))))

-- ---- the theorem

module _ {out offsets present : List ℕ} {start : Laid} {entries : List (List ℕ)} {stop : Laid} {out' offsets' present' : List ℕ}
    (a : Appended out offsets present start entries stop out' offsets' present')
    (fits : start.bytes + length (flatten entries) ≤ length out)
    (room : start.entries + length entries < length offsets)
    (begins : get_or offsets start.entries 0 ≡ start.bytes) where
  stored : start.entries + 1 + length (ends (length out) start.bytes entries) ≤ length offsets
  stored = let l = length_ends (length out) start.bytes entries in omega arith

  offset_at : (k : ℕ) → k ≤ length entries → get_or offsets' (start.entries + k) 0 ≡ start.bytes + before k entries
  unfolding before flatten
  offset_at zero h =
      let e : start.entries + 0 ≡ start.entries = add-zero start.entries in
      rw (e, a.ended) (stored_before offsets (start.entries + 1) (ends (length out) start.bytes entries) stored start.entries (omega arith) ∙ begins ∙ omega arith)
  offset_at (suc k) h =
      let e : start.entries + suc k ≡ start.entries + 1 + k = omega arith in
      let l = length_ends (length out) start.bytes entries in
      rw (e, a.ended) (stored_at offsets (start.entries + 1) (ends (length out) start.bytes entries) stored k (omega arith) ∙ end_at (length out) start.bytes entries k (omega arith) fits)

  laid_out : out' ≡ take start.bytes out ++ (flatten entries ++ drop (start.bytes + length (flatten entries)) out)
  unfolding written
  laid_out =
      let n : min (length (flatten entries)) (length out - start.bytes) ≡ length (flatten entries) = omega arith in
      a.laid.slice ∙ rw (n, take-length (flatten entries)) (append_assoc (take start.bytes out) (flatten entries) (drop (start.bytes + length (flatten entries)) out))

  -- the entry with a number is the content that was appended with it
  pub reads_back : (k : ℕ) → k < length entries → entry_of out' offsets' (start.entries + k) ≡ get_or entries k []
  unfolding before
  reads_back k h =
      let entry = get_or entries k [] in
      let tail = drop (start.bytes + length (flatten entries)) out in
      let behind = flatten (drop (suc k) entries) in
      let here = offset_at k (omega arith) in
      let next : get_or offsets' (start.entries + k + 1) 0 ≡ start.bytes + before (suc k) entries =
      ap (λ (n : ℕ). get_or offsets' n 0) (omega arith) ∙ offset_at (suc k) h in
      let long : start.bytes + before (suc k) entries - (start.bytes + before k entries) ≡ length entry = omega (arith, one_behind k entries h) in
      let left : length (take start.bytes out) ≡ start.bytes = length-take-le start.bytes out (omega arith) in
      let rest : drop (start.bytes + before k entries) out' ≡ entry ++ (behind ++ tail) =
      ap (drop (start.bytes + before k entries)) laid_out
      ∙ ap (λ (n : ℕ). drop (n + before k entries) (take start.bytes out ++ (flatten entries ++ tail))) (sym left)
      ∙ drop-append-add (take start.bytes out) (flatten entries ++ tail) (before k entries)
      ∙ ap (λ (l : List ℕ). drop (before k entries) (l ++ tail)) (in_three k entries h)
      ∙ ap (drop (before k entries)) (append_assoc (flatten (take k entries)) (entry ++ behind) tail)
      ∙ drop-append_seam (flatten (take k entries)) ((entry ++ behind) ++ tail) ∙ append_assoc entry behind tail in
      rw (here, next, long, rest) (take-append_seam entry (behind ++ tail))
