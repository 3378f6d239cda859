-- The entries that bring a new base, and their bases. Assumes nothing.
use Prim.Native.Nat.{ℕ, zero, suc, ◌+◌, ◌*◌, ◌-◌, ◌≤◌, ◌<◌}
use mathlib.Core.Path.{◌≡◌, refl, ap, sym, ◌∙◌}
use mathlib.Core.Bool.{Bool, true, false, cond}
use mathlib.Core.List.{List, [], ◌∷◌, ◌++◌, append_assoc, append-nil}
use mathlib.Core.Logic.{⊎_elim}
use native.Mathlib.Nat.{not-suc-le-zero, le_of_suc-le-suc, eq-or-lt_of_le, add-suc, suc-add, add-zero}
use native.Mathlib.Numerals.{add-one}
use native.Mathlib.Omega.{arith}
use lib.ListN.{length, get_or, take, drop, length-append, length-take, get_or-append}
use lib.Seq.{take-take, get_or-append_seam}
use Rattle.text_entries.specs.Entries.{part}
use Rattle.name_stars.specs.Stars.{base_length, base_of}
use Rattle.name_base_list.specs.Bases.{base_name}
use Rattle.name_stars.proofs.BeforeStars.{base_at_most}
use Rattle.name_glues.specs.Names.{GlueNames, name_at}
use Rattle.name_new_bases.specs.Bases.{bases_of, is_new, firsts_to}

-- numbers below k, and perhaps k behind them, are below k + 1
one_more : (b : Bool) (es : List ℕ) (k : ℕ) → ((j : ℕ) → j < length es → get_or es j 0 < k)
    → (j : ℕ) → j < length (es ++ cond b (k ∷ []) []) → get_or (es ++ cond b (k ∷ []) []) j 0 < suc k
one_more false es k f j h =
    let inside : j < length es = rw (append-nil es) at h in
    rw (append-nil es) (omega (arith, f j inside))
one_more true es k f j h = ⊎_elim last earlier (eq-or-lt_of_le (le_of_suc-le-suc (rw (length-append es (k ∷ []), add-one (length es)) at h)))
  where
    last : j ≡ length es → get_or (es ++ (k ∷ [])) j 0 < suc k
    last e = rw (e, get_or-append_seam es k [] 0) (omega arith)

    earlier : j < length es → get_or (es ++ (k ∷ [])) j 0 < suc k
    earlier l = rw (get_or-append es (k ∷ []) 0 j l) (omega (arith, f j l))

module _ (n : GlueNames) where
  -- two numbers for each entry
  pub length_bases : (es : List ℕ) → length (bases_of n es) ≡ length es * 2
  unfolding bases_of
  length_bases [] = refl
  length_bases (e ∷ es) = omega (arith, length_bases es)

  pub bases_append : (es fs : List ℕ) → bases_of n (es ++ fs) ≡ bases_of n es ++ bases_of n fs
  unfolding bases_of
  bases_append [] fs = refl
  bases_append (e ∷ es) fs = rw (bases_append es fs)

  -- offset and length of the base that entry j of these brings
  pub base_offset : (es : List ℕ) (j : ℕ) → j < length es → get_or (bases_of n es) (j + j) 0 ≡ get_or n.offsets (get_or es j 0) 0
  unfolding bases_of
  base_offset [] j h = absurd (not-suc-le-zero h)
  base_offset (e ∷ es) zero h = refl
  base_offset (e ∷ es) (suc j) h = rw (add-suc (suc j) j, suc-add j j) (base_offset es j (le_of_suc-le-suc h))

  pub base_size : (es : List ℕ) (j : ℕ) → j < length es → get_or (bases_of n es) (j + j + 1) 0 ≡ base_length (name_at n (get_or es j 0))
  unfolding bases_of
  base_size [] j h = absurd (not-suc-le-zero h)
  base_size (e ∷ es) zero h = refl
  base_size (e ∷ es) (suc j) h = rw (add-suc (suc j) j, suc-add j j, suc-add (suc (j + j)) 1, suc-add (j + j) 1) (base_size es j (le_of_suc-le-suc h))

  -- and the base itself: the offset and the length that are kept give it back
  kept_base : (text : List ℕ) (from to : ℕ) → take (from + base_length (part text from to) - from) (drop from text) ≡ base_of (part text from to)
  kept_base text from to =
      let name = part text from to in
      let all : from + base_length name - from ≡ base_length name = omega arith in
      let inside : base_length name ≤ to - from = omega (arith, base_at_most name, length-take (to - from) (drop from text)) in
      ap (λ k. take k (drop from text)) all ∙ sym (take-take (base_length name) (to - from) (drop from text) inside)

  pub base_of_first : (es : List ℕ) (j : ℕ) → j < length es → base_name n.text (bases_of n es) j ≡ base_of (name_at n (get_or es j 0))
  base_of_first es j h =
      rw (base_offset es j h, base_size es j h) (kept_base n.text (get_or n.offsets (get_or es j 0) 0) (get_or n.offsets (get_or es j 0 + 1) 0))

  -- whether entry i is new among the entries before it
  abbrev pub brings : ℕ → Bool
  brings i = is_new n (bases_of n (firsts_to n i)) (length (firsts_to n i)) i

  pub firsts_kept : (i : ℕ) → brings i ≡ false → firsts_to n (i + 1) ≡ firsts_to n i
  unfolding firsts_to
  firsts_kept i e = rw (add-one i, e) (append-nil (firsts_to n i))

  pub firsts_more : (i : ℕ) → brings i ≡ true → firsts_to n (i + 1) ≡ firsts_to n i ++ (i ∷ [])
  unfolding firsts_to
  firsts_more i e = rw (add-one i, e)

  -- entries that bring a base are among those looked at
  pub firsts_below : (k j : ℕ) → j < length (firsts_to n k) → get_or (firsts_to n k) j 0 < k
  unfolding firsts_to
  firsts_below zero j h = absurd (not-suc-le-zero h)
  firsts_below (suc k) j h = one_more (brings k) (firsts_to n k) k (firsts_below k) j h

  -- what later entries bring stands behind
  pub firsts_grow : (i d : ℕ) → (rest : List ℕ) × (firsts_to n (i + d) ≡ firsts_to n i ++ rest)
  unfolding firsts_to
  firsts_grow i zero = ([], rw (add-zero i, append-nil (firsts_to n i)))
  firsts_grow i (suc d) =
      let before = firsts_grow i d in
      let more = cond (brings (i + d)) ((i + d) ∷ []) [] in
      (before.0 ++ more, rw (add-suc i d) (ap (λ es. es ++ more) before.1 ∙ append_assoc (firsts_to n i) before.0 more))
