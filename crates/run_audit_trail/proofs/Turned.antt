-- A list of strands in scan order, and the same strands newest first. Assumes nothing.
use Prim.Native.Nat.{ℕ, zero, suc, ◌+◌, ◌-◌, ◌≤◌, ◌<◌, min}
use mathlib.Core.Path.{◌≡◌, refl, sym, ◌∙◌, ap, ap₂, subst}
use mathlib.Core.List.{List, [], ◌∷◌, ◌++◌}
use native.Mathlib.Nat.{min-zero, suc-min-suc}
use native.Mathlib.Omega.{arith}
use lib.ListN.{length, get_or, take, drop, length-append, length-take, length-drop, get_or-append}
use lib.Seq.{take-nil, get_or-append_seam, get_or-take, get_or-drop, ext_get_or, length-take-le}
use Rattle.run_least_layout.proofs.Fillings.{newest_first, length_newest, newest_at}

-- the same strands in the other order
abbrev pub turned : List ℕ → List ℕ
turned f = newest_first (λ j. get_or f j 0) (length f)

pub length_turned : (f : List ℕ) → length (turned f) ≡ length f
length_turned f = length_newest (λ j. get_or f j 0) (length f)

pub turned_at : (f : List ℕ) (j : ℕ) → j < length f → get_or (turned f) j 0 ≡ get_or f (length f - suc j) 0
turned_at f j h = newest_at (λ i. get_or f i 0) (length f) j h

pub newest_same : (a b : ℕ → ℕ) (k : ℕ) → ((j : ℕ) → j < k → a j ≡ b j) → newest_first a k ≡ newest_first b k
unfolding newest_first
newest_same a b zero same = refl
newest_same a b (suc k) same = ap₂ (λ (t : ℕ) (f : List ℕ). t ∷ f) (same k (omega arith)) (newest_same a b k (λ j h. same j (omega (arith, h))))

pub turned_twice : (f : List ℕ) → turned (turned f) ≡ f
turned_twice f = ext_get_or 0 (turned (turned f)) f (length_turned (turned f) ∙ length_turned f) each
  where
    each : (i : ℕ) → i < length (turned (turned f)) → get_or (turned (turned f)) i 0 ≡ get_or f i 0
    each i h =
        let inside : i < length (turned f) = subst (λ (n : ℕ). i < n) (length_turned (turned f)) h in
        let short : i < length f = subst (λ (n : ℕ). i < n) (length_turned f) inside in
        let place : length (turned f) - suc i ≡ length f - suc i = ap (λ (n : ℕ). n - suc i) (length_turned f) in
        let again : length f - suc (length f - suc i) ≡ i = omega (arith, short) in
        turned_at (turned f) i inside
        ∙ ap (λ (j : ℕ). get_or (turned f) j 0) place
        ∙ turned_at f (length f - suc i) (omega (arith, short))
        ∙ ap (λ (j : ℕ). get_or f j 0) again

-- a strand more at the end is one more in front
pub turned_more : (f : List ℕ) (t : ℕ) → turned (f ++ (t ∷ [])) ≡ t ∷ turned f
unfolding newest_first
turned_more f t =
    let long : length (f ++ (t ∷ [])) ≡ suc (length f) = omega (arith, length-append f (t ∷ [])) in
    ap (newest_first (λ j. get_or (f ++ (t ∷ [])) j 0)) long
    ∙ ap₂ (λ (u : ℕ) (g : List ℕ). u ∷ g) (get_or-append_seam f t [] 0)
    (newest_same (λ j. get_or (f ++ (t ∷ [])) j 0) (λ j. get_or f j 0) (length f) (λ j h. get_or-append f (t ∷ []) 0 j h))

-- the first strands, and the last ones
pub turned_take : (f : List ℕ) (k : ℕ) → k ≤ length f → turned (take k f) ≡ drop (length f - k) (turned f)
turned_take f k h =
    ext_get_or 0 (turned (take k f)) (drop (length f - k) (turned f)) (omega (arith, length_turned (take k f), length-take-le k f h, length-drop (length f - k) (turned f), length_turned f)) each
  where
    each : (i : ℕ) → i < length (turned (take k f)) → get_or (turned (take k f)) i 0 ≡ get_or (drop (length f - k) (turned f)) i 0
    each i b =
        let long : length (take k f) ≡ k = length-take-le k f h in
        let inside : i < length (take k f) = subst (λ (n : ℕ). i < n) (length_turned (take k f)) b in
        let short : i < k = subst (λ (n : ℕ). i < n) long inside in
        let place : length f - suc (length f - k + i) ≡ k - suc i = omega (arith, short, h) in
        turned_at (take k f) i inside
        ∙ ap (λ (n : ℕ). get_or (take k f) (n - suc i) 0) long
        ∙ get_or-take k f (k - suc i) 0 (omega (arith, short))
        ∙ ap (λ (j : ℕ). get_or f j 0) (sym place)
        ∙ sym (turned_at f (length f - k + i) (omega (arith, short, h)))
        ∙ sym (get_or-drop (length f - k) (turned f) i 0)

pub turned_drop : (f : List ℕ) (d : ℕ) → turned (drop d f) ≡ take (length f - d) (turned f)
turned_drop f d =
    ext_get_or 0 (turned (drop d f)) (take (length f - d) (turned f)) (omega (arith, length_turned (drop d f), length-drop d f, length-take (length f - d) (turned f), length_turned f)) each
  where
    each : (i : ℕ) → i < length (turned (drop d f)) → get_or (turned (drop d f)) i 0 ≡ get_or (take (length f - d) (turned f)) i 0
    each i b =
        let inside : i < length (drop d f) = subst (λ (n : ℕ). i < n) (length_turned (drop d f)) b in
        let short : i < length f - d = subst (λ (n : ℕ). i < n) (length-drop d f) inside in
        let place : d + (length f - d - suc i) ≡ length f - suc i = omega (arith, short) in
        turned_at (drop d f) i inside
        ∙ get_or-drop d f (length (drop d f) - suc i) 0
        ∙ ap (λ (n : ℕ). get_or f (d + (n - suc i)) 0) (length-drop d f)
        ∙ ap (λ (j : ℕ). get_or f j 0) place
        ∙ sym (turned_at f i (omega (arith, short)))
        ∙ sym (get_or-take (length f - d) (turned f) i 0 short)

-- no list has more than its own strands
pub take_fewer : (l : List ℕ) (m : ℕ) → take (min (length l) m) l ≡ take m l
take_fewer [] m = take-nil (min 0 m) ∙ sym (take-nil m)
take_fewer (t ∷ l) zero = ap (λ (n : ℕ). take n (t ∷ l)) (min-zero (suc (length l)))
take_fewer (t ∷ l) (suc m) = ap (λ (n : ℕ). take n (t ∷ l)) (suc-min-suc (length l) m) ∙ ap (λ (r : List ℕ). t ∷ r) (take_fewer l m)
