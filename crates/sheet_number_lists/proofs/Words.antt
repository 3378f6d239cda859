-- The words of a content are its parts between spaces. Assumes nothing.
use Prim.Native.Nat.{ℕ}
use mathlib.Core.Bool.{Bool, true, false, cond}
use mathlib.Core.List.{List, [], ◌∷◌}
use mathlib.Core.Path.{◌≡◌, refl, ap}
use lib.Dec.{eqb}
use Rattle.std.specs.List.{slice_split, onto_first}
use Rattle.sheet_number_lists.specs.NumberLists.{joined, words}

onto : (b : ℕ) (ws : List (List ℕ)) → joined b ws ≡ onto_first b ws
unfolding joined
onto b [] = refl
onto b (w ∷ ws) = refl

pub words_are : (t : List ℕ) → words t ≡ slice_split (λ (b : ℕ). eqb b 32) t
unfolding words
words_are [] = refl
words_are (b ∷ t) = go (eqb b 32) (words_are t)
  where
    go : (q : Bool) → words t ≡ slice_split (λ (b : ℕ). eqb b 32) t
        → cond q ([] ∷ words t) (joined b (words t)) ≡ cond q ([] ∷ slice_split (λ (b : ℕ). eqb b 32) t) (onto_first b (slice_split (λ (b : ℕ). eqb b 32) t))
    go true h = ap (λ (ws : List (List ℕ)). [] ∷ ws) h
    go false h = rw (← h) (onto b (words t))
