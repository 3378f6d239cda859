-- What a bay's list keeps of a set. Assumes nothing.
use Prim.Native.Nat.{ℕ, ◌^◌, ◌<◌}
use mathlib.Core.Path.{◌≡◌, refl, sym, ◌∙◌, ap}
use mathlib.Core.Bool.{Bool, true, false, ◌&&◌}
use mathlib.Core.List.{List, [], ◌∷◌}
use native.Mathlib.Omega.{arith}
use lib.ListN.{length}
use Rattle.sets.specs.Set.{has, word}
use Rattle.sets.proofs.Words.{word_same, word_has, has_word}
use Rattle.bay_lists.specs.Lists.{names, list_allows}

pub and_true : (a : Bool) → (a && true) ≡ a
and_true true = refl
and_true false = refl

-- an empty list allows every strand, another those that it names
pub empty_allows : (list : List ℕ) (t : ℕ) → length list ≡ 0 → true ≡ list_allows list t
empty_allows [] t e = refl
empty_allows (x ∷ list) t e = absurd (omega arith)

pub some_names : (list : List ℕ) (t : ℕ) → (length list ≡ 0 → ⊥) → names list t ≡ list_allows list t
some_names [] t n = absurd (n refl)
some_names (x ∷ list) t n = refl

-- an empty list keeps the whole set
pub kept_whole : (set : ℕ) {read : List ℕ} (list : List ℕ) → set < 2 ^ 64 → read ≡ list → length read ≡ 0 → set ≡ word (λ t. has set t && list_allows list t) 64
kept_whole set {read} list h e none =
    sym (word_has set 64 h)
    ∙ word_same (has set) (λ t. has set t && list_allows list t) 64
    (λ t l. sym (and_true (has set t)) ∙ ap (λ (b : Bool). has set t && b) (empty_allows read t none) ∙ ap (λ (x : List ℕ). has set t && list_allows x t) e)

-- another keeps what it names
pub kept_named : (set : ℕ) {read : List ℕ} (list : List ℕ) → read ≡ list → (length read ≡ 0 → ⊥) → {named r : ℕ} → named ≡ word (names read) 64
    → r ≡ word (λ t. has set t && has named t) 64 → r ≡ word (λ t. has set t && list_allows list t) 64
kept_named set {read} list e some {named} n made =
    made
    ∙ word_same (λ t. has set t && has named t) (λ t. has set t && list_allows list t) 64
    (λ t l. ap (λ (b : Bool). has set t && b) (ap (λ (w : ℕ). has w t) n ∙ has_word (names read) 64 t l ∙ some_names read t some ∙ ap (λ (x : List ℕ). list_allows x t) e))

-- what a list keeps of the set of what is permitted
pub kept_of : (p q : ℕ → Bool) {own r : ℕ} → own ≡ word p 64 → r ≡ word (λ t. has own t && q t) 64 → r ≡ word (λ t. p t && q t) 64
kept_of p q {own} e made =
    made ∙ word_same (λ t. has own t && q t) (λ t. p t && q t) 64 (λ t l. ap (λ (b : Bool). b && q t) (ap (λ (w : ℕ). has w t) e ∙ has_word p 64 t l))
