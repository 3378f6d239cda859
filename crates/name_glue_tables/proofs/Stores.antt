-- Stores into a list whose front is written and whose rest is as it was. Assumes nothing.
use Prim.Native.Nat.{ℕ, suc, ◌+◌, ◌<◌}
use mathlib.Core.Path.{◌≡◌, ap, ap₂, sym, ◌∙◌}
use mathlib.Core.List.{List, [], ◌∷◌, ◌++◌, append_assoc}
use native.Mathlib.Numerals.{add-one}
use lib.ListN.{length, get_or, set, take, drop}
use lib.Seq.{set_at, drop-cons, take_at, drop-append-add, drop-drop}

module _ (front old : List ℕ) (k : ℕ) (e : length front ≡ k) where
  -- a stretch behind the front
  pub stretch_behind : (more : List ℕ) (m : ℕ) → take k (front ++ drop k old) ++ (more ++ drop (k + m) (front ++ drop k old)) ≡ (front ++ more) ++ drop (k + m) old
  stretch_behind more m =
      ap₂ (λ a b. a ++ (more ++ b))
      (take_at front (drop k old) k e)
      (ap (λ j. drop (j + m) (front ++ drop k old)) (sym e) ∙ drop-append-add front (drop k old) m ∙ drop-drop m k old)
      ∙ sym (append_assoc front more (drop (k + m) old))

  -- one store behind the front
  pub store_behind : (a : ℕ) → k < length old → set (front ++ drop k old) k a ≡ (front ++ (a ∷ [])) ++ drop (k + 1) old
  store_behind a h =
      rw (add-one k, drop-cons old k 0 h) (set_at front (get_or old k 0) (drop (suc k) old) a k e ∙ sym (append_assoc front (a ∷ []) (drop (suc k) old)))
