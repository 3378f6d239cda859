-- A table that is written from its start by a function of the place. Assumes nothing.
use Prim.Native.Nat.{ℕ, ◌+◌, ◌<◌}
use mathlib.Core.Path.{◌≡◌, sym, ◌∙◌, ap, ap₂}
use mathlib.Core.List.{List, [], ◌∷◌, ◌++◌}
use native.Mathlib.Numerals.{add-one}
use lib.ListN.{length, set, take}
use lib.Seq.{take-suc-set, take-length}
use Rattle.ledger_rows.specs.Blocks.{tab}
use Rattle.ledger_rows.proofs.Lists.{tab_more, tab_none}

module _ {A : Type 0} (f : ℕ → A) (table : List A) (i : ℕ) where
  -- one place more
  pub one_more : {x : A} → take i table ≡ tab f i → i < length table → x ≡ f i → take (i + 1) (set table i x) ≡ tab f (i + 1)
  one_more {x} e h made =
      ap (λ (k : ℕ). take k (set table i x)) (add-one i) ∙ take-suc-set table i x h ∙ ap₂ (λ (front : List A) (y : A). front ++ (y ∷ [])) e made ∙ sym (tab_more f i)

  -- and all of them
  pub whole : (n : ℕ) → take i table ≡ tab f i → i ≡ n → length table ≡ n → table ≡ tab f n
  whole n e last long = sym (take-length table) ∙ ap (λ (k : ℕ). take k table) (long ∙ sym last) ∙ e ∙ ap (tab f) last

pub none_yet : {A : Type 0} (f : ℕ → A) → [] ≡ tab f 0
none_yet f = sym (tab_none f)
