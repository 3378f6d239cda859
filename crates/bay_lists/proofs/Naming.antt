-- The strands that a list names, as it is gone through from its start. Assumes nothing.
use Prim.Native.Nat.{ℕ, ◌+◌, ◌<◌}
use mathlib.Core.Path.{◌≡◌, refl, ◌∙◌, ap, sym}
use mathlib.Core.Bool.{Bool, true, false, ◌||◌}
use mathlib.Core.List.{List, [], ◌∷◌, ◌++◌}
use native.Mathlib.Numerals.{add-one}
use lib.Dec.{eqb}
use lib.ListN.{length, get_or, take}
use lib.Seq.{take-suc}
use Rattle.bay_lists.specs.Lists.{names}

or_assoc : (a b c : Bool) → ((a || b) || c) ≡ (a || (b || c))
or_assoc true b c = refl
or_assoc false b c = refl

pub or_false : (a : Bool) → (a || false) ≡ a
or_false true = refl
or_false false = refl

names_last : (tiles : List ℕ) (tile strand : ℕ) → names (tiles ++ (tile ∷ [])) strand ≡ (names tiles strand || eqb strand tile)
unfolding names
names_last [] tile strand = or_false (eqb strand tile)
names_last (x ∷ tiles) tile strand =
    ap (λ (b : Bool). eqb strand x || b) (names_last tiles tile strand) ∙ sym (or_assoc (eqb strand x) (names tiles strand) (eqb strand tile))

pub names_more : (tiles : List ℕ) (i strand : ℕ) → i < length tiles → names (take (i + 1) tiles) strand ≡ (names (take i tiles) strand || eqb strand (get_or tiles i 0))
names_more tiles i strand h = rw (add-one i, take-suc tiles i 0 h) (names_last (take i tiles) (get_or tiles i 0) strand)

pub names_none : (strand : ℕ) → names [] strand ≡ false
unfolding names
names_none strand = refl
