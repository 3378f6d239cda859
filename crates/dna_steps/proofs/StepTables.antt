-- Lookups in the tables of the sixteen steps. Assumes nothing.
use Prim.Native.Nat.{◌≤◌, ◌<◌}
use mathlib.Core.Path.{◌≡◌, refl}
use mathlib.Core.List.{List, [], ◌∷◌, map}
use native.Mathlib.Omega.{arith}
use lib.Dec.{leb, leb→le, T as T'}
use lib.ListN.{get_or}
use Rattle.dna_letters.specs.declared.DnaNucleotideBase.{DnaNucleotideBase}
use Rattle.dna_letters.specs.declared.DnaNucleotideBase.TheVariants.{A, T, G, C}
use Rattle.units.proofs.Tables.{made_at}
use Rattle.dna_letters.proofs.Tables.{each_base, index_lt}
use Rattle.dna_steps.specs.Steps.{Step, step_of, step_place}

-- what holds of each step, in the order of the table, holds of all
pub each_step : (P : DnaNucleotideBase → DnaNucleotideBase → Type 0)
    → P A A → P A T → P A G → P A C → P T A → P T T → P T G → P T C → P G A → P G T → P G G → P G C → P C A → P C T → P C G → P C C
    → (a b : DnaNucleotideBase) → P a b
each_step P aa at ag ac ta tt' tg tc ga gt gg gc ca ct cg cc' a b =
    each_base (λ x. P x b)
    (each_base (P A) aa at ag ac b) (each_base (P T) ta tt' tg tc b) (each_base (P G) ga gt gg gc b) (each_base (P C) ca ct cg cc' b) a

pub step_place_lt : (a b : DnaNucleotideBase) → step_place a b < 16
step_place_lt a b = omega (arith, index_lt a, index_lt b)

-- the steps by their places
unfoldable pub steps : List Step
unfolding step_of
steps =
    step_of A A ∷ step_of A T ∷ step_of A G ∷ step_of A C ∷
    step_of T A ∷ step_of T T ∷ step_of T G ∷ step_of T C ∷
    step_of G A ∷ step_of G T ∷ step_of G G ∷ step_of G C ∷
    step_of C A ∷ step_of C T ∷ step_of C G ∷ step_of C C ∷
    []

pub step_at : (a b : DnaNucleotideBase) → get_or steps (step_place a b) (step_of A A) ≡ step_of a b
unfolding steps
step_at =
    each_step (λ a b. get_or steps (step_place a b) (step_of A A) ≡ step_of a b)
    refl refl refl refl refl refl refl refl refl refl refl refl refl refl refl refl

-- a table made of the steps, read at a step's place
pub made_of_steps : {Y : Type 0} (f : Step → Y) (a b : DnaNucleotideBase) (y : Y) → get_or (map f steps) (step_place a b) y ≡ f (step_of a b)
unfolding steps
made_of_steps f a b y = rw (← step_at a b) (made_at f steps (step_place a b) (step_of A A) y (step_place_lt a b))

-- no step is worth more than GC
pub step_at_most : (a b : DnaNucleotideBase) → (step_of a b).dg ≤ 224
unfolding step_of
step_at_most a b =
    leb→le (step_of a b).dg 224
    (each_step (λ x y. T' (leb (step_of x y).dg 224)) tt tt tt tt tt tt tt tt tt tt tt tt tt tt tt tt a b)
