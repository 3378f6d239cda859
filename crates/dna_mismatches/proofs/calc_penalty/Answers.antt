-- `dna_mismatches::calc_penalty` meets its contract: the table of the code is the printed hundredths, each rounded once, which antt computes. Assumes nothing.
use mathlib.Core.Path.{◌≡◌, refl}
use mathlib.Core.List.{List, [], map}
use lib.IntN.{pos}
use lib.Ieee.{Float, nan, of_bits, neg}
use lib.ListN.{get_or}
use Rattle.units.specs.Decimals.{decimal}
use Rattle.dna_mismatches.specs.Mismatches.{hundredths, penalty_table, calc_penalty}
use Rattle.dna_letters.specs.declared.DnaNucleotideBase.{DnaNucleotideBase}
use Rattle.dna_letters.specs.declared.DnaNucleotideBase.TheVariants.{A, T, G, C}
use Rattle.dna_letters.specs.Bases.{index_of}
use Rattle.dna_letters.proofs.Tables.{each_base}
use Rattle.dna_mismatches.proofs.calc_penalty.Goals as goal

-- the cell of the floats is the cell of the printed hundredths, rounded once, whatever stands for a missing row
abbrev Right : (d : List (List Float)) (e : List Float) (p x y : DnaNucleotideBase) → Type 0
unfolding penalty_table
Right d e p x y =
    get_or (get_or (get_or (map (map (map hundredths)) penalty_table) (index_of p) d) (index_of x) e) (index_of y) nan
    ≡ hundredths (get_or (get_or (get_or penalty_table (index_of p) []) (index_of x) []) (index_of y) (pos 0))

right : (d : List (List Float)) (e : List Float) (p x y : DnaNucleotideBase) → Right d e p x y
unfolding penalty_table
right d e p x y =
    each_base (λ p. Right d e p x y)
    (each_base (λ x. Right d e A x y)
    (each_base (λ y. Right d e A A y) refl refl refl refl y)
    (each_base (λ y. Right d e A T y) refl refl refl refl y)
    (each_base (λ y. Right d e A G y) refl refl refl refl y)
    (each_base (λ y. Right d e A C y) refl refl refl refl y)
    x)
    (each_base (λ x. Right d e T x y)
    (each_base (λ y. Right d e T A y) refl refl refl refl y)
    (each_base (λ y. Right d e T T y) refl refl refl refl y)
    (each_base (λ y. Right d e T G y) refl refl refl refl y)
    (each_base (λ y. Right d e T C y) refl refl refl refl y)
    x)
    (each_base (λ x. Right d e G x y)
    (each_base (λ y. Right d e G A y) refl refl refl refl y)
    (each_base (λ y. Right d e G T y) refl refl refl refl y)
    (each_base (λ y. Right d e G G y) refl refl refl refl y)
    (each_base (λ y. Right d e G C y) refl refl refl refl y)
    x)
    (each_base (λ x. Right d e C x y)
    (each_base (λ y. Right d e C A y) refl refl refl refl y)
    (each_base (λ y. Right d e C T y) refl refl refl refl y)
    (each_base (λ y. Right d e C G y) refl refl refl refl y)
    (each_base (λ y. Right d e C C y) refl refl refl refl y)
    x)
    p

pub returns : goal.returns
unfolding of_bits neg decimal penalty_table calc_penalty
returns c = let a = c.args in
    rw (c.index.ensures, c.index-2.ensures, c.index-3.ensures) (right _ _ a.prior a.x a.y)
