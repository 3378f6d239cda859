-- A single mismatch: its penalty, and the table of penalties. Assumes nothing.
use Rattle.std.specs.Prelude.{ℕ, suc, cond, List, [], ◌∷◌, ℤ, pos, negsuc, neg_ℤ, Float, get_or}
use Rattle.units.specs.Decimals.{plus, minus}
use Rattle.dna_letters.specs.declared.DnaNucleotideBase.{DnaNucleotideBase}
use Rattle.dna_letters.specs.Bases.{index_of, good_match}

-- a number of hundredths, rounded once
abbrev pub hundredths : ℤ → Float
hundredths (pos n) = plus n 100
hundredths (negsuc n) = minus (suc n) 100

-- a number of hundredths below zero
abbrev below : ℕ → ℤ
below n = neg_ℤ (pos n)

-- `PENALTY_TABLE` in hundredths of a kcal/mol: for PX over (P*)Y, the block of P, the row of X, the place of Y, each in the order A, T, G, C
unfoldable pub penalty_table : List (List (List ℤ))
penalty_table =
    ((pos 61 ∷ pos 0 ∷ pos 14 ∷ pos 88 ∷ [])
    ∷ (pos 0 ∷ pos 69 ∷ pos 7 ∷ pos 73 ∷ [])
    ∷ (pos 2 ∷ pos 71 ∷ below 13 ∷ pos 0 ∷ [])
    ∷ (pos 77 ∷ pos 64 ∷ pos 0 ∷ pos 133 ∷ [])
    ∷ [])
    ∷
    ((pos 69 ∷ pos 0 ∷ pos 42 ∷ pos 92 ∷ [])
    ∷ (pos 0 ∷ pos 68 ∷ pos 34 ∷ pos 75 ∷ [])
    ∷ (pos 74 ∷ pos 43 ∷ pos 44 ∷ pos 0 ∷ [])
    ∷ (pos 133 ∷ pos 97 ∷ pos 0 ∷ pos 105 ∷ [])
    ∷ [])
    ∷
    ((pos 17 ∷ pos 0 ∷ below 25 ∷ pos 81 ∷ [])
    ∷ (pos 0 ∷ pos 45 ∷ below 59 ∷ pos 98 ∷ [])
    ∷ (below 52 ∷ pos 8 ∷ below 111 ∷ pos 0 ∷ [])
    ∷ (pos 47 ∷ pos 62 ∷ pos 0 ∷ pos 79 ∷ [])
    ∷ [])
    ∷
    ((pos 43 ∷ pos 0 ∷ pos 3 ∷ pos 75 ∷ [])
    ∷ (pos 0 ∷ below 12 ∷ below 32 ∷ pos 40 ∷ [])
    ∷ (pos 11 ∷ below 47 ∷ below 11 ∷ pos 0 ∷ [])
    ∷ (pos 79 ∷ pos 62 ∷ pos 0 ∷ pos 70 ∷ [])
    ∷ [])
    ∷ []

-- the penalty of PX over (P*)Y
unfoldable pub calc_penalty : (prior x y : DnaNucleotideBase) → Float
unfolding penalty_table
calc_penalty prior x y = hundredths (get_or (get_or (get_or penalty_table (index_of prior) []) (index_of x) []) (index_of y) (pos 0))

-- The penalty of a window a1 a2 over b1 b2 that does not match: by its first letters where those match, else by its last, read from the
-- other strand, else 0.0.
abbrev pub single_mismatch_penalty : (a1 a2 b1 b2 : DnaNucleotideBase) → Float
single_mismatch_penalty a1 a2 b1 b2 = cond (good_match a1 b1) (calc_penalty a1 a2 b2) (cond (good_match a2 b2) (calc_penalty b2 b1 a1) (plus 0 1))
