-- A set of strands as one number: bit t of the number says whether strand t is in the set. How many words hold the number plays no part here.
-- Assumes nothing.
use Rattle.std.specs.Prelude.{Bool, true, false, ◌&&◌, List, [], ◌∷◌, ◌++◌, ℕ, zero, suc, ◌+◌, ◌*◌, ◌/◌, ◌%◌, ◌^◌, eqb, ltb, length, get_or}

-- whether the set holds strand t: bit t of the number
unfoldable pub has : ℕ → ℕ → Bool
has set t = eqb (set / 2 ^ t % 2) 1

-- the digit that stands for an answer
abbrev pub digit : Bool → ℕ
digit true = 1
digit false = 0

-- the set of the strands below n that are legal: bit t is `legal t`
unfoldable pub word : (ℕ → Bool) → ℕ → ℕ
word legal zero = 0
word legal (suc t) = digit (legal t) * 2 ^ t + word legal t

-- t alone where the answer is yes, and nothing where it is no
abbrev pub alone : Bool → ℕ → List ℕ
alone true t = t ∷ []
alone false t = []

-- the strands below n that are legal, by rising number
unfoldable pub members : (ℕ → Bool) → ℕ → List ℕ
members legal zero = []
members legal (suc t) = members legal t ++ alone (legal t) t

-- the first legal strand at or after t, and n where there is none below n: among the members it stands right behind those below t
unfoldable pub next_of : (ℕ → Bool) → ℕ → ℕ → ℕ
next_of legal t n = get_or (members legal n) (length (members legal t)) n

-- what is legal behind the first legal strand, of those below n
unfoldable pub rest_of : (ℕ → Bool) → ℕ → ℕ → Bool
rest_of legal n s = legal s && ltb (next_of legal 0 n) s
