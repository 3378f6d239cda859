-- Which entries bring a new base, the bases that they bring, and when they are too many. Assumes nothing.
use Rattle.std.specs.Prelude.{ℕ, zero, suc, ◌+◌, ◌*◌, ◌-◌, Bool, cond, ◌&&◌, List, [], ◌∷◌, ◌++◌, eqb, ltb, length, get_or, replicate}
use Rattle.units.specs.Limits.{most_glues, most_bases, base_numbers}
use Rattle.units.specs.declared.refusal.Refusal.TheVariants.{TooManyBases}
use Rattle.units.specs.Refusals.{Verdict, refuse_if}
use Rattle.name_stars.specs.Stars.{base_length}
use Rattle.name_glues.specs.Names.{GlueNames, name_at, is_present}
use Rattle.name_glues.specs.Glues.{base_at}

-- the bases of these entries, as offset and length of each
unfoldable pub bases_of : GlueNames → List ℕ → List ℕ
bases_of n [] = []
bases_of n (i ∷ entries) = get_or n.offsets i 0 ∷ base_length (name_at n i) ∷ bases_of n entries

-- entry i has a name whose base is not in the list
abbrev pub is_new : GlueNames → (bases : List ℕ) → (count : ℕ) → ℕ → Bool
is_new n bases count i = is_present n i && eqb (base_at n bases count i) count

-- the entries, of the first k, that bring a new base
unfoldable pub firsts_to : GlueNames → ℕ → List ℕ
firsts_to n zero = []
firsts_to n (suc i) = firsts_to n i ++ cond (is_new n (bases_of n (firsts_to n i)) (length (firsts_to n i)) i) (i ∷ []) []

-- the bases of these entries in 254 numbers, the rest 0
abbrev pub bases_table : GlueNames → List ℕ → List ℕ
bases_table n entries = bases_of n entries ++ replicate (base_numbers - length entries * 2) 0

-- 15, with the entry: base j has the glues 2j + 1 and 2j + 2, so that the 128th base would raise the count of glues above 256
abbrev pub count_verdict : (firsts : List ℕ) → Verdict
count_verdict firsts = refuse_if (ltb most_glues (length firsts * 2 + 1)) (TooManyBases (get_or firsts most_bases 0))
