-- The records of strands, and the tables of strands and bays, by a list of bases. Assumes nothing.
use Rattle.std.specs.Prelude.{ℕ, zero, suc, ◌+◌, ◌*◌, List, [], ◌∷◌, ◌++◌}
use Rattle.units.specs.declared.StrandGlues.{StrandGlues}
use Rattle.units.specs.Glues.{strand_glues, five_of}
use Rattle.name_glues.specs.Names.{GlueNames}
use Rattle.name_glues.specs.Glues.{glue_at}

-- five entries are one strand: north, east, south, west, bottom
abbrev pub five_from : GlueNames → (bases : List ℕ) → (count : ℕ) → ℕ → StrandGlues
five_from n bases count i =
    strand_glues (glue_at n bases count i) (glue_at n bases count (i + 1)) (glue_at n bases count (i + 2)) (glue_at n bases count (i + 3)) (glue_at n bases count (i + 4))

-- strand 0 has no glue; strand s + 1 has the five entries from 5s on
abbrev pub glues_of_strand : GlueNames → (bases : List ℕ) → (count : ℕ) → ℕ → StrandGlues
glues_of_strand n bases count zero = strand_glues 0 0 0 0 0
glues_of_strand n bases count (suc s) = five_from n bases count (s * 5)

-- the glues of the first k strands, one after the other
unfoldable pub strand_table : GlueNames → (bases : List ℕ) → (count : ℕ) → ℕ → List ℕ
strand_table n bases count zero = []
strand_table n bases count (suc s) = strand_table n bases count s ++ five_of (glues_of_strand n bases count s)

-- the glues of the first k bays, whose entries begin at `from`
unfoldable pub scaffold_table : GlueNames → (bases : List ℕ) → (count from : ℕ) → ℕ → List ℕ
scaffold_table n bases count from zero = []
scaffold_table n bases count from (suc bay) = scaffold_table n bases count from bay ++ (glue_at n bases count (from + bay) ∷ [])
