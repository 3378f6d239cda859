-- The legal strands of a bay, in the rules' words. Assumes nothing.
use Rattle.std.specs.Prelude.{ℕ, ◌+◌, ◌*◌, Bool, cond, ◌&&◌, List, [], ◌∷◌, eqb, ltb, Option, Some, None}
use Rattle.sets.specs.Set.{word}
use Rattle.bay_glues.specs.Tables.{scaffold_glue}
use Rattle.bay_lists.specs.Lists.{Constraints, list_of, list_allows}
use Rattle.bay_binding.specs.Binding.{may_lie}
use Rattle.bay_system.specs.System.{System}

-- a later seed on the same bay replaces an earlier one
abbrev pub later : (new old : Option ℕ) → Option ℕ
later None old = old
later (Some strand) old = Some strand

-- the seed of a bay
unfoldable pub seed_at : (cols : ℕ) → (seeds : List ℕ) → (bay : ℕ) → Option ℕ
seed_at cols [] bay = None
seed_at cols (row ∷ []) bay = None
seed_at cols (row ∷ col ∷ []) bay = None
seed_at cols (row ∷ col ∷ strand ∷ seeds) bay = later (seed_at cols seeds bay) (cond (eqb (row * cols + col) bay) (Some strand) None)

-- the seed of a bay: whatever asks for it asks this
abbrev pub seed_of : System → (bay : ℕ) → Option ℕ
seed_of s bay = seed_at s.sizes.cols s.seeds bay

-- a strand that a bay permits without constraints, by its seed: the seed alone, else what may lie on its glue
abbrev pub permits_by : Option ℕ → (may_lie_there : Bool) → (strand : ℕ) → Bool
permits_by (Some seed) may_lie_there strand = eqb strand seed
permits_by None may_lie_there strand = may_lie_there

abbrev pub permits : System → (bay : ℕ) → Option ℕ → (strand : ℕ) → Bool
permits s bay seed strand =
    permits_by seed (may_lie s (scaffold_glue s.scaffold bay) strand) strand

abbrev pub is_permitted : System → (bay strand : ℕ) → Bool
is_permitted s bay strand = ltb strand s.sizes.strands && permits s bay (seed_of s bay) strand

-- a strand is legal at a bay: the bay permits it and its list allows it
abbrev pub is_legal : System → Constraints → (bay strand : ℕ) → Bool
is_legal s c = λ bay strand. is_permitted s bay strand && list_allows (list_of c bay) strand

-- the legal strands of a bay as one word
abbrev pub set_at : System → Constraints → (bay : ℕ) → ℕ
set_at s c bay = word (is_legal s c bay) 64
