-- A small request, computed: strand 1 has `a`, `a*`, no name, a name of no bytes and `b**`; the bays have `b` and `c*`. Assumes nothing.
use Prim.Native.Nat.{ℕ}
use mathlib.Core.Path.{◌≡◌, refl}
use mathlib.Core.List.{List, [], ◌∷◌}
use lib.ListN.{replicate}
use Rattle.std.specs.Prelude.{Ok}
use Rattle.units.specs.declared.refusal.Refusal.TheVariants.{Starred}
use Rattle.units.specs.Refusals.{refuses}
use Rattle.units.specs.Limits.{base_numbers}
use Rattle.text_entries.specs.Entries.{offsets_from, are_flags}
use Rattle.name_stars.specs.Stars.{before_stars}
use Rattle.text_entries.specs.InOrder.{first_from}
use Rattle.name_glues.specs.Names.{glue_names}
use Rattle.name_glue_tables.specs.Tables.{strand_table, scaffold_table}
use Rattle.name_new_bases.specs.Bases.{bases_of, firsts_to}
use Rattle.name_register_input.specs.Input.{Request, request}
use Rattle.name_registering.specs.Register.{register_verdict, register_answer, glues_after, scaffold_after, bases_after}

-- `aa*b**b` and the name of the last bay
abbrev asked : (last_bay offsets : List ℕ) → Request
asked last_bay offsets =
    request 1 2 2
    (glue_names (97 ∷ 97 ∷ 42 ∷ 98 ∷ 42 ∷ 42 ∷ 98 ∷ last_bay) (0 ∷ 1 ∷ 3 ∷ 3 ∷ 3 ∷ 6 ∷ 7 ∷ offsets) (1 ∷ 1 ∷ 0 ∷ 1 ∷ 1 ∷ 1 ∷ 1 ∷ []))
    10 2 base_numbers

abbrev small : Request
small = asked (99 ∷ 42 ∷ []) (9 ∷ [])

pub small_answer : register_answer small ≡ Ok 4
unfolding offsets_from are_flags before_stars first_from bases_of firsts_to
small_answer = refl

-- the name of no bytes is base 1, and `b**` is `b`
pub small_glues : glues_after small (replicate 10 7) ≡ 0 ∷ 0 ∷ 0 ∷ 0 ∷ 0 ∷ 1 ∷ 2 ∷ 0 ∷ 3 ∷ 5 ∷ []
unfolding offsets_from are_flags before_stars first_from bases_of firsts_to strand_table
small_glues = refl

pub small_scaffold : scaffold_after small (replicate 2 7) ≡ 5 ∷ 8 ∷ []
unfolding offsets_from are_flags before_stars first_from bases_of firsts_to scaffold_table
small_scaffold = refl

pub small_bases : bases_after small (replicate base_numbers 7) ≡ 0 ∷ 1 ∷ 3 ∷ 0 ∷ 3 ∷ 1 ∷ 7 ∷ 1 ∷ replicate 246 0
unfolding offsets_from are_flags before_stars first_from bases_of firsts_to
small_bases = refl

-- with `c**` in the last bay: 16 and bay 1, and the tables stay
abbrev starred : Request
starred = asked (99 ∷ 42 ∷ 42 ∷ []) (10 ∷ [])

pub starred_refused : register_verdict starred ≡ refuses (Starred 1)
unfolding offsets_from are_flags before_stars first_from bases_of firsts_to
starred_refused = refl

pub starred_kept : glues_after starred (replicate 10 7) ≡ replicate 10 7
unfolding offsets_from are_flags before_stars first_from bases_of firsts_to
starred_kept = refl
