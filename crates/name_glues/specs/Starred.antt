-- Names with two or more stars among those of the scaffold. Assumes nothing.
use Rattle.std.specs.Prelude.{ℕ, ◌+◌, Bool, ◌&&◌, leb, ltb}
use Rattle.units.specs.declared.refusal.Refusal.TheVariants.{Starred}
use Rattle.units.specs.Refusals.{Verdict, refuse_if}
use Rattle.text_entries.specs.InOrder.{first_from}
use Rattle.name_stars.specs.Stars.{star_count}
use Rattle.name_glues.specs.Names.{GlueNames, name_at, is_present}

-- a present name with two or more stars
abbrev pub is_starred : GlueNames → ℕ → Bool
is_starred n i = is_present n i && leb 2 (star_count (name_at n i))

-- the first bay whose name is starred, or the number of bays; bay 0 is the entry `from`
abbrev pub first_starred : GlueNames → (from bays : ℕ) → ℕ
first_starred n from bays = first_from (λ bay. is_starred n (from + bay)) 0 bays

-- 16, with the bay: a scaffold name ends in two or more stars
abbrev pub stars_verdict : GlueNames → (from bays : ℕ) → Verdict
stars_verdict n from bays = refuse_if (ltb (first_starred n from bays) bays) (Starred (first_starred n from bays))
