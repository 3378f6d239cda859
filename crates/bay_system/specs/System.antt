-- The system and what is refused of it, numbers 1 to 4. Assumes nothing.
use Rattle.std.specs.Prelude.{ℕ, zero, suc, ◌*◌, ◌/◌, ◌%◌, Bool, cond, not, ◌&&◌, List, [], ◌∷◌, ltb, eqb, Float, length}
use Rattle.units.specs.Kelvin.{in_kelvin_range}
use Rattle.units.specs.Limits.{most_side, most_strands, most_glues, from_one_to}
use Rattle.units.specs.Refusals.{Verdict, refuse_if, ◌▷◌}
use Rattle.units.specs.declared.refusal.Refusal.TheVariants.{Size, Seed}
use Rattle.bay_system.specs.declared.sizes.Sizes.{Sizes}
use Rattle.bay_system.specs.declared.system.System as declared
-- 2 and 3, and what is a log concentration, are passed on from where they stand
pub use Rattle.bay_table_checks.specs.Tables.{glues_verdict, energies_verdict}
unfoldable pub use Rattle.bay_table_checks.specs.Tables.{is_log}

-- What every call on a system is lent, in this order.
pub record System : Type 0 where
  pub sizes : Sizes
  pub strand_glues : List ℕ
  pub scaffold : List ℕ
  pub delta_g : List Float
  pub entropy : List Float
  pub logs : List Float
  pub seeds : List ℕ

-- the same of the slices that are lent
abbrev pub system_of : declared.System → System
system_of s =
    record {
      sizes = s.sizes;
      strand_glues = s.strand_glues.now;
      scaffold = s.scaffold.now;
      delta_g = s.delta_g.now;
      entropy = s.entropy.now;
      logs = s.logs.now;
      seeds = s.seeds.now;
    }

-- how many bays a grid has
abbrev pub bays : Sizes → ℕ
bays z = z.rows * z.cols

-- rows, columns, strands and glues from 1 to their limits, the temperature within its own
abbrev pub sizes_fit : Sizes → Bool
sizes_fit z =
    from_one_to most_side z.rows
    && (from_one_to most_side z.cols
    && (from_one_to most_strands z.strands && (from_one_to most_glues z.glues && in_kelvin_range z.kelvin)))

-- five glues a strand, one glue a bay, two square matrices over the glues, one logarithm a strand, seeds in triples
abbrev pub lengths_fit : System → Bool
lengths_fit s =
    eqb (length s.strand_glues) (s.sizes.strands * 5)
    && (eqb (length s.scaffold) (s.sizes.rows * s.sizes.cols)
    && (eqb (length s.delta_g) (s.sizes.glues * s.sizes.glues)
    && (eqb (length s.entropy) (s.sizes.glues * s.sizes.glues)
    && (eqb (length s.logs) s.sizes.strands && eqb (length s.seeds % 3) 0))))

-- 1: a size or the temperature is out of range, or a slice has the wrong length
abbrev pub sizes_verdict : System → Verdict
sizes_verdict s = refuse_if (not (sizes_fit s.sizes && lengths_fit s)) Size

-- a seed lies on the grid and its strand is below the count
abbrev pub seed_fits : Sizes → (row col strand : ℕ) → Bool
seed_fits z row col strand = ltb row z.rows && (ltb col z.cols && ltb strand z.strands)

-- the number of the first seed that does not, of the whole triples in a list
unfoldable pub first_bad_seed : Sizes → List ℕ → ℕ
first_bad_seed z [] = zero
first_bad_seed z (row ∷ []) = zero
first_bad_seed z (row ∷ col ∷ []) = zero
first_bad_seed z (row ∷ col ∷ strand ∷ seeds) = cond (seed_fits z row col strand) (suc (first_bad_seed z seeds)) zero

-- 4, with the seed's place: a seed is off the grid, or its strand is not below the count
abbrev pub seeds_verdict : Sizes → (seeds : List ℕ) → Verdict
seeds_verdict z seeds = refuse_if (ltb (first_bad_seed z seeds) (length seeds / 3)) (Seed (first_bad_seed z seeds))

-- 1 to 4, in rising order
abbrev pub system_verdict : System → Verdict
system_verdict s =
    sizes_verdict s
    ▷ glues_verdict s.sizes.glues s.strand_glues s.scaffold
    ▷ energies_verdict s.delta_g s.entropy s.logs
    ▷ seeds_verdict s.sizes s.seeds
