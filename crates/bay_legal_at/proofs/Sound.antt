-- A system that passed its tests is what the inner functions ask for. Assumes nothing.
use mathlib.Core.Path.{◌≡◌}
use Rattle.units.specs.Refusals.{passes}
use Rattle.bay_system.specs.System.{System, system_verdict}
use Rattle.bay_system.proofs.Fine.{Fine, fine}
use Rattle.bay_legal_at.specs.OnGrid.{Grid}
use Rattle.bay_legal_at.proofs.SeedBelow.{seed_below}

of_fine : (s : System) → Fine s → Grid s
of_fine s f =
    record {
      readable =
          record {
            few_strands = f.shape.sizes.strands;
            few_glues = f.shape.sizes.glues;
            energies = f.shape.delta_g;
            entropies = f.shape.entropy;
            five = f.shape.strand_glues;
            below = f.strand_glues;
          };
      on_grid = λ bay h.
          record {
            inside = h;
            glue = f.scaffold bay h;
            few_cols = f.shape.sizes.cols;
            triples = f.shape.seeds;
            seed = seed_below s.sizes s.seeds bay f.seeds;
          };
    }

pub sound : (s : System) → system_verdict s ≡ passes → Grid s
sound s e = of_fine s (fine s e)
