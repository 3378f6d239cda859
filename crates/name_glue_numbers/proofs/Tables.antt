-- What a request that passes finds in its tables, place by place. Assumes nothing.
use Prim.Native.Nat.{ℕ, suc, ◌+◌, ◌*◌, ◌<◌}
use mathlib.Core.Path.{◌≡◌}
use mathlib.Core.List.{List}
use lib.ListN.{get_or}
use Rattle.std.specs.Prelude.{Ok}
use Rattle.units.specs.Refusals.{passes}
use Rattle.name_glue_tables.proofs.Cells.{bay_cell, no_strand_cell, strand_cell}
use Rattle.name_register_input.specs.Input.{Request, first_bay, bay_count, entry_count}
use Rattle.name_registering.specs.Register.{register_verdict, register_answer, glues_after, scaffold_after, bases_after}
use Rattle.name_glue_numbers.proofs.Numbers.{count, list, glue}

module _ (q : Request) (p : register_verdict q ≡ passes) where
  pub the_count : register_answer q ≡ Ok (count q.names (entry_count q))
  the_count = rw p

  pub the_list : (bases : List ℕ) → bases_after q bases ≡ list q.names (entry_count q)
  the_list bases = rw p

  -- strand 0's glues are 0
  pub strand_0 : (glues : List ℕ) (side : ℕ) → 0 < q.strands → side < 5 → get_or (glues_after q glues) side 0 ≡ 0
  strand_0 glues side l h = rw p (no_strand_cell q.names (list q.names (entry_count q)) (count q.names (entry_count q)) q.strands side l h)

  -- strand s + 1 has the glues of the five entries from 5s on
  pub strand_above : (glues : List ℕ) (s side : ℕ) → suc s < q.strands → side < 5 → get_or (glues_after q glues) (suc s * 5 + side) 0 ≡ glue q.names (entry_count q) (s * 5 + side)
  strand_above glues s side l h = rw p (strand_cell q.names (list q.names (entry_count q)) (count q.names (entry_count q)) q.strands s side l h)

  -- each bay has the glue of its entry
  pub bay : (scaffold : List ℕ) (b : ℕ) → b < bay_count q → get_or (scaffold_after q scaffold) b 0 ≡ glue q.names (entry_count q) (first_bay q.strands + b)
  bay scaffold b l = rw p (bay_cell q.names (list q.names (entry_count q)) (count q.names (entry_count q)) (first_bay q.strands) (bay_count q) b l)
