-- `bay_legal::allowed::sets_of` meets its contract: the sets are worked out aside and handed out. Assumes nothing.
use Prim.Native.Nat.{ℕ}
use mathlib.Core.Path.{◌≡◌, sym, ◌∙◌, ap, subst}
use mathlib.Core.List.{List}
use lib.ListN.{length, take}
use Rattle.units.specs.Refusals.{passes}
use Rattle.bay_system.specs.System.{System, system_of}
use Rattle.bay_lists.specs.Lists.{Constraints, constraints_of}
use Rattle.bay_given.specs.Given.{given_verdict}
use Rattle.bay_legal_at.specs.Legal.{is_legal}
use Rattle.bay_given.specs.Filling.{Fills}
use Rattle.bay_given.proofs.Passed.{is_fine, room, few_bays, asked}
use Rattle.bay_legal.specs.Sets.{sets_to, empty_verdict}
use Rattle.bay_legal.proofs.Fronts.{front_fits, length_sets}
use Rattle.bay_legal.proofs.allowed.sets_of.Goals as goal

-- the sets at the front of the table, as many as the lent slice has places
filled : (s : System) (lent : ℕ) (l : Constraints) (own : List ℕ) → given_verdict s lent l ≡ passes
    → take (length s.scaffold) own ≡ sets_to (is_legal s l) (length s.scaffold) → take lent own ≡ sets_to (is_legal s l) lent
filled s lent l own p e = subst (λ (n : ℕ). take n own ≡ sets_to (is_legal s l) n) (sym (room s lent l p)) e

pub fill_sets-requires : goal.fill_sets-requires
fill_sets-requires c = let s = system_of c.args.system.now in let lists = constraints_of c.args.constraints.now in
    let lent = length c.args.sets.now in
    record { given = asked s lent lists c.requires; scaffold_in_bounds = few_bays s lent lists c.requires }

pub hand_out-requires : goal.hand_out-requires
hand_out-requires c = let s = system_of c.args.system.now in let lists = constraints_of c.args.constraints.now in
    let lent = length c.args.sets.now in
    let f = is_fine s lent lists c.requires in
    record {
      rows_le_most_side = (f.shape.sizes.rows, f.shape.sizes.cols, room s lent lists c.requires ∙ f.shape.scaffold);
      sets_in_bounds = front_fits lent _ (filled s lent lists _ c.requires c.fill_sets.ensures.sets) (length_sets (is_legal s lists) lent);
    }

pub returns : goal.returns
returns c = let s = system_of c.args.system.now in let lists = constraints_of c.args.constraints.now in
    let lent = length c.args.sets.now in
    let count = room s lent lists c.requires ∙ (is_fine s lent lists c.requires).shape.scaffold in
    subst (λ (l : List ℕ). Fills (empty_verdict s.sizes.rows s.sizes.cols l) l c.args.sets.now c.hand_out.result c.hand_out.new.sets)
    (filled s lent lists _ c.requires c.fill_sets.ensures.sets ∙ ap (sets_to (is_legal s lists)) count)
    c.hand_out.ensures
