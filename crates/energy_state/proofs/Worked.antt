-- Layouts worked out: the definitions compute, and say what the rules say. Assumes nothing.
use Prim.Native.Nat.{ℕ, zero, suc, ◌*◌, ◌^◌}
use mathlib.Core.Path.{◌≡◌, refl}
use mathlib.Core.Bool.{Bool, true, false, cond, ◌||◌}
use mathlib.Core.List.{List, [], ◌∷◌}
use lib.Dec.{eqb}
use lib.IntN.{pos, negsuc}
use lib.ListN.{replicate}
use lib.Ieee.{Float, nan, inf, fin, add, sub, mul, div, le}
use Rattle.std.specs.Prelude.{Result, Ok, Err}
use Rattle.units.specs.declared.refusal.Refusal.{Refusal}
use Rattle.units.specs.declared.refusal.Refusal.TheVariants.{Shape, Strand, BadSum}
use Rattle.units.specs.Decimals.{decimal, plus, minus}
use Rattle.units.specs.Finite.{finite}
use Rattle.units.specs.Kelvin.{gas_constant}
use Rattle.units.specs.Places.{first_failing}
use Rattle.bay_table_checks.specs.Tables.{is_log}
use Rattle.bay_system.specs.System.{System, first_bad_seed}
use Rattle.energy_bays.specs.Energies.{bay_energy, edge_energy, is_bad}
use Rattle.energy_listing_sum.specs.Listing.{with_west, with_north, listing}
use Rattle.energy_state.specs.StateG.{state_g}

-- n values of f, from one on
unfoldable pub cells : (ℕ → Float) → (from n : ℕ) → List Float
cells f from zero = []
cells f from (suc n) = f from ∷ cells f (suc from) n

-- One row of bays with glue 1; strand 1 has bottom glue 1, east glue 1 and west glue 0. Cell (1, 1) is its scaffold bond, cell (1, 0) the bond of two side by side.
abbrev row : (bays : ℕ) → (scaffold : List ℕ) → (kelvin own side log : Float) → System
row bays scaffold kelvin own side log =
    let o = plus 0 1 in
    record {
      sizes = record { rows = 1; cols = bays; strands = 2; glues = 2; kelvin = kelvin };
      strand_glues = 0 ∷ 0 ∷ 0 ∷ 0 ∷ 0 ∷ 0 ∷ 1 ∷ 0 ∷ 0 ∷ 1 ∷ [];
      scaffold = scaffold;
      delta_g = o ∷ o ∷ side ∷ own ∷ [];
      entropy = o ∷ o ∷ o ∷ o ∷ [];
      logs = nan ∷ log ∷ [];
      seeds = [];
    }

abbrev one : (own log : Float) → (layout : List ℕ) → Result Float Refusal
one own log layout = state_g (row 1 (1 ∷ []) (plus 31015 100) own (plus 0 1) log) layout

abbrev two : (own side log : Float) → (layout : List ℕ) → Result Float Refusal
two own side log layout = state_g (row 2 (1 ∷ 1 ∷ []) (plus 31015 100) own side log) layout

-- an empty bay costs 0.0, a strand its bond: −1 kcal/mol; a concentration of 0 costs plus infinity
pub empty_bay : one (minus 1 1) (plus 0 1) (0 ∷ []) ≡ Ok (fin false 0 (pos 0))
unfolding decimal finite gas_constant first_failing is_log first_bad_seed bay_energy edge_energy is_bad with_west with_north listing add sub mul div le
empty_bay = refl

pub one_bond : one (minus 1 1) (plus 0 1) (1 ∷ []) ≡ Ok (fin true 1 (pos 0))
unfolding decimal finite gas_constant first_failing is_log first_bad_seed bay_energy edge_energy is_bad with_west with_north listing add sub mul div le
one_bond = refl

pub no_concentration : one (minus 1 1) (inf true) (1 ∷ []) ≡ Ok (inf false)
unfolding decimal finite gas_constant first_failing is_log first_bad_seed bay_energy edge_energy is_bad with_west with_north listing add sub mul div le
no_concentration = refl

-- the length is tested before the strands, and the first bad bay is named
pub a_bay_too_many : one (minus 1 1) (plus 0 1) (0 ∷ 7 ∷ []) ≡ Err Shape
unfolding decimal finite gas_constant first_failing is_log first_bad_seed bay_energy edge_energy is_bad with_west with_north listing add sub mul div le
a_bay_too_many = refl

pub no_such_strand : two (minus 1 1) (plus 0 1) (plus 0 1) (1 ∷ 2 ∷ []) ≡ Err (Strand 1)
unfolding decimal finite gas_constant first_failing is_log first_bad_seed bay_energy edge_energy is_bad with_west with_north listing add sub mul div le
no_such_strand = refl

-- two strands and their bond: −1, −1 and −2; with an empty bay no bond
pub neighbours : two (minus 1 1) (minus 2 1) (plus 0 1) (1 ∷ 1 ∷ []) ≡ Ok (fin true 1 (pos 2))
unfolding decimal finite gas_constant first_failing is_log first_bad_seed bay_energy edge_energy is_bad with_west with_north listing add sub mul div le
neighbours = refl

pub an_empty_neighbour : two (minus 1 1) (minus 2 1) (plus 0 1) (1 ∷ 0 ∷ []) ≡ Ok (fin true 1 (pos 0))
unfolding decimal finite gas_constant first_failing is_log first_bad_seed bay_energy edge_energy is_bad with_west with_north listing add sub mul div le
an_empty_neighbour = refl

-- minus infinity and NaN are refused; the bays' sum overflows before their bond is added, so the listing sum is minus infinity
pub minus_infinity : one (minus (17 * 10 ^ 307) 1) (plus 0 1) (1 ∷ []) ≡ Err BadSum
unfolding decimal finite gas_constant first_failing is_log first_bad_seed bay_energy edge_energy is_bad with_west with_north listing add sub mul div le
minus_infinity = refl

pub not_a_number : one (minus (17 * 10 ^ 307) 1) (inf true) (1 ∷ []) ≡ Err BadSum
unfolding decimal finite gas_constant first_failing is_log first_bad_seed bay_energy edge_energy is_bad with_west with_north listing add sub mul div le
not_a_number = refl

pub overflow_before_the_bond : two (minus (7 * 10 ^ 307) 1) (plus (7 * 10 ^ 307) 1) (plus 0 1) (1 ∷ 1 ∷ []) ≡ Err BadSum
unfolding decimal finite gas_constant first_failing is_log first_bad_seed bay_energy edge_energy is_bad with_west with_north listing add sub mul div le
overflow_before_the_bond = refl

-- the negative sum nearest to zero, at 200 kelvin: times (R·T) it is minus zero
pub minus_zero_lem : state_g (row 1 (1 ∷ []) (plus 200 1) (plus 0 1) (plus 0 1) (fin false 1 (negsuc 1073))) (1 ∷ []) ≡ Ok (fin true 0 (pos 0))
unfolding decimal finite gas_constant first_failing is_log first_bad_seed bay_energy edge_energy is_bad with_west with_north listing add sub mul div le
minus_zero_lem = refl

-- Each side has a glue of its own: strand 1 has 1 to 5, strand 2 has 6 to 10, north, east, south, west, bottom. Of 12 × 12 cells (2, 9), (3, 6) and (11, 10)
-- have −1 kcal/mol, their mirrors −2, and no other cell has any.
abbrev ordered : (rows cols : ℕ) → (scaffold layout : List ℕ) → Result Float Refusal
ordered rows cols scaffold layout =
    let o = plus 0 1 in
    let one : ℕ → Bool = λ i. eqb i 33 || (eqb i 42 || eqb i 142) in
    let mirror : ℕ → Bool = λ i. eqb i 110 || (eqb i 75 || eqb i 131) in
    let system : System = record {
      sizes = record { rows = rows; cols = cols; strands = 3; glues = 12; kelvin = plus 31015 100 };
      strand_glues = 0 ∷ 0 ∷ 0 ∷ 0 ∷ 0 ∷ 1 ∷ 2 ∷ 3 ∷ 4 ∷ 5 ∷ 6 ∷ 7 ∷ 8 ∷ 9 ∷ 10 ∷ [];
      scaffold = scaffold;
      delta_g = cells (λ i. cond (one i) (minus 1 1) (cond (mirror i) (minus 2 1) o)) 0 144;
      entropy = replicate 144 o;
      logs = nan ∷ o ∷ o ∷ [];
      seeds = [];
    } in
    state_g system layout

-- the index order: the west strand's east glue, then the east strand's west glue; with the strands exchanged a cell of zero
pub west_then_east : ordered 1 2 (0 ∷ 0 ∷ []) (1 ∷ 2 ∷ []) ≡ Ok (fin true 1 (pos 0))
unfolding cells decimal finite gas_constant first_failing is_log first_bad_seed bay_energy edge_energy is_bad with_west with_north listing add sub mul div le
west_then_east = refl

pub east_strand_in_the_west : ordered 1 2 (0 ∷ 0 ∷ []) (2 ∷ 1 ∷ []) ≡ Ok (fin false 0 (pos 0))
unfolding cells decimal finite gas_constant first_failing is_log first_bad_seed bay_energy edge_energy is_bad with_west with_north listing add sub mul div le
east_strand_in_the_west = refl

-- the north strand's south glue, then the south strand's north glue
pub north_then_south : ordered 2 1 (0 ∷ 0 ∷ []) (1 ∷ 2 ∷ []) ≡ Ok (fin true 1 (pos 0))
unfolding cells decimal finite gas_constant first_failing is_log first_bad_seed bay_energy edge_energy is_bad with_west with_north listing add sub mul div le
north_then_south = refl

pub south_strand_in_the_north : ordered 2 1 (0 ∷ 0 ∷ []) (2 ∷ 1 ∷ []) ≡ Ok (fin false 0 (pos 0))
unfolding cells decimal finite gas_constant first_failing is_log first_bad_seed bay_energy edge_energy is_bad with_west with_north listing add sub mul div le
south_strand_in_the_north = refl

-- the bay's glue, then the strand's bottom glue
pub bay_then_strand : ordered 1 1 (11 ∷ []) (2 ∷ []) ≡ Ok (fin true 1 (pos 0))
unfolding cells decimal finite gas_constant first_failing is_log first_bad_seed bay_energy edge_energy is_bad with_west with_north listing add sub mul div le
bay_then_strand = refl
