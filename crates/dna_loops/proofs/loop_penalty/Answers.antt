-- `dna_loops::loop_penalty` meets its contract: the table of the code is the printed tenths, each rounded once. Assumes nothing.
use mathlib.Core.Path.{sym, ◌∙◌, ap}
use lib.Ieee.{nan, of_bits}
use Rattle.std.specs.Prelude.{Some}
use Rattle.std.specs.Option.{option_map}
use Rattle.units.specs.Decimals.{decimal}
use Rattle.units.proofs.Tables.{made_at}
use Rattle.dna_loops.specs.Loops.{loop_table, tenths, value_at}
use Rattle.dna_loops.proofs.loop_penalty.Goals as goal

pub returns : goal.returns
unfolding of_bits decimal loop_table
returns c = ap Some (made_at tenths loop_table c.in_ok-place.place 0 nan c.in_ok-place.ensures.in_table)
    ∙ ap (option_map value_at) (sym c.in_ok-place.was ∙ c.place_of.ensures.place)
