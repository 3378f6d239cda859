-- `sheet_fields::ending_of` meets its contract: a CR at the very end has no LF behind it. Assumes nothing.
use Rattle.std.proofs.Common.{arith}
use Rattle.std.proofs.lemmas.Bool.Decides.{nat_tests}
use lib.ListN.{get_or-eq_default}
use Rattle.sheet_fields.proofs.Scanning.{ending_by}
use Rattle.sheet_fields.proofs.ending_of.Goals as goal

pub returns-in_default : goal.returns-in_default
returns-in_default c = let past = get_or-eq_default c.args.rest.now 0 {n = 1} (omega arith) in grind (arith, nat_tests, ending_by)
