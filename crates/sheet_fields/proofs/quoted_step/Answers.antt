-- `sheet_fields::quoted_step` meets its contract: a quote at the very end has none behind it. Assumes nothing.
use Rattle.std.proofs.Common.{arith}
use Rattle.std.proofs.lemmas.Bool.Decides.{nat_tests}
use lib.ListN.{get_or-eq_default}
use Rattle.sheet_fields.proofs.Scanning.{step_by}
use Rattle.sheet_fields.proofs.quoted_step.Goals as goal

pub returns-in-34-2 : goal.returns-in-34-2
returns-in-34-2 c = let past = get_or-eq_default c.args.rest.now 0 {n = 1} (omega arith) in grind (arith, nat_tests, step_by)
