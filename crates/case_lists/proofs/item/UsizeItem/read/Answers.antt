-- `item::UsizeItem::read` meets its contract: the type has room for what is below the limit. Assumes nothing.
use Prim.Native.Nat.{◌^◌}
use native.Mathlib.Omega.{arith}
use mathlib.Core.Path.{sym, ◌∙◌}
use Rattle.case_lists.proofs.Reading.{no_number, number_read}
use Rattle.case_lists.proofs.item.UsizeItem.read.Goals as goal

pub returns-in_err-number : goal.returns-in_err-number
returns-in_err-number c = c.from_residual.ensures ∙ no_number (2 ^ 64) (omega arith) c.args.part.now (sym c.number.ensures ∙ c.in_err-number.was)

pub returns : goal.returns
returns c = c.ok.ensures.value ∙ number_read (2 ^ 64) (omega arith) c.args.part.now c.try_from.result c.in_ok-number.field-0 (sym c.number.ensures ∙ c.in_ok-number.was) c.try_from.ensures
