-- `key_faults::key_fault` meets its contract. Assumes nothing.
use mathlib.Core.Path.{◌∙◌}
use Rattle.sheet_keys.proofs.Checking.{fault_is}
use Rattle.sheet_keys.proofs.key_faults.key_fault.Goals as goal

pub returns : goal.returns
returns c = let a = c.args in
    c.fault_of.ensures
    ∙ fault_is a.sheet.now a.at c.place_after-sequence.result c.place_after-first.result c.place_after-second.result c.place_after-sequence.ensures c.place_after-first.ensures c.place_after-second.ensures
    c.is_blank-nameless.result c.is_blank-numbers.result c.fits-first_fits.result c.fits-second_fits.result c.is_blank-nameless.ensures c.is_blank-numbers.ensures c.fits-first_fits.ensures c.fits-second_fits.ensures
