-- `sheet_names::put_entry` meets its contract: the entry's bytes, its end and its flag. Assumes nothing.
use mathlib.Core.Path.{◌∙◌}
use Rattle.sheet_fields.specs.Fields.{unquoted}
use Rattle.sheet_names.proofs.Appending.{append_one, flag_unquoted}
use Rattle.sheet_names.proofs.put_entry.Goals as goal

pub returns : goal.returns
returns c = let a = c.args in
    append_one a.out.now a.offsets.now a.present.now a.start (unquoted a.raw.now) c.flag.result c.put_unquoted-bytes.result _
    (c.flag.ensures ∙ flag_unquoted a.raw.now) c.put_unquoted-bytes.ensures
