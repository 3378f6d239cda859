-- Ends and fields as the scanner answers them. Assumes nothing.
use Rattle.std.specs.Prelude.{cond, Some, None, Option}
use Rattle.sheet_fields.specs.Fields.{EndFound, FieldFound}
use Rattle.sheet_fields.specs.declared.Ending.{Ending}
use Rattle.sheet_fields.specs.declared.Field.{Field}

-- an end, and a field, where it is sound
abbrev pub ending_answer : EndFound → Option Ending
ending_answer e = cond e.sound (Some (record { more = e.more; width = e.width })) None

-- the places of a field, sound or not
abbrev pub places : FieldFound → Field
places f = record { more = f.more; from = f.from; to = f.to; next = f.next }

abbrev pub field_answer : FieldFound → Option Field
field_answer f = cond f.sound (Some (places f)) None
