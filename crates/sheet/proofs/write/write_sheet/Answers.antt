-- `write::write_sheet` meets its contract: the sheet that is put is the front of the text. Assumes nothing.
use Rattle.std.proofs.Common.{arith}
use Rattle.std.proofs.lemmas.Grind.{common_steps}
use Rattle.sheet.specs.Write.{sheet_bytes}
use Rattle.sheet.proofs.Writing.{filled}
use Rattle.sheet.proofs.write.write_sheet.Goals as goal

pub returns-clause-text : goal.returns-clause-text
returns-clause-text c = let a = c.args in
    let front = filled c.sheet_length-need.result (sheet_bytes a.rows a.cols a.offsets.now a.tiles.now) a.text.now c.sheet_length-need.ensures c.if-text-need.false
    (omega (arith, c.well_formed.1.1.1.1.0.1)) c.put_sheet.result c.put_sheet.new.text c.put_sheet.ensures in
    grind (arith, common_steps)
