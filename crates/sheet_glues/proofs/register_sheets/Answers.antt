-- `sheet_glues::register_sheets` meets its contract: the names of the sheets stand at the fronts of the tables. Assumes nothing.
use Rattle.sheet_glues.proofs.Gluing.{glues_inside, glues_all, glues_fronts, registers_as}
use Rattle.sheet_glues.proofs.register_sheets.Goals as goal

pub register_fronts-requires : goal.register_fronts-requires
register_fronts-requires c = let g = c.args in
    glues_inside g.rows g.cols g.strands g.strand_sheet.now g.scaffold_sheet.now g.offsets.now c.put_glues-all.ensures c.requires.cols_in_bounds

pub returns : goal.returns
returns c = let g = c.args in
    let a = c.put_glues-all.ensures in
    let laid = glues_all g.rows g.cols g.strands g.strand_sheet.now g.scaffold_sheet.now g.offsets.now a in
    let fronts = glues_fronts g.rows g.cols g.strands g.strand_sheet.now g.scaffold_sheet.now g.offsets.now a c.requires.cols_in_bounds c.requires.cols_in_bounds_2 in
    record {
      names = laid;
      glues = registers_as fronts c.register_fronts.ensures;
    }
