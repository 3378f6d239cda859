-- `key_tables::put_keys` meets its contract. Assumes nothing.
use native.Mathlib.Omega.{arith}
use Rattle.sheet_keys.proofs.Seconds.{seconds_put}
use borrow.Author.Rules.{rules}
use Rattle.sheet_keys.proofs.key_tables.put_keys.Goals as goal

pub put_numbers-requires : goal.put_numbers-requires
put_numbers-requires c = let numbers = c.requires.records_in_bounds_5 in
    omega arith

pub fill_columns-sequences-requires : goal.fill_columns-sequences-requires
fill_columns-sequences-requires c = let kinds = c.requires.records_in_bounds_4 in
    let offsets = c.requires.records_in_bounds_6 in
    record {
      bytes_in_bounds = search rules;
      from_in_bounds = omega arith;
      from_in_bounds_2 = omega arith;
    }

pub returns : goal.returns
returns c = let a = c.args in
    let present = c.requires.records_in_bounds_2 in
    record {
      names = c.fill_columns-names.ensures;
      seconds = seconds_put a.records a.sheet.now a.present.now c.fill_columns-names.new.present a.paired.now c.put_seconds.new.paired present c.fill_columns-names.ensures.flagged c.put_seconds.ensures;
      numbers = c.put_numbers.ensures;
      sequences = c.fill_columns-sequences.ensures;
    }
