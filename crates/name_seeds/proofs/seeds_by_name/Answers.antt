-- `name_seeds::seeds_by_name`: what each step asks, the tests before it have told. Assumes nothing.
use mathlib.Core.Path.{sym}
use lib.ListN.{length}
use Rattle.name_strands.specs.Names.{strand_names_of}
use Rattle.name_seed_checks.specs.Sizes.{seed_list_of}
use Rattle.name_seeds.proofs.Chain.{names_there, texts_readable, fillable}
use Rattle.name_seeds.proofs.seeds_by_name.Goals as goal

pub check_texts-requires : goal.check_texts-requires
check_texts-requires c =
    let a = c.args in
    names_there a.rows a.cols a.strands (strand_names_of a.names.now) (seed_list_of a.seeds.now) (length a.table.now)
    (sym c.in_ok-check_sizes.ensures)

pub check_seeds-requires : goal.check_seeds-requires
check_seeds-requires c =
    let a = c.args in
    let t = texts_readable a.rows a.cols a.strands (strand_names_of a.names.now) (seed_list_of a.seeds.now) (length a.table.now)
    (sym c.in_ok-check_sizes.ensures) (sym c.in_ok-check_texts.ensures) in
    record { strands_readable = t.0; seeds_readable = t.1 }

pub fill_seeds-requires : goal.fill_seeds-requires
fill_seeds-requires c =
    let a = c.args in
    let f = fillable a.rows a.cols a.strands (strand_names_of a.names.now) (seed_list_of a.seeds.now) (length a.table.now)
    (sym c.in_ok-check_sizes.ensures) (sym c.in_ok-check_texts.ensures) (sym c.in_ok-check_seeds.ensures) in
    record {
      strands_readable = f.strands_readable;
      seeds_readable = f.seeds_readable;
      placed = f.placed;
      named = f.named;
      table_len = f.table_len;
    }
