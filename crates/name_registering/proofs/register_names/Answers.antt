-- `name_registering::register_names` meets its contract, by its three ways out. Assumes nothing.
use Rattle.std.proofs.lemmas.Result.{err_from_is_err_and}
use Rattle.name_glues.specs.Names.{names_of}
use Rattle.name_registering.proofs.Registering.{too_many, list_searchable, list_long, starred, done}
use Rattle.name_registering.proofs.register_names.Goals as goal

pub returns-in_err-list : goal.returns-in_err-list
returns-in_err-list c =
    let p = err_from_is_err_and c.from_residual.result c.from_residual.ensures.1 in
    let e = c.in_err-list.ensures in
    rw (p.1, p.2) (too_many (names_of c.args.names.now.names) c.args.strands c.args.glues.now c.args.scaffold.now c.args.bases.now c.requires e)

pub returns-in_err-check_stars : goal.returns-in_err-check_stars
returns-in_err-check_stars c =
    let p = err_from_is_err_and c.from_residual-in_err-check_stars.result c.from_residual-in_err-check_stars.ensures.1 in
    let e = c.in_err-check_stars.ensures in
    rw (p.1, p.2) (starred (names_of c.args.names.now.names) c.args.strands c.args.glues.now c.args.scaffold.now c.args.bases.now c.requires c.in_ok-list.list c.in_ok-list.ensures e)

pub invariant_of-registry : goal.invariant_of-registry
invariant_of-registry c = record {
  searchable = list_searchable (names_of c.args.names.now.names) c.args.strands c.args.glues.now c.args.scaffold.now c.args.bases.now c.requires c.in_ok-list.list c.in_ok-list.ensures c.args.names.now.readable;
}

pub write_tables-requires-clause-list_len : goal.write_tables-requires-clause-list_len
write_tables-requires-clause-list_len c = list_long (names_of c.args.names.now.names) c.args.strands c.args.glues.now c.args.scaffold.now c.args.bases.now c.requires c.in_ok-list.list c.in_ok-list.ensures

pub returns : goal.returns
returns c = done (names_of c.args.names.now.names) c.args.strands c.args.glues.now c.args.scaffold.now c.args.bases.now c.requires c.in_ok-list.list c.in_ok-list.ensures
    c.in_ok-check_stars.ensures c.write_tables.ensures.glues c.write_tables.ensures.scaffold c.write_tables.ensures.bases
