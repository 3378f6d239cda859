-- `run_mfe::mfe_configuration` meets its contract: refused by what was given, or what the run comes to. Assumes nothing.
use mathlib.Core.Path.{sym, ◌∙◌}
use lib.ListN.{length}
use Rattle.std.proofs.lemmas.Result.{err_from_is_err_and}
use Rattle.bay_system.specs.System.{system_of}
use Rattle.bay_lists.specs.Lists.{constraints_of}
use Rattle.bay_legal_at.specs.Legal.{is_legal}
use Rattle.bay_given.specs.Given.{given_verdict}
use Rattle.run_mfe.proofs.Promised.{refused_by, passed_by}
use Rattle.run_mfe.proofs.mfe_configuration.Goals as goal

pub returns-in_err-check_given : goal.returns-in_err-check_given
returns-in_err-check_given c = let a = c.args in
    let s = system_of a.system.now in
    let lists = constraints_of a.constraints.now in
    let p = refused_by (given_verdict s (length a.layout.now) lists) s (is_legal s lists) a.layout.now a.energies.now a.leaving.now
    (sym c.check_given.ensures ∙ c.in_err-check_given.was) in
    let e = err_from_is_err_and c.from_residual.result c.from_residual.ensures.1 in
    rw (e.1, e.2) (record { answer = p.answer; layout = p.layout; energies = p.energies; leaving = p.notes })

pub run_given-requires : goal.run_given-requires
run_given-requires c = sym c.check_given.ensures ∙ c.in_ok-check_given.was

pub returns : goal.returns
returns c = let a = c.args in
    let s = system_of a.system.now in
    let lists = constraints_of a.constraints.now in
    let p = passed_by (given_verdict s (length a.layout.now) lists) s (is_legal s lists) a.energies.now a.leaving.now
    (sym c.check_given.ensures ∙ c.in_ok-check_given.was) c.run_given.ensures in
    record { answer = p.answer; layout = p.layout; energies = p.energies; leaving = p.notes }
