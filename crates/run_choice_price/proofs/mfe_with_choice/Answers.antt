-- `run_choice_price::mfe_with_choice` meets its contract: refused by what was given or by the bay, or what the run comes to. Assumes nothing.
use Prim.Native.Nat.{ℕ}
use mathlib.Core.Path.{◌≡◌, sym, ◌∙◌, ap}
use lib.Dec.{leb}
use lib.ListN.{length}
use Rattle.std.proofs.lemmas.Result.{err_from_is_err_and}
use Rattle.units.specs.declared.refusal.Refusal.TheVariants.{Shape}
use Rattle.units.specs.Refusals.{Verdict, passes, refuse_if}
use Rattle.bay_system.specs.System.{System, system_of}
use Rattle.bay_lists.specs.Lists.{Constraints, constraints_of}
use Rattle.bay_given.specs.Given.{given_verdict}
use Rattle.bay_given.proofs.Passed.{is_fine}
use Rattle.run_mfe.proofs.Promised.{refused_first, refused_by, passed_by}
use Rattle.run_choice_price.specs.Choice.{chosen_legal}
use Rattle.run_choice_price.specs.Price.{choice_verdict}
use Rattle.run_choice_price.proofs.Choices.{off_grid}
use Rattle.run_choice_price.proofs.mfe_with_choice.Goals as goal

-- past the first test the second one is the choice's; it counts the bays by the scaffold, which has one glue for each
off_there : (s : System) (lent : ℕ) (c : Constraints) (bay : ℕ) {y : Verdict} → given_verdict s lent c ≡ passes
    → y ≡ refuse_if (leb (length s.scaffold) bay) Shape → choice_verdict s lent c bay ≡ y
off_there s lent c bay p f =
    let e = f ∙ ap (λ (n : ℕ). refuse_if (leb n bay) Shape) (is_fine s lent c p).shape.scaffold in
    rw p (sym e)

pub returns-in_err-check_given : goal.returns-in_err-check_given
returns-in_err-check_given c = let a = c.args in
    let s = system_of a.system.now in
    let lists = constraints_of a.constraints.now in
    let lent = length a.layout.now in
    let p = refused_by (choice_verdict s lent lists a.bay) s (chosen_legal s lists a.bay a.strand) a.layout.now a.energies.now a.leaving.now
    (refused_first (given_verdict s lent lists) (off_grid s lent lists a.bay) (sym c.check_given.ensures ∙ c.in_err-check_given.was)) in
    let e = err_from_is_err_and c.from_residual.result c.from_residual.ensures.1 in
    rw (e.1, e.2) (record { answer = p.answer; layout = p.layout; energies = p.energies; leaving = p.notes })

pub returns-in_err-check_bay : goal.returns-in_err-check_bay
returns-in_err-check_bay c = let a = c.args in
    let s = system_of a.system.now in
    let lists = constraints_of a.constraints.now in
    let lent = length a.layout.now in
    let given = sym c.check_given.ensures ∙ c.in_ok-check_given.was in
    let p = refused_by (choice_verdict s lent lists a.bay) s (chosen_legal s lists a.bay a.strand) a.layout.now a.energies.now a.leaving.now
    (off_there s lent lists a.bay given c.check_bay.ensures ∙ c.in_err-check_bay.was) in
    let e = err_from_is_err_and c.from_residual-in_err-check_bay.result c.from_residual-in_err-check_bay.ensures.1 in
    rw (e.1, e.2) (record { answer = p.answer; layout = p.layout; energies = p.energies; leaving = p.notes })

pub run_chosen-requires : goal.run_chosen-requires
run_chosen-requires c = let a = c.args in
    let given = sym c.check_given.ensures ∙ c.in_ok-check_given.was in
    off_there (system_of a.system.now) (length a.layout.now) (constraints_of a.constraints.now) a.bay given c.check_bay.ensures ∙ c.in_ok-check_bay.was

pub returns : goal.returns
returns c = let a = c.args in
    let s = system_of a.system.now in
    let lists = constraints_of a.constraints.now in
    let lent = length a.layout.now in
    let given = sym c.check_given.ensures ∙ c.in_ok-check_given.was in
    let p = passed_by (choice_verdict s lent lists a.bay) s (chosen_legal s lists a.bay a.strand) a.energies.now a.leaving.now
    (off_there s lent lists a.bay given c.check_bay.ensures ∙ c.in_ok-check_bay.was) c.run_chosen.ensures in
    record { answer = p.answer; layout = p.layout; energies = p.energies; leaving = p.notes }
