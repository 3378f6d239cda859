-- `plan_marks::strands::rule_strands` meets its contract: the chain of tests, then the codes. Assumes nothing.
use Prim.Native.Nat.{ℕ}
use Rattle.std.proofs.Common.{rules, Err}
use mathlib.Core.Path.{◌≡◌, sym, ◌∙◌, ap}
use lib.ListN.{length}
use Rattle.bay_system.specs.System.{system_of, bays}
use Rattle.bay_lists.specs.Lists.{constraints_of}
use Rattle.bay_given.specs.Given.{given_verdict}
use Rattle.bay_given.proofs.Passed.{is_fine, asked}
use Rattle.bay_given.proofs.Filling.{refused_last, passed_here, passed_last}
use Rattle.plan_marks.specs.Marks.{codes_of, place_verdict}
use Rattle.plan_marks.proofs.Placed.{placed}
use Rattle.plan_marks.proofs.strands.rule_strands.Goals as goal

-- the second test counts the bays by the scaffold, which has one glue for each
pub returns-in_err-check_place : goal.returns-in_err-check_place
returns-in_err-check_place c = let a = c.args in
    let s = system_of a.system.now in
    let l = constraints_of a.constraints.now in
    let first = given_verdict s (length s.scaffold) l in
    let last = place_verdict s.sizes.strands (bays s.sizes) (length a.rules.now) a.bay in
    let p = sym c.check_given.ensures ∙ c.in_ok-check_given.was in
    let there = c.check_place.ensures ∙ ap (λ (n : ℕ). place_verdict s.sizes.strands n (length a.rules.now) a.bay) (is_fine s (length s.scaffold) l p).shape.scaffold in
    let f = passed_here (codes_of s l a.bay) a.rules.now first last c.check_given.ensures c.in_ok-check_given.was
    (refused_last (codes_of s l a.bay) a.rules.now last there c.in_err-check_place.was) in
    let same : c.from_residual-in_err-check_place.result ≡ Err c.in_err-check_place.field-0.0 = search rules in
    record { answer = same ∙ f.answer; rules = f.holds }

pub fill_codes-requires : goal.fill_codes-requires
fill_codes-requires c = let a = c.args in
    let s = system_of a.system.now in
    let l = constraints_of a.constraints.now in
    let there = placed s.sizes.strands (length s.scaffold) (length a.rules.now) a.bay (sym c.check_place.ensures ∙ c.in_ok-check_place.was) in
    record {
      given = asked s (length s.scaffold) l (sym c.check_given.ensures ∙ c.in_ok-check_given.was);
      bay_in_bounds = there.inside;
      rules_len = there.room;
    }

pub returns : goal.returns
returns c = let a = c.args in
    let s = system_of a.system.now in
    let l = constraints_of a.constraints.now in
    let first = given_verdict s (length s.scaffold) l in
    let last = place_verdict s.sizes.strands (bays s.sizes) (length a.rules.now) a.bay in
    let p = sym c.check_given.ensures ∙ c.in_ok-check_given.was in
    let there = c.check_place.ensures ∙ ap (λ (n : ℕ). place_verdict s.sizes.strands n (length a.rules.now) a.bay) (is_fine s (length s.scaffold) l p).shape.scaffold in
    let f = passed_here (codes_of s l a.bay) a.rules.now first last c.check_given.ensures c.in_ok-check_given.was
    (passed_last (codes_of s l a.bay) a.rules.now last there c.in_ok-check_place.was c.fill_codes.ensures) in
    record { answer = f.answer; rules = f.holds }
