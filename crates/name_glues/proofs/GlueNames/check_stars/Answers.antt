-- `name_glues::GlueNames::check_stars` meets its contract. The invariant: the bays that are left have the answer. Assumes nothing.
use Prim.Native.Nat.{◌+◌, ◌-◌}
use mathlib.Core.Bool.{true, false}
use mathlib.Core.Path.{◌≡◌, ◌∙◌, sym}
use Rattle.text_entries.proofs.InOrder.{here, later, nowhere}
use Rattle.name_glues.specs.Names.{names_of}
use Rattle.name_glues.specs.Starred.{is_starred}
use Rattle.name_glues.proofs.Starring.{bay_starred, none_starred}
use Rattle.name_glues.proofs.GlueNames.check_stars.Goals as goal

pub returns-then-is_starred : goal.returns-then-is_starred
returns-then-is_starred c =
    let n = names_of c.args.self.now.names in
    let starred : is_starred n (c.args.from + c.loop-bay.bay) ≡ true = sym c.is_starred.ensures ∙ c.if-is_starred.true in
    rw (← c.count.ensures)
    (bay_starred n c.args.from (c.count.result - c.args.from) (c.loop-bay.invariant ∙ here (λ b. is_starred n (c.args.from + b)) _ _ c.loop-bay-test.true starred) c.loop-bay-test.true)

pub loop-bay-preserved : goal.loop-bay-preserved
loop-bay-preserved c =
    let n = names_of c.args.self.now.names in
    let plain : is_starred n (c.args.from + c.loop-bay.bay) ≡ false = sym c.is_starred.ensures ∙ c.if-is_starred.false in
    c.loop-bay.invariant ∙ later (λ b. is_starred n (c.args.from + b)) _ _ c.loop-bay-test.true plain

pub returns : goal.returns
returns c =
    let n = names_of c.args.self.now.names in
    rw (← c.count.ensures)
    (none_starred n c.args.from (c.count.result - c.args.from) (c.loop-bay.invariant ∙ nowhere (λ b. is_starred n (c.args.from + b)) _ _ c.loop-bay-test.false) c.loop-bay-test.false)
