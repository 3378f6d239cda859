-- `name_glues::GlueNames::check_stars` meets its contract. The invariant: the bays that are left have the answer. Assumes nothing.
use Prim.Native.Nat.{◌+◌, ◌-◌}
use mathlib.Core.Path.{◌≡◌}
use Rattle.text_entries.specs.InOrder.{first_from}
use Rattle.name_glues.specs.Names.{names_of}
use Rattle.name_glues.specs.Starred.{is_starred, first_starred}
use Rattle.name_glues.proofs.GlueNames.check_stars.Given as goal

abbrev pub invariant-loop-bay : goal.invariant-loop-bay
invariant-loop-bay l =
    let n = names_of l.self.names in
    first_starred n l.from l.bay-end ≡ first_from (λ b. is_starred n (l.from + b)) l.bay (l.bay-end - l.bay)
