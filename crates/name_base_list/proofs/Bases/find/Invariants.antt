-- `name_base_list::Bases::find` meets its contract. The invariant: the bases that are left have the answer. Assumes nothing.
use Prim.Native.Nat.{◌-◌}
use mathlib.Core.Path.{◌≡◌}
use Rattle.text_entries.specs.InOrder.{first_from}
use Rattle.name_base_list.specs.Bases.{is_base, find_base}
use Rattle.name_base_list.proofs.Bases.find.Given as goal

abbrev pub invariant-loop-j : goal.invariant-loop-j
invariant-loop-j l =
    find_base l.self.text.now l.self.numbers.now l.self.count l.name ≡ first_from (is_base l.self.text.now l.self.numbers.now l.name) l.j (l.self.count - l.j)
