-- `name_new_bases::BaseList::get_or_generate` meets its contract: entry i is known, or one too many, or written. Assumes nothing.
use mathlib.Core.Path.{refl, sym, ◌∙◌, ap}
use native.Mathlib.Nat.{le_of_lt}
use native.Mathlib.Omega.{arith}
use borrow.Author.Tests.{not-true, not-false}
use Rattle.name_stars.specs.Stars.{base_length}
use Rattle.name_glues.specs.Names.{names_of}
use Rattle.name_new_bases.proofs.Collecting.{searchable, kept, full, more, room}
use Rattle.name_new_bases.proofs.BaseList.get_or_generate.Goals as goal

pub invariant_of-registry : goal.invariant_of-registry
invariant_of-registry c =
    record { searchable = searchable (names_of c.args.names.now.names) c.args.i _ _ c.args.names.now.readable (le_of_lt c.requires.i_in_bounds) c.requires.holds }

pub returns-then-not-is_new-clause-ok : goal.returns-then-not-is_new-clause-ok
returns-then-not-is_new-clause-ok c = kept _ _ _ _ c.requires.holds (sym c.is_new.ensures ∙ not-true _ c.if-not-is_new.true-raw)

pub returns-then-self-eq-MOST_BASES-clause-err : goal.returns-then-self-eq-MOST_BASES-clause-err
returns-then-self-eq-MOST_BASES-clause-err c =
    full _ _ _ _ c.requires.holds (sym c.is_new.ensures ∙ not-false _ c.if-not-is_new.false-raw) c.if-self-eq-MOST_BASES.true

pub push-requires : goal.push-requires
push-requires c = room (names_of c.args.names.now.names) c.args.i _ _ c.requires.holds (λ e. omega (arith, e, c.if-self-eq-MOST_BASES.false))

pub returns-clause-ok : goal.returns-clause-ok
returns-clause-ok c =
    more _ _ _ _ c.requires.holds (sym c.is_new.ensures ∙ not-false _ c.if-not-is_new.false-raw) (λ e. omega (arith, e, c.if-self-eq-MOST_BASES.false))
    _
    _
    refl
    (c.base_length.ensures.0 ∙ ap base_length c.entry.ensures.bytes)
    c.push.ensures.numbers
    c.push.ensures.count
