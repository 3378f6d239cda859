-- What passed tests tell of names. Assumes nothing.
use Prim.Native.Nat.{ℕ, ◌+◌, ◌≤◌, ◌<◌}
use mathlib.Core.Path.{◌≡◌, sym, ◌∙◌, ap}
use mathlib.Core.Bool.{true, ◌&&◌}
use native.Mathlib.Omega.{arith}
use lib.Dec.{eqb}
use Rattle.units.specs.Limits.{most_strands, from_one_to}
use Rattle.units.proofs.Tests.{both}
use lib.ListN.{length, get_or}
use borrow.Author.Tests.{eqb-true}
use Rattle.text_entries.specs.Entries.{entry_of, offsets_fit, are_flags}
use Rattle.text_entries.proofs.Tested.{at_least_one, at_most, counted}
use Rattle.text_entries.proofs.Same.{same_equal}
use Rattle.name_strands.specs.Numerals.{numerals_text}
use Rattle.name_strands.specs.Names.{StrandNames, names_sized, null_name, null_first, names_read, StrandsReadable}

-- the sizes and counts of names that passed
pub record Sized (strands : ℕ) (n : StrandNames) : Type 0 where
  pub some : 1 ≤ strands
  pub few : strands ≤ most_strands
  pub offset_count : length n.offsets ≡ strands + 1
  pub byte_count : length n.present ≡ strands

pub sized : (strands : ℕ) (n : StrandNames) → names_sized strands n ≡ true → Sized strands n
unfolding names_sized
sized strands n e =
    let tests = both (from_one_to most_strands strands) _ e in
    let counts = counted (length n.text) (length n.offsets) (length n.present) strands tests.1 in
    record {
      some = at_least_one most_strands strands tests.0;
      few = at_most most_strands strands tests.0;
      offset_count = counts.0;
      byte_count = counts.1;
    }

-- so that entry 0 can be looked at
pub first_there : (strands : ℕ) (n : StrandNames) → Sized strands n → (1 < length n.offsets) × (0 < length n.present)
first_there strands n s = (omega arith, omega arith)

pub readable : {strands : ℕ} (n : StrandNames) → Sized strands n → names_read n ≡ true → StrandsReadable n
unfolding names_read null_first
readable {strands} n s e =
    let a = both (are_flags n.present && offsets_fit (length n.text) n.offsets) _ e in
    let b = both (are_flags n.present) _ a.0 in
    let c = both (null_first n) _ a.1 in
    let d = both (eqb (get_or n.present 0 0) 1) _ c.0 in
    record {
      offsets_fit_holds = b.1;
      counts = s.offset_count ∙ ap (λ k. k + 1) (sym s.byte_count);
      few = omega arith;
      null_present = eqb-true (get_or n.present 0 0) 1 d.0;
      null_name_holds = same_equal (entry_of n.text n.offsets 0) null_name d.1;
      numerals_right = same_equal n.numerals numerals_text c.1;
    }
