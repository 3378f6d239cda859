-- `count_field::count_of` meets its contract. Assumes nothing.
use lib.Dec.{ltb}
use mathlib.Core.Bool.{◌&&◌}
use Rattle.std.proofs.Common.{ℕ, ◌-◌, ◌≤◌, ◌≡◌, Bool, true, false, List, Option, Some, None, cond, refl, sym, ◌∙◌, arith}
use Rattle.std.specs.Option.{SomeIff}
use borrow.Author.Tests.{lt-ltb, le-ltb}
use Rattle.sheet_number_lists.specs.NumberLists.{is_plain_number, value_of}
use Rattle.sheet_number_lists.specs.Counts.{plain_number}
use Rattle.sheet_numbers.specs.Counts.{is_count, from_zero, count_of}
use Rattle.sheet_numbers.proofs.count_field.count_of.Goals as goal

no_number : (w : List ℕ) → None ≡ plain_number w → None ≡ count_of w
unfolding is_count
no_number w e = go (is_plain_number w) e
  where
    go : (p : Bool) → ◌≡◌ {A = Option ℕ} None (cond p (Some (value_of w)) None) → ◌≡◌ {A = Option ℕ} None (cond (p && ltb 0 (value_of w)) (Some (from_zero w)) None)
    go true k = cc
    go false k = refl

one_less : (n : ℕ) (m : Option ℕ) → SomeIff m (1 ≤ n) (n - 1) → m ≡ cond (ltb 0 n) (Some (n - 1)) None
one_less n None h = rw (le-ltb 0 n (omega (arith, h))) refl
one_less n (Some x) h = rw (lt-ltb 0 n (omega (arith, h.0)), h.1) refl

number : (w : List ℕ) (n : ℕ) (m : Option ℕ) → Some n ≡ plain_number w → m ≡ cond (ltb 0 n) (Some (n - 1)) None → m ≡ count_of w
unfolding is_count from_zero
number w n m e f = go (is_plain_number w) e
  where
    go : (p : Bool) → ◌≡◌ {A = Option ℕ} (Some n) (cond p (Some (value_of w)) None) → m ≡ cond (p && ltb 0 (value_of w)) (Some (value_of w - 1)) None
    go true k = let same : n ≡ value_of w = cc in rw same at f
    go false k = cc

pub returns-in_err-number : goal.returns-in_err-number
returns-in_err-number c = c.from_residual.ensures ∙ no_number c.args.word.now (sym c.in_err-number.was ∙ c.plain_number.ensures)

pub returns : goal.returns
returns c = number c.args.word.now _ _ (sym c.in_ok-number.was ∙ c.plain_number.ensures) (one_less _ _ c.checked_sub.ensures)
