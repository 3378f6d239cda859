-- What a number is read as where a type has room for the limit, by what its digits are read as. Assumes nothing.
use Rattle.std.proofs.Common.{Option, Some, None, Result, Ok, Err}
use Rattle.std.specs.Result.{OkIff, result_ok}
use Prim.Native.Nat.{ℕ, ◌≤◌, ◌<◌, ◌^◌}
use mathlib.Core.Bool.{cond}
use mathlib.Core.List.{List}
use mathlib.Core.Path.{◌≡◌}
use native.Mathlib.Omega.{arith}
use Rattle.text_digits.specs.Digits.{worth, is_number, number_of}
use Rattle.text_digits.proofs.Worth.{below_none, below_of, below_over}

module _ (limit : ℕ) (small : limit ≤ 2 ^ 64) (value : List ℕ) where
  abbrev read : Option ℕ
  read = cond (is_number limit value) (Some (worth 10 0 value)) None

  pub no_number : number_of (2 ^ 64) value ≡ None → None ≡ read
  unfolding number_of
  no_number e = below_none limit value small e

  pub number_read : {E : Type 0} (r : Result ℕ E) (x : ℕ) → number_of (2 ^ 64) value ≡ Some x → OkIff r (x < limit) x → result_ok r ≡ read
  unfolding number_of
  number_read (Ok y) x e p = rw p.1 (below_of limit value small x e p.0)
  number_read (Err d) x e p = below_over limit value small x e (omega arith)
