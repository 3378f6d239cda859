-- The logarithm of strand 0, and those of a sheet that were put behind it. Assumes nothing.
use Prim.Native.Nat.{ℕ, suc, ◌-◌, ◌<◌}
use mathlib.Core.List.{List, [], ◌∷◌, ◌++◌, map, append-nil}
use mathlib.Core.Path.{◌≡◌, refl, ap, ◌∙◌}
use native.Mathlib.Omega.{arith}
use lib.Ieee.{Float, binary64, of_bits, round}
use lib.ListN.{length, take, drop, set}
use lib.Seq.{sets, length-sets, take-length, drop-length}
use Rattle.units.specs.Decimals.{decimal}
use Rattle.sheet_numbers.specs.Floats.{value_as}
use Rattle.sheet_numbers.specs.declared.float_column.Kind.TheVariants.{Logarithms}
use Rattle.sheet_strands.specs.Strands.{log_fields, logs_of}

module _ {A : Type 0} where
  sets_behind : (v : A) (l : List A) (i : ℕ) (xs : List A) → sets (v ∷ l) (suc i) xs ≡ v ∷ sets l i xs
  sets_behind v l i [] = refl
  sets_behind v l i (x ∷ xs) = sets_behind v (set l i x) (suc i) xs

  -- all but the first element, with numbers put from its front on
  put_behind : (l : List A) (v : A) (xs m : List A) → 0 < length l → m ≡ sets (take (length (set l 0 v) - 1) (drop 1 (set l 0 v))) 0 xs
      → take 1 (set l 0 v) ++ (m ++ drop (length (set l 0 v) - 1) (drop 1 (set l 0 v))) ≡ sets l 0 (v ∷ xs)
  put_behind [] v xs m h e = absurd (omega arith)
  put_behind (a ∷ l) v xs m h e =
      let n : suc (length l) - 1 ≡ length l = omega arith in
      let all : m ≡ sets l 0 xs = e ∙ rw (n, take-length l) in
      rw (n, all, drop-length l, append-nil (sets l 0 xs), sets_behind v l 0 xs)

  -- it is as long as before
  pub long_behind : (l : List A) (v : A) (xs m : List A) → 0 < length l → m ≡ sets (take (length (set l 0 v) - 1) (drop 1 (set l 0 v))) 0 xs
      → length (take 1 (set l 0 v) ++ (m ++ drop (length (set l 0 v) - 1) (drop 1 (set l 0 v)))) ≡ length l
  long_behind l v xs m h e = ap length (put_behind l v xs m h e) ∙ length-sets l 0 (v ∷ xs)

module _ (l : List Float) (records : ℕ) (sheet : List ℕ) (m : List Float) (h : records < length l)
    (e : m ≡ sets (take (length (set l 0 (of_bits binary64 0)) - 1) (drop 1 (set l 0 (of_bits binary64 0)))) 0 (map (value_as Logarithms) (log_fields records sheet))) where
  -- the table afterwards
  abbrev all : List Float
  all = take 1 (set l 0 (of_bits binary64 0)) ++ (m ++ drop (length (set l 0 (of_bits binary64 0)) - 1) (drop 1 (set l 0 (of_bits binary64 0))))

  pub logs_put : all ≡ sets l 0 (logs_of records sheet)
  unfolding logs_of of_bits decimal round
  logs_put = put_behind l (of_bits binary64 0) (map (value_as Logarithms) (log_fields records sheet)) m (omega arith) e
