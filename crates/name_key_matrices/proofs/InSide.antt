-- The glues that a key joins have a row in the matrices. Assumes nothing.
use Prim.Native.Nat.{ℕ, ◌+◌, ◌*◌, ◌<◌}
use mathlib.Core.Path.{◌≡◌, refl}
use mathlib.Core.Bool.{Bool, true, false, cond, ◌&&◌}
use mathlib.Core.List.{List}
use native.Mathlib.Omega.{arith}
use lib.Dec.{ltb}
use borrow.Author.Tests.{ltb-true}
use Rattle.text_entries.specs.Entries.{entry_of}
use Rattle.units.proofs.Tests.{both}
use Rattle.name_stars.specs.Stars.{is_from}
use Rattle.name_base_list.specs.Bases.{base_number, glue_of}
use Rattle.name_keys.specs.declared.RefOrPair.{RefOrPair}
use Rattle.name_keys.specs.declared.RefOrPair.TheVariants.{Ref, Pair}
use Rattle.name_keys.specs.declared.Joined.TheVariants.{Glues, Nothing}
use Rattle.name_keys.specs.Names.{KeyNames, names_at, joined_by, key_joined}
use Rattle.name_keys_lent.specs.Lent.{side_of}
use Rattle.name_key_matrices.specs.Matrices.{InSide}

-- a base below the count has two glues within the side
in_side : (j count : ℕ) (name : List ℕ) → j < count → glue_of j name < side_of count
in_side j count name h = either (is_from name)
  where
    either : (t : Bool) → cond t (j * 2 + 1) (j * 2 + 1 + 1) < side_of count
    either true = omega arith
    either false = omega arith

one_in_side : (j count : ℕ) → InSide (side_of count) (cond (ltb j count) (Glues (j * 2 + 1) (j * 2 + 2)) Nothing)
one_in_side j count = either (ltb j count) refl
  where
    either : (t : Bool) → ltb j count ≡ t → InSide (side_of count) (cond t (Glues (j * 2 + 1) (j * 2 + 2)) Nothing)
    either true e = let h : j < count = ltb-true j count e in omega arith
    either false e = tt

two_in_side : (i j count : ℕ) (first second : List ℕ) → InSide (side_of count) (cond (ltb i count && ltb j count) (Glues (glue_of i first) (glue_of j second)) Nothing)
two_in_side i j count first second = either (ltb i count && ltb j count) refl
  where
    either : (t : Bool) → (ltb i count && ltb j count) ≡ t → InSide (side_of count) (cond t (Glues (glue_of i first) (glue_of j second)) Nothing)
    either true e =
        let tests = both (ltb i count) (ltb j count) e in
        (in_side i count first (ltb-true i count tests.0), in_side j count second (ltb-true j count tests.1))
    either false e = tt

-- what names join has its rows
joined_in_side : (text offsets bases : List ℕ) (count : ℕ) (names : RefOrPair) → InSide (side_of count) (joined_by text offsets bases count names)
joined_in_side text offsets bases count (Ref name) = one_in_side (base_number text bases count (entry_of text offsets name)) count
joined_in_side text offsets bases count (Pair first second) =
    two_in_side (base_number text bases count (entry_of text offsets first)) (base_number text bases count (entry_of text offsets second)) count
    (entry_of text offsets first) (entry_of text offsets second)

pub key_in_side : (n : KeyNames) (k : ℕ) → InSide (side_of n.count) (key_joined n k)
key_in_side n k = joined_in_side n.text n.offsets n.bases n.count (names_at n.paired k)
