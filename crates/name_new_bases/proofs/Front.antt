-- A search among the first bases of a list does not read what follows them. Assumes nothing.
use Prim.Native.Nat.{ℕ, zero, suc, ◌+◌, ◌≤◌, ◌<◌}
use mathlib.Core.Path.{◌≡◌, refl, ap}
use mathlib.Core.List.{List, ◌++◌}
use native.Mathlib.Omega.{arith}
use lib.ListN.{length, get_or, get_or-append}
use Rattle.text_entries.specs.Entries.{same_bytes}
use Rattle.text_entries.proofs.InOrder.{first_same}
use Rattle.name_base_list.specs.Bases.{base_name, is_base, bases_fit_from, bases_fit, find_base}

module _ (bases rest : List ℕ) where
  -- offset and length of base j
  offset_kept : (j : ℕ) → j + j + 1 < length bases → get_or (bases ++ rest) (j + j) 0 ≡ get_or bases (j + j) 0
  offset_kept j h = get_or-append bases rest 0 (j + j) (omega arith)

  length_kept : (j : ℕ) → j + j + 1 < length bases → get_or (bases ++ rest) (j + j + 1) 0 ≡ get_or bases (j + j + 1) 0
  length_kept j h = get_or-append bases rest 0 (j + j + 1) h

  pub name_front : (text : List ℕ) (j : ℕ) → j + j + 1 < length bases → base_name text (bases ++ rest) j ≡ base_name text bases j
  name_front text j h = rw (offset_kept j h, length_kept j h)

  pub find_front : (text name : List ℕ) (count : ℕ) → count + count ≤ length bases → find_base text (bases ++ rest) count name ≡ find_base text bases count name
  find_front text name count h =
      first_same (is_base text (bases ++ rest) name) (is_base text bases name) 0 count λ j _ l. ap (λ base. same_bytes base name) (name_front text j (omega arith))

  fit_on : (end j k : ℕ) → j + k + (j + k) ≤ length bases → bases_fit_from end (bases ++ rest) j k ≡ bases_fit_from end bases j k
  unfolding bases_fit_from
  fit_on end j zero h = refl
  fit_on end j (suc k) h = rw (offset_kept j (omega arith), length_kept j (omega arith), fit_on end (suc j) k (omega arith))

  pub fit_front : (end count : ℕ) → count + count ≤ length bases → bases_fit end (bases ++ rest) count ≡ bases_fit end bases count
  fit_front end count h = fit_on end 0 count (omega arith)
