-- Where the tests pass, each entry lies within its text and each byte is a flag. Assumes nothing.
use Prim.Native.Nat.{ℕ, zero, suc, ◌+◌, ◌-◌, ◌≤◌, ◌<◌}
use mathlib.Core.Path.{◌≡◌, sym, ◌∙◌}
use mathlib.Core.Bool.{true, ◌&&◌}
use mathlib.Core.List.{List, [], ◌∷◌}
use native.Mathlib.Nat.{le_trans, le_of_suc-le-suc, not-suc-le-zero}
use native.Mathlib.Numerals.{add-one}
use native.Mathlib.Omega.{arith}
use lib.Dec.{leb}
use lib.ListN.{length, get_or, drop, length-drop, drop_of_length-le}
use lib.Seq.{length-take-le, take_all, take-nil}
use borrow.Author.Tests.{leb-true}
use Rattle.units.proofs.Tests.{and_left, and_right}
use Rattle.text_entries.specs.Entries.{part, offsets_from, offsets_fit, are_flags}

-- offset i is not below the last one, and not past the end
within : (end last : ℕ) (offsets : List ℕ) (i : ℕ) → offsets_from end last offsets ≡ true → i < length offsets → (last ≤ get_or offsets i 0) × (get_or offsets i 0 ≤ end)
unfolding offsets_from
within end last [] i e h = absurd (not-suc-le-zero h)
within end last (o ∷ offsets) zero e h =
    let both = and_left (leb last o && leb o end) (offsets_from end o offsets) e in
    (leb-true last o (and_left (leb last o) (leb o end) both), leb-true o end (and_right (leb last o) (leb o end) both))
within end last (o ∷ offsets) (suc i) e h =
    let both = and_left (leb last o && leb o end) (offsets_from end o offsets) e in
    let rest = within end o offsets i (and_right (leb last o && leb o end) (offsets_from end o offsets) e) (le_of_suc-le-suc h) in
    (le_trans (leb-true last o (and_left (leb last o) (leb o end) both)) rest.0, rest.1)

rises : (end last : ℕ) (offsets : List ℕ) (i : ℕ) → offsets_from end last offsets ≡ true → suc i < length offsets → get_or offsets i 0 ≤ get_or offsets (suc i) 0
unfolding offsets_from
rises end last [] i e h = absurd (not-suc-le-zero h)
rises end last (o ∷ offsets) zero e h = (within end o offsets 0 (and_right (leb last o && leb o end) (offsets_from end o offsets) e) (le_of_suc-le-suc h)).0
rises end last (o ∷ offsets) (suc i) e h = rises end o offsets i (and_right (leb last o && leb o end) (offsets_from end o offsets) e) (le_of_suc-le-suc h)

-- an entry starts where it ends or before, and ends within the text
pub entry_starts : (end : ℕ) (offsets : List ℕ) (i : ℕ) → offsets_fit end offsets ≡ true → i + 1 < length offsets → get_or offsets i 0 ≤ get_or offsets (i + 1) 0
entry_starts end offsets i e h = rw (add-one i) (rises end 0 offsets i e (rw (add-one i) at h))

pub offset_within : (end : ℕ) (offsets : List ℕ) (i : ℕ) → offsets_fit end offsets ≡ true → i < length offsets → get_or offsets i 0 ≤ end
offset_within end offsets i e h = (within end 0 offsets i e h).1

-- an entry has as many bytes as lie between its offsets
pub length_part : (text : List ℕ) (from to : ℕ) → from ≤ to → to ≤ length text → length (part text from to) ≡ to - from
length_part text from to h k = length-take-le (to - from) (drop from text) (rw (length-drop from text) (omega arith))

-- a part that ends where it starts or before is empty, and so is one past the text; one that overruns ends with the text
pub part_falls : (text : List ℕ) (from to : ℕ) → to ≤ from → part text from to ≡ []
part_falls text from to h =
    let none : to - from ≡ 0 = omega arith in
    rw none

pub part_past : (text : List ℕ) (from to : ℕ) → length text ≤ from → part text from to ≡ []
part_past text from to h = rw (drop_of_length-le text h) (take-nil (to - from))

pub part_overruns : (text : List ℕ) (from to : ℕ) → length text ≤ to → part text from (length text) ≡ part text from to
part_overruns text from to h = all (length text) (omega arith) ∙ sym (all to h)
  where
    all : (end : ℕ) → length text ≤ end → part text from end ≡ drop from text
    all end k = take_all (end - from) (drop from text) (rw (length-drop from text) (omega arith))

-- a byte is 0 or 1
pub is_flag : (bytes : List ℕ) (i : ℕ) → are_flags bytes ≡ true → i < length bytes → get_or bytes i 0 ≤ 1
unfolding are_flags
is_flag [] i e h = absurd (not-suc-le-zero h)
is_flag (b ∷ bytes) zero e h = leb-true b 1 (and_left (leb b 1) (are_flags bytes) e)
is_flag (b ∷ bytes) (suc i) e h = is_flag bytes i (and_right (leb b 1) (are_flags bytes) e) (le_of_suc-le-suc h)
