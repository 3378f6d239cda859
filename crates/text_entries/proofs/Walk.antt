-- How the tests of a list go on by one element. Assumes nothing.
use Prim.Native.Nat.{ℕ, ◌+◌, ◌≤◌, ◌<◌}
use mathlib.Core.Path.{◌≡◌}
use mathlib.Core.Bool.{true, false}
use mathlib.Core.List.{List}
use native.Mathlib.Numerals.{add-one}
use lib.ListN.{length, get_or, drop, drop_of_length-le}
use lib.Seq.{drop-cons}
use borrow.Author.Tests.{le-leb, lt-leb}
use Rattle.text_entries.specs.Entries.{offsets_from, are_flags}

module _ (end last : ℕ) (offsets : List ℕ) (i : ℕ) where
  pub offset_passes : i < length offsets → last ≤ get_or offsets i 0 → get_or offsets i 0 ≤ end
      → offsets_from end last (drop i offsets) ≡ offsets_from end (get_or offsets i 0) (drop (i + 1) offsets)
  unfolding offsets_from
  offset_passes h rises fits = rw (drop-cons offsets i 0 h, add-one i, le-leb last (get_or offsets i 0) rises, le-leb (get_or offsets i 0) end fits)

  pub offset_falls : i < length offsets → get_or offsets i 0 < last → offsets_from end last (drop i offsets) ≡ false
  unfolding offsets_from
  offset_falls h falls = rw (drop-cons offsets i 0 h, lt-leb last (get_or offsets i 0) falls)

  pub offset_overruns : i < length offsets → last ≤ get_or offsets i 0 → end < get_or offsets i 0 → offsets_from end last (drop i offsets) ≡ false
  unfolding offsets_from
  offset_overruns h rises over = rw (drop-cons offsets i 0 h, le-leb last (get_or offsets i 0) rises, lt-leb (get_or offsets i 0) end over)

  pub offsets_end : length offsets ≤ i → offsets_from end last (drop i offsets) ≡ true
  unfolding offsets_from
  offsets_end h = rw (drop_of_length-le offsets h)

module _ (bytes : List ℕ) (i : ℕ) where
  pub flag_passes : i < length bytes → get_or bytes i 0 ≤ 1 → are_flags (drop i bytes) ≡ are_flags (drop (i + 1) bytes)
  unfolding are_flags
  flag_passes h low = rw (drop-cons bytes i 0 h, add-one i, le-leb (get_or bytes i 0) 1 low)

  pub flag_fails : i < length bytes → 1 < get_or bytes i 0 → are_flags (drop i bytes) ≡ false
  unfolding are_flags
  flag_fails h high = rw (drop-cons bytes i 0 h, lt-leb (get_or bytes i 0) 1 high)

  pub flags_end : length bytes ≤ i → are_flags (drop i bytes) ≡ true
  unfolding are_flags
  flags_end h = rw (drop_of_length-le bytes h)
