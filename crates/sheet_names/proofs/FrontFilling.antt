-- Laws of tables that are filled from the front. Assumes nothing.
use Prim.Native.Nat.{ℕ, ◌≤◌, ◌<◌}
use mathlib.Core.List.{List, [], ◌∷◌, flatten}
use mathlib.Core.Path.{◌≡◌}
use native.Mathlib.Nat.{zero-add}
use native.Mathlib.Omega.{arith}
use lib.ListN.{length, get_or, set, length-set}
use lib.Seq.{get_or-set_same}
use Rattle.text_entries.specs.Entries.{entry_of}
use Rattle.text_put.specs.Puts.{Put}
use Rattle.sheet_names.specs.Appended.{flag_of, Appended}
use Rattle.sheet_names.specs.declared.Laid.{Laid}
use Rattle.sheet_names.proofs.Appending.{append_one, then_append}
use Rattle.sheet_names.proofs.ReadBack.{reads_back}
use Rattle.sheet_names.specs.FrontFilled.{no_entries, FrontFilled}

-- entries that were appended to none
pub filled : (offsets : List ℕ) (bytes : ℕ) (entries : List (List ℕ)) {text present : List ℕ} {stop : Laid} {text' offsets' present' : List ℕ}
    → Appended text (set offsets 0 bytes) present (no_entries bytes) entries stop text' offsets' present'
    → FrontFilled text offsets present bytes entries stop.bytes text' offsets' present'
filled offsets bytes entries a = record { counted = omega arith; laid = a.laid; ended = a.ended; flagged = a.flagged }

-- an entry that was put by hand, and entries that were appended to it
pub filled_after : (text offsets present first : List ℕ) (entries : List (List ℕ)) {bytes : ℕ} {text₁ : List ℕ} {stop : Laid} {text' offsets' present' : List ℕ}
    → 1 ≡ flag_of first → Put text 0 first bytes text₁
    → Appended text₁ (set (set offsets 0 0) 1 bytes) (set present 0 1) (record { entries = 1; bytes = bytes }) entries stop text' offsets' present'
    → FrontFilled text offsets present 0 (first ∷ entries) stop.bytes text' offsets' present'
filled_after text offsets present first entries {bytes} {text₁} e p a =
    filled offsets 0 (first ∷ entries) (then_append (append_one text (set offsets 0 0) present (no_entries 0) first 1 bytes text₁ e p) (omega arith) a)

-- where all have room, each entry is read back
pub filled_read : {text : List ℕ} (offsets : List ℕ) {present : List ℕ} {entries : List (List ℕ)} {stop : ℕ} {text' offsets' present' : List ℕ}
    → FrontFilled text offsets present 0 entries stop text' offsets' present' → length (flatten entries) ≤ length text → length entries < length offsets
    → (k : ℕ) → k < length entries → entry_of text' offsets' k ≡ get_or entries k []
filled_read offsets a fits room k h =
    rw zero-add at (reads_back a (omega arith) (simp length-set (omega arith)) (get_or-set_same offsets 0 0 0 (omega arith)) k h)
