-- What is known of a file that was read into a room. Assumes nothing.
use Rattle.std.specs.Prelude.{ℕ, ◌<◌, ◌≤◌, min, List, length, Option, Some, None, Result, Ok, Err}
use Rattle.sheet_files.specs.declared.Unread.{Unread}
use Rattle.sheet_files.specs.declared.Unread.TheVariants.{Unopened, Full, Failed}

-- how many bytes a read gave, as far as the room goes
unfoldable pub part_of : {E : Type 0} → Result ℕ E → (room : ℕ) → Option ℕ
part_of (Ok n) room = Some (min n room)
part_of (Err e) room = None

abbrev pub AtMost : ℕ → Option ℕ → Type 0
AtMost most (Some n) = n ≤ most
AtMost most None = Unit

-- a file that was read to its end left room, and so did one that failed: what fills the room may be the front of a longer file
abbrev pub LeavesRoom : List ℕ → Result ℕ Unread → Type 0
LeavesRoom room (Ok bytes) = bytes < length room
LeavesRoom room (Err Unopened) = Unit
LeavesRoom room (Err Full) = Unit
LeavesRoom room (Err (Failed bytes)) = bytes < length room
