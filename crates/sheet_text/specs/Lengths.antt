-- A number of bytes as far as a usize can count them. Assumes nothing.
use Rattle.std.specs.Prelude.{ℕ, ◌-◌, ◌^◌, min}

-- the number, or the largest usize where it is more
abbrev pub capped : ℕ → ℕ
capped n = min n (2 ^ 64 - 1)
