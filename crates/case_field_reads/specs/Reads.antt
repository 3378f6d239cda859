-- What reading a number comes to. Assumes nothing.
use Rattle.std.specs.Prelude.{ℕ, Bool, Option, is_some}
use Rattle.std.specs.Option.{unwrap_or}

-- whether a number could be read, and the number, 0 where it could not
abbrev pub is_read : Option ℕ → Bool
is_read value = is_some value

abbrev pub number_in : Option ℕ → ℕ
number_in value = unwrap_or value 0
