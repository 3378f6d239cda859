-- A quoted text by its bytes. Assumes nothing.
use Rattle.std.specs.Prelude.{ℕ, List, [], ◌∷◌}
use Prim.Native.Char.{code}
use Prim.Native.String.{String, [] as no_more, ◌∷◌ as ◌then◌}

-- the bytes of a text of plain letters, digits and signs, which have one byte each
abbrev pub bytes : String → List ℕ
bytes no_more = []
bytes (letter then more) = code letter ∷ bytes more
