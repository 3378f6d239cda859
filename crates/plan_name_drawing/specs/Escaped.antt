-- A text as it stands between the tags of an XML document. Assumes nothing.
use Rattle.std.specs.Prelude.{ℕ, cond, eqb, ltb}
use mathlib.Core.List.{List, [], ◌∷◌, flat_map}
use Rattle.text_put.specs.Words.{bytes}

-- a byte: a space for one below 32, an entity for `"`, `&`, `<` and `>`, any other as it is
unfoldable pub escaped_byte : (byte : ℕ) → List ℕ
escaped_byte byte =
    cond (ltb byte 32) (bytes " ")
    (cond (eqb byte 34) (bytes "&quot;")
    (cond (eqb byte 38) (bytes "&amp;")
    (cond (eqb byte 60) (bytes "&lt;")
    (cond (eqb byte 62) (bytes "&gt;")
    (byte ∷ [])))))

-- the bytes of a text one after the other
abbrev pub escaped : (text : List ℕ) → List ℕ
escaped text = flat_map escaped_byte text
