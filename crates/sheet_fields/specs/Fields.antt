-- Fields of comma-separated text after RFC 4180: where a field's content stands and how the field ends. Assumes nothing.
use Rattle.std.specs.Prelude.{ℕ, suc, ◌+◌, ◌-◌, Bool, true, false, cond, not, ◌&&◌, ◌||◌, List, [], ◌∷◌, eqb, get_or, take, drop}

-- what stands at the end of a field, and a field with its places, each sound or not; one that is not sound takes no bytes
pub record EndFound : Type 0 where
  pub sound : Bool
  pub more : Bool
  pub width : ℕ

pub record FieldFound : Type 0 where
  pub sound : Bool
  pub more : Bool
  pub from : ℕ
  pub to : ℕ
  pub next : ℕ

-- a byte that can stand in a field without quotes: neither a comma nor a quote, a CR or an LF
unfoldable pub is_plain : ℕ → Bool
is_plain b = not (eqb b 44 || (eqb b 34 || (eqb b 13 || eqb b 10)))

-- how many plain bytes a text begins with
unfoldable pub plain_length : List ℕ → ℕ
plain_length [] = 0
plain_length (b ∷ t) = cond (is_plain b) (suc (plain_length t)) 0

-- how many bytes stand before the quote that closes a field, or before the end where none does; two quotes side by side close nothing
unfoldable pub quoted_length : List ℕ → ℕ
quoted_length [] = 0
quoted_length (a ∷ []) = cond (eqb a 34) 0 1
quoted_length (a ∷ b ∷ t) = cond (eqb a 34) (cond (eqb b 34) (suc (suc (quoted_length t))) 0) (suc (quoted_length (b ∷ t)))

-- a field that is broken, and one that ended, with so many bytes at its end
abbrev pub broken : EndFound
broken = record { sound = false; more = false; width = 0 }

abbrev pub ended : (more : Bool) → (width : ℕ) → EndFound
ended more width = record { sound = true; more = more; width = width }

-- how a field ends before this text: with the text's end, a comma, LF or CR LF; any other byte breaks it, a CR without LF too
unfoldable pub ending_of : List ℕ → EndFound
ending_of [] = ended false 0
ending_of (b ∷ t) =
    cond (eqb b 44) (ended true 1) (cond (eqb b 10) (ended false 1) (cond (eqb b 13 && eqb (get_or t 0 0) 10) (ended false 2) broken))

-- a field whose content goes from one place to another, and which ends at a place as `ending` says
unfoldable pub field_of : (from to at : ℕ) → EndFound → FieldFound
field_of from to at ending =
    cond ending.sound
    (record { sound = true; more = ending.more; from = from; to = to; next = at + ending.width })
    (record { sound = false; more = false; from = 0; to = 0; next = 0 })

-- the field at the front of a text: in quotes where it begins with one
unfoldable pub bare_field : List ℕ → FieldFound
bare_field t = field_of 0 (plain_length t) (plain_length t) (ending_of (drop (plain_length t) t))

unfoldable pub quoted_field : List ℕ → FieldFound
quoted_field t =
    let n = quoted_length (drop 1 t) in
    field_of 1 (n + 1) (n + 2) (cond (eqb (get_or t (n + 1) 0) 34) (ending_of (drop (n + 2) t)) broken)

unfoldable pub is_quoted : List ℕ → Bool
is_quoted t = eqb (get_or t 0 0) 34

unfoldable pub field : List ℕ → FieldFound
field t = cond (is_quoted t) (quoted_field t) (bare_field t)

-- the same field, its places counted from the start of a text in which it stands at a place
abbrev pub moved : ℕ → FieldFound → FieldFound
moved at f = record { sound = f.sound; more = f.more; from = at + f.from; to = at + f.to; next = at + f.next }

abbrev pub field_at : List ℕ → ℕ → FieldFound
field_at text at = moved at (field (drop at text))

-- two quotes side by side within quotes stand for one
unfoldable pub unquoted : List ℕ → List ℕ
unquoted [] = []
unquoted (a ∷ []) = a ∷ []
unquoted (a ∷ b ∷ t) = cond (eqb a 34 && eqb b 34) (a ∷ unquoted t) (a ∷ unquoted (b ∷ t))

-- the bytes between a field's places, and what they stand for
unfoldable pub raw : List ℕ → List ℕ
raw t = take ((field t).to - (field t).from) (drop (field t).from t)

unfoldable pub content : List ℕ → List ℕ
content t = cond (is_quoted t) (unquoted (raw t)) (raw t)

-- what follows the field at the front of a text
unfoldable pub after : List ℕ → List ℕ
after t = drop (field t).next t
