-- The front of a table, written anew. Assumes nothing.
use Rattle.std.specs.Prelude.{List, ◌++◌, length, drop}

-- a new list over the front of an old one: what stands behind it is as it was
abbrev pub front : {A : Type 0} → (new old : List A) → List A
front new old = new ++ drop (length new) old
