-- Names as entries: a text, where each entry begins and ends in it, and which are there. Assumes nothing.
use Rattle.std.specs.Prelude.{ℕ, ◌+◌, ◌≡◌, Bool, true, List, eqb, length, get_or}
use Rattle.text_entries.specs.declared.Names.{Names}
use Rattle.text_entries.specs.Entries.{entry_of, offsets_fit}

pub record GlueNames : Type 0 where
  pub text : List ℕ
  pub offsets : List ℕ
  pub present : List ℕ

abbrev pub glue_names : (text offsets present : List ℕ) → GlueNames
glue_names text offsets present = record { text = text; offsets = offsets; present = present }

-- names as they are lent
abbrev pub names_of : Names → GlueNames
names_of names = glue_names names.text.now names.offsets.now names.present.now

-- the name of entry i; one of no bytes is a real name
abbrev pub name_at : GlueNames → ℕ → List ℕ
name_at n i = entry_of n.text n.offsets i

-- whether entry i has a name
abbrev pub is_present : GlueNames → ℕ → Bool
is_present n i = eqb (get_or n.present i 0) 1

-- names whose entries lie within their text, as the steps of a call ask it of each other
pub record GluesReadable (n : GlueNames) : Type 0 where
  pub fits : offsets_fit (length n.text) n.offsets ≡ true
  pub counted : length n.offsets ≡ length n.present + 1
