-- The names of a key and the glues that it joins. Assumes nothing.
use Rattle.std.specs.Prelude.{ℕ, ◌+◌, ◌*◌, Bool, cond, ◌&&◌, List, eqb, ltb, get_or}
use Rattle.text_entries.specs.Entries.{entry_of}
use Rattle.name_base_list.specs.Bases.{base_number, glue_of}
use Rattle.name_keys.specs.declared.RefOrPair.{RefOrPair}
use Rattle.name_keys.specs.declared.RefOrPair.TheVariants.{Ref, Pair}
use Rattle.name_keys.specs.declared.Joined.{Joined}
use Rattle.name_keys.specs.declared.KeyNames.{KeyNames as LentNames}
use Rattle.name_keys.specs.declared.Joined.TheVariants.{Glues, Nothing}

-- The keys' names as they are lent: entries 2k and 2k + 1 of the text are those of key k; and the list of bases, which lie in the same text.
pub record KeyNames : Type 0 where
  pub text : List ℕ
  pub offsets : List ℕ
  pub paired : List ℕ
  pub bases : List ℕ
  pub count : ℕ

abbrev pub key_names : (text offsets paired bases : List ℕ) → (count : ℕ) → KeyNames
key_names text offsets paired bases count = record { text = text; offsets = offsets; paired = paired; bases = bases; count = count }

-- as they are lent
abbrev pub key_names_of : LentNames → KeyNames
key_names_of lent = key_names lent.names.text.now lent.names.offsets.now lent.paired.now lent.bases.now lent.count

-- the entries of key k's names: the second counts where the key is paired
abbrev pub names_at : (paired : List ℕ) → ℕ → RefOrPair
names_at paired k = cond (eqb (get_or paired k 0) 1) (Pair (k + k) (k + k + 1)) (Ref (k + k))

-- its base is in the list
abbrev pub is_registered : (text bases : List ℕ) → (count : ℕ) → (name : List ℕ) → Bool
is_registered text bases count name = ltb (base_number text bases count name) count

-- a key of one name joins base and inverse, however many stars it has
abbrev pub joined_by_one : (text bases : List ℕ) → (count : ℕ) → (name : List ℕ) → Joined
joined_by_one text bases count name =
    cond (is_registered text bases count name)
    (Glues (base_number text bases count name * 2 + 1) (base_number text bases count name * 2 + 2))
    Nothing

-- a key of two names joins what each resolves to
abbrev pub joined_by_two : (text bases : List ℕ) → (count : ℕ) → (first second : List ℕ) → Joined
joined_by_two text bases count first second =
    cond (is_registered text bases count first && is_registered text bases count second)
    (Glues (glue_of (base_number text bases count first) first) (glue_of (base_number text bases count second) second))
    Nothing

-- what names join
abbrev pub joined_by : (text offsets bases : List ℕ) → (count : ℕ) → RefOrPair → Joined
joined_by text offsets bases count (Ref name) = joined_by_one text bases count (entry_of text offsets name)
joined_by text offsets bases count (Pair first second) = joined_by_two text bases count (entry_of text offsets first) (entry_of text offsets second)

-- what key k joins
abbrev pub key_joined : KeyNames → ℕ → Joined
key_joined n k = joined_by n.text n.offsets n.bases n.count (names_at n.paired k)
