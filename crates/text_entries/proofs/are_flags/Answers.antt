-- `text_entries::are_flags` meets its contract: the call's test is the definition's. Assumes nothing.
use Rattle.std.proofs.Common.{◌≡◌, List, [], ◌∷◌, ℕ, refl, rules}
use Rattle.std.proofs.lemmas.Iterator.{YieldsList-from_slice}
use Rattle.std.proofs.lemmas.Iterator.Search.{all_from_yields_List}
use Rattle.std.specs.List.{list_all}
use lib.Dec.{leb}
use mathlib.Core.Path.{◌∙◌}
use Rattle.text_entries.specs.Entries.{are_flags}
use Rattle.text_entries.proofs.are_flags.Goals as goal

all_flags : (bytes : List ℕ) → list_all (λ byte. leb byte 1) bytes ≡ are_flags bytes
unfolding are_flags
all_flags [] = refl
all_flags (byte ∷ bytes) = rw (all_flags bytes)

pub returns : goal.returns
returns c = all_from_yields_List (λ byte. leb byte 1) _ _ _ c.all.ensures.ran (YieldsList-from_slice c.args.bytes.now cc) (λ x b q k. search rules) ∙ all_flags c.args.bytes.now
