-- Refusal 15 as the rules say it: the entry is new, 127 bases stand before it, and it is among those registered. Assumes nothing.
use Prim.Native.Nat.{ℕ, ◌≤◌, ◌<◌}
use mathlib.Core.Path.{◌≡◌}
use mathlib.Core.Bool.{true}
use lib.ListN.{length, get_or}
use Rattle.units.specs.Limits.{most_bases}
use Rattle.units.specs.declared.refusal.Refusal.TheVariants.{TooManyBases}
use Rattle.units.specs.Refusals.{passes, refuses}
use Rattle.name_glues.specs.Names.{GlueNames}
use Rattle.name_new_bases.specs.Bases.{firsts_to, count_verdict}
use Rattle.name_new_bases.proofs.Firsts.{brings, firsts_below}
use Rattle.name_glue_numbers.proofs.Brought.{in_order}
use Rattle.name_new_bases.proofs.Collecting.{few_pass, many_refused}

-- 127 bases fit.
pub up_to_127 : (n : GlueNames) (k : ℕ) → length (firsts_to n k) ≤ most_bases → count_verdict (firsts_to n k) ≡ passes
up_to_127 n k h = few_pass (firsts_to n k) h

-- The 128th is refused, with its entry.
pub the_128th : (n : GlueNames) (k : ℕ) → most_bases < length (firsts_to n k)
    → (i : ℕ) × (count_verdict (firsts_to n k) ≡ refuses (TooManyBases i)) × (i < k) × (brings n i ≡ true) × (length (firsts_to n i) ≡ most_bases)
the_128th n k h =
    let here = in_order n k most_bases h in
    (get_or (firsts_to n k) most_bases 0, many_refused (firsts_to n k) h, firsts_below n k most_bases h, here.1, here.0)
