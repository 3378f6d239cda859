-- One bay's block, from what the code has at hand when it writes it. Assumes nothing.
use Rattle.std.specs.Prelude.{cond, if◌then◌else◌, Some, None, List, ◌++◌, ℕ, ◌+◌, ◌-◌, ◌%◌, ◌≤◌, ◌<◌, ltb, Float, length, get_or, take, drop}
use Rattle.std.specs.Float.{nan}
use Rattle.units.specs.Limits.{most_rows, most_strands}
use Rattle.floats.specs.declared.Choice.{Choice}
use Rattle.sets.specs.Set.{has, next_of}
use Rattle.ledger_rows.specs.Blocks.{tab, flat}
use Rattle.ledger_row_choice.specs.declared.Bonds.{Bonds}
use Rattle.ledger_row_choice.specs.declared.Own.{Own}
use Rattle.ledger_row_choice.specs.Row.{strands_of, bond_at, own_row}
use Rattle.ledger_block.specs.declared.Bay.{Bay}
use Rattle.ledger_block.specs.declared.Stretch.{Stretch}

-- a stretch of a list is written anew, and nothing else
abbrev pub over : {A : Type 0} → List A → ℕ → List A → List A
over old at new = take at old ++ (new ++ drop (at + length new) old)

-- the part of a list that stands there
abbrev pub part : {A : Type 0} → Stretch → List A → List A
part s l = take (s.end - s.from) (drop s.from l)

-- `count` rows fit both tables at `at`, behind the block before, and the bay's numbers are small enough to count with
pub record Writable (b : Bay) (before : Stretch) (at count energies notes : ℕ) : Type 0 where
  pub small : b.width ≤ most_rows
  pub some_leave : 0 < length (strands_of b.leaving)
  pub from_end : before.from ≤ before.end
  pub behind : before.end ≤ at
  pub energies_fit : at + count ≤ energies
  pub notes_fit : at + count ≤ notes

-- what is fixed of strand t on a bay, with u on the previous bay
abbrev pub own_of : Bay → (row side : List Float) → (u t : ℕ) → Own
own_of b row side u t = record { strand = t; bay = get_or row t nan; side = if b.beside then Some (bond_at side u t) else None; below = b.below }

-- one part of the rows for each strand of the bay, with u on the previous bay
abbrev pub bay_line : {A : Type 0} → (Choice → A) → Bay → (row : List Float) → Bonds → (before : List Float) → (q u : ℕ) → List A
bay_line part b row bonds before q u =
    tab (λ p. part (own_row (own_of b row bonds.side u (get_or (strands_of b.set) p 0)) bonds.major before b.leaving b.width q)) (length (strands_of b.set))

-- the strand on the previous bay in rows q: it is the fastest that stays
abbrev pub beside_at : (previous q : ℕ) → ℕ
beside_at previous q = get_or (strands_of previous) (q % length (strands_of previous)) 0

-- the strand behind u in a set, and the first one behind the last
abbrev pub following_in : (set u : ℕ) → ℕ
following_in set u = cond (ltb (next_of (has set) (u + 1) most_strands) most_strands) (next_of (has set) (u + 1) most_strands) (next_of (has set) 0 most_strands)

-- one part of the rows of the bay's block
abbrev pub bay_block : {A : Type 0} → (Choice → A) → Bay → (row : List Float) → Bonds → (before : List Float) → List A
bay_block part b row bonds before = flat (λ q. bay_line part b row bonds before q (beside_at b.previous q)) b.width
