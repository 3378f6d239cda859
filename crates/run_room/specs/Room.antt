-- What is refused of a ledger that needs so many rows. Assumes nothing.
use Rattle.std.specs.Prelude.{ℕ, ◌||◌, ltb}
use Rattle.units.specs.declared.refusal.Refusal.TheVariants.{TooManyRows, NoRoom}
use Rattle.units.specs.Limits.{most_rows}
use Rattle.units.specs.Refusals.{Verdict, refuse_if, ◌▷◌}

-- 8: the ledger would need more rows than it may have; then 9, with the need: a lent table is shorter
abbrev pub room_verdict : (need energies notes : ℕ) → Verdict
room_verdict need energies notes = refuse_if (ltb most_rows need) TooManyRows ▷ refuse_if (ltb energies need || ltb notes need) (NoRoom need)
