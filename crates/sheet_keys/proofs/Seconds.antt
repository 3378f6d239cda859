-- Laws of the flags of the second names: every second one of all. Assumes nothing.
use Prim.Native.Nat.{ℕ, zero, suc, ◌+◌, ◌-◌, ◌*◌, ◌≤◌, ◌<◌}
use mathlib.Core.List.{List, ◌∷◌, ◌++◌, map}
use mathlib.Core.Path.{◌≡◌, refl, ap, ◌∙◌}
use native.Mathlib.Nat.{sub-zero}
use native.Mathlib.Numerals.{add-one}
use native.Mathlib.Omega.{arith}
use lib.ListN.{length, get_or, drop, set, length-set, length-map}
use lib.Seq.{sets, sets-eq, get_or-drop, drop-drop}
use Rattle.sheet_fields.specs.Fields.{content, after}
use Rattle.sheet_fields.specs.Runs.{contents, past}
use Rattle.sheet_records.specs.Tables.{columns}
use Rattle.sheet_names.specs.Appended.{flag_of}
use Rattle.sheet_names.proofs.Filling.{length_columns}
use Rattle.sheet_keys.specs.SheetKeys.{seconds}

-- the flags of the first i keys have been put: those of the others end the table
pub record InSeconds (records : ℕ) (flags old out : List ℕ) (i : ℕ) : Type 0 where
  pub within : i ≤ records
  pub long : length out ≡ length old
  pub put : sets out i (seconds (records - i) (drop (i * 2) flags)) ≡ sets old 0 (seconds records flags)

pub seconds_start : (records : ℕ) (flags old : List ℕ) → InSeconds records flags old old 0
seconds_start records flags old = record { within = omega arith; long = refl; put = rw (sub-zero records) refl }

module _ (records : ℕ) (flags old out : List ℕ) (i : ℕ) (s : InSeconds records flags old out i) where
  pub seconds_end : records ≤ i → out ≡ sets old 0 (seconds records flags)
  unfolding seconds
  seconds_end k = let none : records - i ≡ 0 = omega arith in rw none at s.put

  split : i < records → seconds (records - i) (drop (i * 2) flags) ≡ get_or flags (i * 2 + 1) 0 ∷ seconds (records - suc i) (drop (i * 2 + 2) flags)
  unfolding seconds
  split more =
      let one_more : records - i ≡ suc (records - suc i) = omega arith in
      rw (one_more, get_or-drop (i * 2) flags 1 0, drop-drop 2 (i * 2) flags)

  pub seconds_go_on : i < records → InSeconds records flags old (set out i (get_or flags (i * 2 + 1) 0)) (i + 1)
  seconds_go_on more =
      let two : suc i * 2 ≡ i * 2 + 2 = omega arith in
      record { within = omega arith; long = length-set out i (get_or flags (i * 2 + 1) 0) ∙ s.long; put = rw (add-one i, two) (rw (split more) at s.put) }

-- every second one of two columns is the second column
second_column : (records : ℕ) (sheet rest : List ℕ) → seconds records (map flag_of (columns records 5 0 2 sheet) ++ rest) ≡ map flag_of (columns records 5 1 1 sheet)
unfolding seconds columns contents past
second_column zero sheet rest = refl
second_column (suc records) sheet rest = ap (λ (l : List ℕ). flag_of (content (after sheet)) ∷ l) (second_column records (past 5 sheet) rest)

seconds_are : (records : ℕ) (sheet present present' : List ℕ) → records * 2 ≤ length present → present' ≡ sets present 0 (map flag_of (columns records 5 0 2 sheet))
    → seconds records present' ≡ map flag_of (columns records 5 1 1 sheet)
seconds_are records sheet present present' h e =
    let flags = map flag_of (columns records 5 0 2 sheet) in
    let many : length flags ≡ records * 2 = length-map (columns records 5 0 2 sheet) flag_of ∙ length_columns records 5 0 2 sheet in
    rw (e, sets-eq flags present 0 (omega arith)) (second_column records sheet (drop (0 + length flags) present))

pub seconds_put : (records : ℕ) (sheet present present' paired paired' : List ℕ) → records * 2 ≤ length present → present' ≡ sets present 0 (map flag_of (columns records 5 0 2 sheet))
    → paired' ≡ sets paired 0 (seconds records present') → paired' ≡ sets paired 0 (map flag_of (columns records 5 1 1 sheet))
seconds_put records sheet present present' paired paired' h e f = f ∙ ap (sets paired 0) (seconds_are records sheet present present' h e)
