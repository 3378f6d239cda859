-- What the running choice comes to: the candidate at the first place of a least energy, if every energy is good; a bad one if any is bad.
-- Assumes nothing.
use mathlib.Core.Path.{◌≡◌, refl, ap, ◌∙◌}
use mathlib.Core.Logic.{⊎_elim}
use mathlib.Core.Bool.{Bool, true, false, cond}
use Prim.Native.Nat.{ℕ, zero, suc, ◌+◌, ◌<◌}
use native.Mathlib.Nat.{eq-or-lt_of_le, le_of_suc-le-suc, not-suc-le-zero}
use native.Mathlib.Numerals.{add-one}
use native.Mathlib.Omega.{arith}
use lib.Ieee.{inf, lt, le}
use Rattle.floats.specs.declared.Choice.{Choice}
use Rattle.floats.specs.Values.{Good, Bad}
use Rattle.floats.specs.Least.{better}
use Rattle.floats.proofs.Tests.{not_both}
use Rattle.floats.proofs.Order.{lt→le, not_lt→le, lt_le_trans, lt_irrefl}
use Rattle.floats.proofs.Good.{good_number, good_up, good_le_refl}
use Rattle.ledger_rows.specs.Blocks.{lower, lowest}

-- the candidate at place p is the choice among the first n
pub record Chosen (next : ℕ → Choice) (n p : ℕ) : Type 0 where
  pub within : p < n
  pub held : lowest next n ≡ next p
  pub least : Good (next p).energy → (i : ℕ) → i < n → Good (next i).energy × (le (next p).energy (next i).energy ≡ true)
  pub first : Good (next p).energy → (i : ℕ) → i < p → lt (next p).energy (next i).energy ≡ true

-- ---- one candidate against another
lower_itself : (x : Choice) → lower x x ≡ x
unfolding lower
lower_itself x = rw (lt_irrefl x.energy) (go (lt (inf true) x.energy))
  where
    go : (b : Bool) → cond b x x ≡ x
    go true = refl
    go false = refl

pub takes_bad : (old new : Choice) → Bad new.energy → lower old new ≡ new
unfolding lower
takes_bad old new b = rw b

pub takes_better : (old new : Choice) → Good new.energy → better (λ c. c.energy) old new ≡ lower old new
unfolding lower
takes_better old new g = rw g

takes_smaller : (old new : Choice) → Good new.energy → lt new.energy old.energy ≡ true → lower old new ≡ new
unfolding lower
takes_smaller old new g h = rw (g, h)

keeps : (old new : Choice) → Good new.energy → lt new.energy old.energy ≡ false → lower old new ≡ old
unfolding lower
keeps old new g h = rw (g, h)

-- ---- a turn: the candidate at place n comes after those before it, among which place p is the choice
module _ (next : ℕ → Choice) (n p : ℕ) (before : Chosen next n p) where
  turned : {c : Choice} → lower (next p) (next n) ≡ c → lowest next (suc n) ≡ c
  unfolding lowest
  turned e = ap (λ o. lower o (next n)) before.held ∙ e

  among : {P : ℕ → Type 0} → ((i : ℕ) → i < n → P i) → P n → (i : ℕ) → i < suc n → P i
  among {P} old new i h = ⊎_elim (λ (e : i ≡ n). rw e new) (old i) (eq-or-lt_of_le (le_of_suc-le-suc h))

  comes_bad : Bad (next n).energy → Chosen next (suc n) n
  comes_bad b =
      record {
        within = omega arith;
        held = turned (takes_bad (next p) (next n) b);
        least = λ g. absurd (not_both g b);
        first = λ g. absurd (not_both g b);
      }

  comes_smaller : Good (next n).energy → lt (next n).energy (next p).energy ≡ true → Chosen next (suc n) n
  comes_smaller good h =
      let x = (next n).energy in
      let old : Good (next p).energy = good_up x (next p).energy good (lt→le x (next p).energy h) in
      let under : (i : ℕ) → i < n → lt x (next i).energy ≡ true = λ i l. lt_le_trans x (next p).energy (next i).energy h (before.least old i l).1 in
      record {
        within = omega arith;
        held = turned (takes_smaller (next p) (next n) good h);
        least = λ g. among {P = λ i. Good (next i).energy × (le x (next i).energy ≡ true)} (λ i l. ((before.least old i l).0, lt→le x (next i).energy (under i l))) (g, good_le_refl x g);
        first = λ g. under;
      }

  comes_larger : Good (next n).energy → lt (next n).energy (next p).energy ≡ false → Chosen next (suc n) p
  comes_larger good h =
      let x = (next p).energy in
      record {
        within = omega (arith, before.within);
        held = turned (keeps (next p) (next n) good h);
        least =
            λ g.
            among {P = λ i. Good (next i).energy × (le x (next i).energy ≡ true)} (before.least g)
            (good, not_lt→le (next n).energy x (good_number (next n).energy good) (good_number x g) h);
        first = before.first;
      }

  pub comes : (p' : ℕ) × Chosen next (suc n) p'
  comes = go (lt (inf true) (next n).energy) refl (lt (next n).energy (next p).energy) refl
    where
      go : (b : Bool) → lt (inf true) (next n).energy ≡ b → (s : Bool) → lt (next n).energy (next p).energy ≡ s → (p' : ℕ) × Chosen next (suc n) p'
      go false b s e = (n, comes_bad b)
      go true b true e = (n, comes_smaller b e)
      go true b false e = (p, comes_larger b e)

-- ---- the choice among some candidates
alone : (next : ℕ → Choice) → Chosen next 1 0
unfolding lowest
alone next =
    record {
      within = omega arith;
      held = lower_itself (next 0);
      least = λ g i h. let e : i ≡ 0 = omega arith in rw e (g, good_le_refl (next 0).energy g);
      first = λ g i h. absurd (not-suc-le-zero h);
    }

pub chosen : (next : ℕ → Choice) (n : ℕ) → 0 < n → (p : ℕ) × Chosen next n p
chosen next zero some = absurd (not-suc-le-zero some)
chosen next (suc zero) some = (0, alone next)
chosen next (suc (suc n)) some =
    let old = chosen next (suc n) (omega arith) in
    comes next (suc n) old.0 old.1

-- ---- as a loop makes it
pub lowest_one : (next : ℕ → Choice) → lowest next 1 ≡ next 0
unfolding lowest
lowest_one next = lower_itself (next 0)

pub lowest_turn : (next : ℕ → Choice) (n : ℕ) {old new : Choice} → old ≡ lowest next n → new ≡ lower old (next n) → new ≡ lowest next (n + 1)
unfolding lowest
lowest_turn next n held turn = rw (add-one n) (turn ∙ ap (λ o. lower o (next n)) held)
