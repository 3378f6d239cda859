-- The position of a strand in a rising list is the number of strands below it. Assumes nothing.
use mathlib.Core.Path.{◌≡◌, refl, sym, ap, ◌∙◌}
use mathlib.Core.List.{List, [], ◌∷◌}
use Prim.Native.Nat.{ℕ, zero, suc, ◌<◌, suc-le-suc}
use native.Mathlib.Nat.{zero-add, not-suc-le-zero, le_of_suc-le-suc}
use native.Mathlib.Numerals.{one-add}
use native.Mathlib.Omega.{arith}
use lib.ListN.{length, get_or}
use borrow.Author.Tests.{lt-ltb, le-ltb}
use Rattle.ledger_rows.specs.Scan.{Scan, Rising}
use Rattle.ledger_rows.specs.Blocks.{leavers}
use Rattle.ledger_rows.specs.Trace.{below}

rising_rest : (s : ℕ) (l : List ℕ) → Rising (s ∷ l) → Rising l
rising_rest s l rises p q h b = rises (suc p) (suc q) (suc-le-suc h) (suc-le-suc b)

-- nothing in the list is below what is below each of it
below_none : (l : List ℕ) (t : ℕ) → ((p : ℕ) → p < length l → t < get_or l p 0) → below l t ≡ 0
unfolding below
below_none [] t under = refl
below_none (s ∷ l) t under =
    let h : t < s = under 0 (omega arith) in
    rw (le-ltb s t (omega arith), below_none l t (λ p b. under (suc p) (suc-le-suc b)))

pub below_at : (l : List ℕ) (p : ℕ) → Rising l → p < length l → below l (get_or l p 0) ≡ p
unfolding below
below_at [] p rises h = absurd (not-suc-le-zero h)
below_at (s ∷ l) zero rises h = rw (le-ltb s s (omega arith)) (zero-add (below l s) ∙ below_none l s (λ p b. rises 0 (suc p) (omega arith) (suc-le-suc b)))
below_at (s ∷ l) (suc p) rises h =
    let under : s < get_or l p 0 = rises 0 (suc p) (omega arith) h in
    rw (lt-ltb s (get_or l p 0) under, below_at l p (rising_rest s l rises) (le_of_suc-le-suc h)) (one-add p)

-- two positions of one strand are the same
pub once : (l : List ℕ) (p q : ℕ) → Rising l → p < length l → q < length l → get_or l p 0 ≡ get_or l q 0 → p ≡ q
once l p q rises h b e = sym (below_at l p rises h) ∙ ap (below l) e ∙ below_at l q rises b

-- the strands that leave rise
rising_one : (t : ℕ) → Rising (t ∷ [])
rising_one t p q h b = absurd (omega arith)

pub leavers_rise : (z : Scan) → ((k : ℕ) → Rising (z.strands k)) → (j k : ℕ) → Rising (leavers z j k)
unfolding leavers
leavers_rise z rise j zero = rising_one 0
leavers_rise z rise zero (suc k) = rise k
leavers_rise z rise (suc j) (suc k) = leavers_rise z rise j k
