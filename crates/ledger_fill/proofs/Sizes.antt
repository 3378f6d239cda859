-- How many rows each block has, as the code goes from bay to bay: the width by division, the rows by a product that stays small. Assumes nothing.
use mathlib.Core.Path.{◌≡◌, refl, sym, ap, ap₂, ◌∙◌, subst}
use mathlib.Core.Logic.{◌↔◌}
use mathlib.Core.Bool.{cond}
use mathlib.Core.List.{List}
use Prim.Native.Nat.{ℕ, suc, ◌+◌, ◌-◌, ◌*◌, ◌/◌, ◌≤◌, ◌<◌}
use native.Mathlib.Nat.{mul-div_cancel_left, mul-le-mul}
use native.Mathlib.Numerals.{add-one}
use native.Mathlib.Decide.{le_ind, dec_le}
use native.Mathlib.Omega.{arith}
use lib.Ieee.{Float}
use lib.ListN.{length, get_or}
use borrow.Author.Tests.{le-leb, lt-leb}
use Rattle.units.specs.Limits.{most_rows, most_strands}
use Rattle.sets.specs.Set.{has}
use Rattle.sets.proofs.Members.{length_le}
use Rattle.ledger_rows.specs.Scan.{Scan, EachHasStrand}
use Rattle.ledger_rows.specs.Blocks.{size, need}
use Rattle.ledger_rows.proofs.Numbering.{size_more, size_leavers, leavers_some}
use Rattle.ledger_block.specs.declared.Bay.{Bay}
use Rattle.ledger_row_choice.specs.declared.Bonds.{Bonds}
use Rattle.ledger_row_choice.specs.Row.{strands_of}
use Rattle.ledger_fill.specs.Handed.{scan_of, capped}
use Rattle.ledger_fill.specs.Bays.{leaving_of, bay_of}
use Rattle.ledger_fill.proofs.Agrees.{leaving_is}

-- a part of a number is no larger
quotient_small : (n m limit : ℕ) → 0 < n → n * m ≤ limit → m ≤ limit
quotient_small n m limit pos h = omega (arith, h, mul-le-mul {n₁ = 1} {m₁ = m} {n₂ = n} {m₂ = m} pos (omega arith))

-- ---- the sizes of any scan
module _ (z : Scan) where
  pub need_more : (k : ℕ) → need z (k + 1) ≡ need z k + size z (k + 1) (suc z.kept)
  unfolding need
  need_more k = rw (add-one k)

  pub need_none : need z 0 ≡ 0
  unfolding need
  need_none = refl

  pub size_first : (j : ℕ) → size z 0 j ≡ 1
  unfolding size
  size_first j = refl

  pub need_mono : (k n : ℕ) → k ≤ n → need z k ≤ need z n
  need_mono k n h = le_ind (λ m. need z k ≤ need z m) (omega arith) (λ m l old. omega (arith, need_more m, ap (need z) (add-one m))) n h

-- a set has at most `most_strands` strands, so a product of a small width and a count is small
pub product_small : (width set : ℕ) → width ≤ most_rows → width * length (strands_of set) ≤ most_rows * most_strands
product_small width set h = omega (arith, mul-le-mul {n₁ = width} {m₁ = length (strands_of set)} {n₂ = most_rows} {m₂ = most_strands} h (length_le (has set) most_strands))

-- ---- the need, capped
pub capped_in : (n : ℕ) → n ≤ most_rows → n ≡ capped n
capped_in n h = sym (ap (λ b. cond b n (most_rows + 1)) (le-leb n most_rows h))

pub capped_out : (n : ℕ) → most_rows < n → most_rows + 1 ≡ capped n
capped_out n h = sym (ap (λ b. cond b n (most_rows + 1)) (lt-leb n most_rows h))

-- the limit is passed exactly where the cap says so, and below it the cap changes nothing
pub capped_exact : (n : ℕ) → (most_rows < capped n) ↔ (most_rows < n)
capped_exact n = (λ h. elim (dec_le n most_rows) [ yes l ↦ absurd (omega (arith, capped_in n l)) | no l ↦ omega arith ], λ h. omega (arith, capped_out n h))

pub capped_small : (n : ℕ) → capped n ≤ most_rows → capped n ≡ n
capped_small n h = elim (dec_le n most_rows) [ yes l ↦ sym (capped_in n l) | no l ↦ absurd (omega (arith, capped_out n (omega arith))) ]

-- ---- the sizes that the code goes through
-- what is known of bay k as it comes, behind a block with so many rows
pub record Coming (window : ℕ) (sets : List ℕ) (rows : ℕ → List Float) (bonds : Bonds) (k before : ℕ) : Type 0 where
  pub some_leave : 0 < length (strands_of (leaving_of window sets k))
  pub width_is : before / length (strands_of (leaving_of window sets k)) ≡ size (scan_of window sets rows bonds) k (window - 1)
  pub small : size (scan_of window sets rows bonds) k (window - 1) ≤ most_rows
  pub rows_are : size (scan_of window sets rows bonds) k (window - 1) * length (strands_of (get_or sets k 0)) ≡ size (scan_of window sets rows bonds) (k + 1) (suc (window - 1))

module _ {window : ℕ} {sets : List ℕ} {rows : ℕ → List Float} {bonds : Bonds} {k before : ℕ} (c : Coming window sets rows bonds k before) {b : Bay}
    (e : b ≡ bay_of window sets k (before / length (strands_of (leaving_of window sets k)))) where
  bay_width : b.width ≡ size (scan_of window sets rows bonds) k (window - 1)
  bay_width = ap (λ (b : Bay). b.width) e ∙ c.width_is

  pub bay_is : b ≡ bay_of window sets k (size (scan_of window sets rows bonds) k (window - 1))
  bay_is = e ∙ ap (bay_of window sets k) c.width_is

  pub bay_small : b.width ≤ most_rows
  bay_small = subst (λ w. w ≤ most_rows) (sym bay_width) c.small

  pub bay_rows : (r : ℕ) → r ≡ b.width * length (strands_of b.set) → r ≡ size (scan_of window sets rows bonds) (k + 1) (suc (window - 1))
  bay_rows r f = f ∙ ap₂ (λ w s. w * length (strands_of s)) bay_width (ap (λ (b : Bay). b.set) e) ∙ c.rows_are

  pub rows_small : (r : ℕ) → r ≡ b.width * length (strands_of b.set) → r ≤ most_rows * most_strands
  rows_small r f = subst (λ i. i ≤ most_rows * most_strands) (sym f) (product_small b.width b.set bay_small)

-- the rows of the first k of n bays are counted, and none is past the limit
pub record Counting (window : ℕ) (sets : List ℕ) (rows : ℕ → List Float) (bonds : Bonds) (n k before used : ℕ) : Type 0 where
  pub some_window : 0 < window
  pub filled : EachHasStrand (scan_of window sets rows bonds) n
  pub within : k ≤ n
  pub rows_are : before ≡ size (scan_of window sets rows bonds) k (suc (window - 1))
  pub used_is : used ≡ need (scan_of window sets rows bonds) k
  pub few_rows : before ≤ most_rows
  pub few : used ≤ most_rows

pub counting_starts : (window : ℕ) (sets : List ℕ) (rows : ℕ → List Float) (bonds : Bonds) (n : ℕ) → 0 < window → EachHasStrand (scan_of window sets rows bonds) n
    → Counting window sets rows bonds n 0 1 0
counting_starts window sets rows bonds n pos some =
    let z = scan_of window sets rows bonds in
    record {
      some_window = pos;
      filled = some;
      within = omega arith;
      rows_are = sym (size_first z (suc (window - 1)));
      used_is = sym (need_none z);
      few_rows = omega arith;
      few = omega arith;
    }

module _ {window : ℕ} {sets : List ℕ} {rows : ℕ → List Float} {bonds : Bonds} {n k before used : ℕ} (l : Counting window sets rows bonds n k before used) where
  abbrev z : Scan
  z = scan_of window sets rows bonds

  pub counting_comes : k < n → Coming window sets rows bonds k before
  counting_comes h =
      let same = leaving_is window sets rows bonds k l.some_window in
      let leave = subst (λ m. 0 < length m) (sym same) (leavers_some z (window - 1) k (λ i b. l.filled i (omega arith))) in
      let count = length (strands_of (leaving_of window sets k)) in
      let split : before ≡ count * size z k (window - 1) = l.rows_are ∙ size_leavers z (window - 1) k ∙ ap (λ m. length m * size z k (window - 1)) (sym same) in
      record {
        some_leave = leave;
        width_is = ap (λ i. i / count) split ∙ mul-div_cancel_left (size z k (window - 1)) leave;
        small = quotient_small count (size z k (window - 1)) most_rows leave (subst (λ i. i ≤ most_rows) split l.few_rows);
        rows_are = sym (size_more z k (window - 1)) ∙ ap (λ i. size z i (suc (window - 1))) (sym (add-one k));
      }

  pub counted : {r : ℕ} → r ≡ size z (k + 1) (suc (window - 1)) → used + r ≡ need z (k + 1)
  counted e = ap₂ (λ a b. a + b) l.used_is e ∙ sym (need_more z k)

  pub counting_turns : {r : ℕ} → k < n → r ≡ size z (k + 1) (suc (window - 1)) → used + r ≤ most_rows → Counting window sets rows bonds n (k + 1) r (used + r)
  counting_turns h e few =
      record { some_window = l.some_window; filled = l.filled; within = omega arith; rows_are = e; used_is = counted e; few_rows = omega arith; few = few }

  -- one block too many is too many for all
  pub too_many : {r : ℕ} → k < n → r ≡ size z (k + 1) (suc (window - 1)) → most_rows < used + r → most_rows + 1 ≡ capped (need z n)
  too_many h e large = capped_out (need z n) (omega (arith, counted e, need_mono z (k + 1) n (omega arith)))

  pub counting_ends : n ≤ k → used ≡ capped (need z n)
  counting_ends h =
      let all : used ≡ need z n = l.used_is ∙ ap (need z) (omega (arith, l.within)) in
      all ∙ capped_in (need z n) (omega (arith, l.few))
