-- A bay's block, as the code makes it from what it has at hand, is the block of the scan. Assumes nothing.
use mathlib.Core.Path.{◌≡◌, refl, sym, ap, ap₂, ◌∙◌, fun_ext}
use mathlib.Core.Bool.{Bool, true, false, cond, not}
use Rattle.std.specs.Prelude.{if◌then◌else◌, Some, None}
use mathlib.Core.List.{List, [], ◌∷◌}
use Prim.Native.Nat.{ℕ, zero, suc, ◌+◌, ◌-◌, ◌*◌, ◌%◌, ◌≤◌, ◌<◌}
use native.Mathlib.Nat.{mul_assoc, mul-add-mod_self_right, zero-mod, mod-one}
use native.Mathlib.Numerals.{sub-one}
use native.Mathlib.Decide.{dec_le}
use native.Mathlib.Omega.{arith}
use lib.Dec.{eqb, leb}
use lib.Ieee.{Float, nan}
use lib.ListN.{length, get_or}
use borrow.Author.Tests.{le-leb, lt-leb, eq-eqb}
use Rattle.floats.specs.declared.Choice.{Choice}
use Rattle.sets.specs.Set.{has, members}
use Rattle.ledger_rows.specs.Scan.{Scan}
use Rattle.ledger_rows.specs.Blocks.{tab, flat, size, leavers, newest, row_from, adds_at, block_of}
use Rattle.ledger_rows.proofs.Numbering.{leavers_early, leavers_late}
use Rattle.energy_bays.specs.ScanSum.{with_bond}
use Rattle.ledger_row_choice.specs.declared.Bonds.{Bonds}
use Rattle.ledger_row_choice.specs.Row.{strands_of, bond_at, with_side, own_adds}
use Rattle.ledger_fill.specs.Handed.{added_of, scan_of}
use Rattle.ledger_block.specs.Block.{own_of, beside_at, bay_block}
use Rattle.ledger_fill.specs.Bays.{leaving_of, bay_of}

-- while none leaves, strand 0 alone is counted
alone_0 : strands_of 1 ≡ 0 ∷ []
unfolding members has
alone_0 = refl

-- a bond that is there exactly where the bay before is
with_side-is : (there : Bool) (bond x : Float) → with_side (if there then Some bond else None) x ≡ with_bond there bond x
with_side-is true bond x = refl
with_side-is false bond x = refl

-- a row of several times c places: only the rest counts
rest_only : (a w c q : ℕ) → (a * (w * c) + q) % c ≡ q % c
rest_only a w c q = ap (λ i. (i + q) % c) (sym (mul_assoc a w c)) ∙ mul-add-mod_self_right (a * w) c q

module _ (window : ℕ) (sets : List ℕ) (rows : ℕ → List Float) (bonds : Bonds) where
  abbrev z : Scan
  z = scan_of window sets rows bonds

  pub leaving_is : (k : ℕ) → 0 < window → strands_of (leaving_of window sets k) ≡ leavers z (window - 1) k
  leaving_is k pos = go (dec_le window k)
    where
      go : Dec (window ≤ k) → strands_of (leaving_of window sets k) ≡ leavers z (window - 1) k
      go (yes h) =
          let place : k - suc (window - 1) ≡ k - window = omega arith in
          ap (λ b. strands_of (cond b (get_or sets (k - window) 0) 1)) (le-leb window k h)
          ∙ ap (λ i. strands_of (get_or sets i 0)) (sym place)
          ∙ sym (leavers_late z (window - 1) k (omega arith))
      go (no h) =
          ap (λ b. strands_of (cond b (get_or sets (k - window) 0) 1)) (lt-leb window k (omega arith))
          ∙ alone_0
          ∙ sym (leavers_early z (window - 1) k (omega arith))

  -- inside a line the bay before stays, and it is the fastest that does
  newest_is : (kept k a q : ℕ) → newest z (suc k) (a * size z (suc k) (suc kept) + q) ≡ beside_at (get_or sets (suc k - 1) 0) q
  unfolding newest size
  newest_is kept k a q =
      let c = length (strands_of (get_or sets k 0)) in
      ap (λ p. get_or (strands_of (get_or sets k 0)) p 0) (rest_only a (size z k kept) c q) ∙ ap (λ i. beside_at (get_or sets i 0) q) (sym (sub-one (suc k)))

  -- the bond to the bay before is added only where that bay is in the same line
  side_same : (k w a q t : ℕ) (x : Float) → 0 < window → w ≡ size z k (window - 1)
      → with_bond (not (eqb (k % window) 0)) (bond_at bonds.side (beside_at (get_or sets (k - 1) 0) q) t) x ≡ with_bond (not (eqb (k % window) 0)) (bond_at bonds.side (newest z k (a * w + q)) t) x
  side_same zero w a q t x pos e = rw (eq-eqb (0 % window) 0 (zero-mod window))
  side_same (suc k) w a q t x pos e = go window refl
    where
      go : (m : ℕ) → window ≡ m
          → with_bond (not (eqb (suc k % window) 0)) (bond_at bonds.side (beside_at (get_or sets (suc k - 1) 0) q) t) x
          ≡ with_bond (not (eqb (suc k % window) 0)) (bond_at bonds.side (newest z (suc k) (a * w + q)) t) x
      go zero f = absurd (omega arith)
      go (suc zero) f = rw (eq-eqb (suc k % window) 0 (ap (λ m. suc k % m) f ∙ mod-one (suc k)))
      go (suc (suc kept)) f =
          let wide : w ≡ size z (suc k) (suc kept) = e ∙ ap (size z (suc k)) (omega arith) in
          ap (λ u. with_bond (not (eqb (suc k % window) 0)) (bond_at bonds.side u t) x) (sym (ap (λ v. newest z (suc k) (a * v + q)) wide ∙ newest_is kept k a q))

  pub block_is : {A : Type 0} (part : Choice → A) (row before : List Float) (k w : ℕ) → 0 < window → w ≡ size z k (window - 1) → row ≡ rows k
      → bay_block part (bay_of window sets k w) row bonds before ≡ block_of part z before k
  block_is part row before k w pos e f =
      let c = length (strands_of (get_or sets k 0)) in
      let strand : ℕ → ℕ = λ p. get_or (strands_of (get_or sets k 0)) p 0 in
      let mine : ℕ → ℕ → ℕ → ℕ → Float = λ q p a s. own_adds (own_of (bay_of window sets k w) row bonds.side (beside_at (get_or sets (k - 1) 0) q) (strand p)) bonds.major s in
      let adds : mine ≡ adds_at z k =
      fun_ext λ q. fun_ext λ p. fun_ext λ a. fun_ext λ s.
      with_side-is (not (eqb (k % window) 0)) (bond_at bonds.side (beside_at (get_or sets (k - 1) 0) q) (strand p))
      (with_bond (leb window k) (bond_at bonds.major s (strand p)) (get_or row (strand p) nan))
      ∙ side_same k w a q (strand p) (with_bond (leb window k) (bond_at bonds.major s (strand p)) (get_or row (strand p) nan)) pos e
      ∙ ap₂ (λ (v : ℕ) (x : List Float). added_of window (λ i. x) bonds k s (newest z k (a * v + q)) (strand p)) e f in
      ap (λ (g : ℕ → ℕ → ℕ → ℕ → Float). flat (λ q. tab (λ p. part (row_from before w (strands_of (leaving_of window sets k)) (g q p) q)) c) w) adds
      ∙ ap₂ (λ (l : List ℕ) (v : ℕ). flat (λ q. tab (λ p. part (row_from before v l (adds_at z k q p) q)) c) v) (leaving_is k pos) e
