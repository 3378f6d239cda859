-- How rows are numbered: by the positions of a filling's strands, oldest slowest. A filling's row is its leaver's position times the width, plus the row of the rest.
-- Assumes nothing.
use mathlib.Core.Path.{◌≡◌, refl, sym, ap, ◌∙◌}
use mathlib.Core.List.{List, [], ◌∷◌}
use Prim.Native.Nat.{ℕ, zero, suc, ◌+◌, ◌-◌, ◌*◌, ◌/◌, ◌%◌, ◌<◌, ◌≤◌}
use native.Mathlib.Nat.{mul-pos, mod-lt, div-lt_iff_lt-mul, div-add-mod', add-mul, mul_assoc, mul_comm, add_assoc}
use native.Mathlib.Omega.{arith}
use lib.Arith.{digits_lt, digits_div, digits_mod}
use lib.ListN.{length, get_or}
use Rattle.ledger_rows.specs.Scan.{Scan, Legal, EachHasStrand}
use Rattle.ledger_rows.specs.Blocks.{size, leavers, newest}

-- two numbers with a rest below the width are equal where their parts are
pub same_rest : (a b w q r : ℕ) → q < w → r < w → a * w + q ≡ b * w + r → q ≡ r
same_rest a b w q r h l e = sym (digits_mod a h) ∙ ap (λ i. i % w) e ∙ digits_mod b l

pub same_whole : (a b w q r : ℕ) → q < w → r < w → a * w + q ≡ b * w + r → a ≡ b
same_whole a b w q r h l e = sym (digits_div a h) ∙ ap (λ i. i / w) e ∙ digits_div b l

-- a number below w·c in two digits
pub record Digits (i w c : ℕ) : Type 0 where
  pub whole : i / c < w
  pub rest : i % c < c
  pub split : i / c * c + i % c ≡ i

some_digit : (i w c : ℕ) → i < w * c → 0 < c
some_digit i w zero h = absurd (omega arith)
some_digit i w (suc c) h = omega arith

pub digits : (i w c : ℕ) → i < w * c → Digits i w c
digits i w c h =
    let pos : 0 < c = some_digit i w c h in
    record { whole = (div-lt_iff_lt-mul {k = c} {x = i} {y = w} pos).1 h; rest = mod-lt i pos; split = div-add-mod' i c }

-- a digit more
shifted : (a w r c p : ℕ) → (a * w + r) * c + p ≡ a * (w * c) + (r * c + p)
shifted a w r c p = simp (add-mul, mul_assoc, add_assoc)

module _ (z : Scan) where
  -- ---- sizes
  pub size_none : (k : ℕ) → size z k 0 ≡ 1
  unfolding size
  size_none zero = refl
  size_none (suc k) = refl

  pub size_more : (k j : ℕ) → size z (suc k) (suc j) ≡ size z k j * length (z.strands k)
  unfolding size
  size_more k j = refl

  -- the rows of a block, by the strand that is the next to leave
  pub size_leavers : (j k : ℕ) → size z k (suc j) ≡ length (leavers z j k) * size z k j
  unfolding size leavers
  size_leavers j zero = omega arith
  size_leavers zero (suc k) = ap (λ w. w * length (z.strands k)) (size_none k) ∙ mul_comm 1 (length (z.strands k))
  size_leavers (suc j) (suc k) = ap (λ w. w * length (z.strands k)) (size_leavers j k) ∙ mul_assoc (length (leavers z j k)) (size z k j) (length (z.strands k))

  -- which bay leaves: none while they are few, then the j-th before the last
  pub leavers_early : (j k : ℕ) → k ≤ j → leavers z j k ≡ 0 ∷ []
  unfolding leavers
  leavers_early j zero h = refl
  leavers_early zero (suc k) h = absurd (omega arith)
  leavers_early (suc j) (suc k) h = leavers_early j k (omega arith)

  pub leavers_late : (j k : ℕ) → j < k → leavers z j k ≡ z.strands (k - suc j)
  unfolding leavers
  leavers_late j zero h = absurd (omega arith)
  leavers_late zero (suc k) h = ap z.strands (omega arith)
  leavers_late (suc j) (suc k) h = leavers_late j k (omega arith) ∙ ap z.strands (omega arith)

  -- where each bay has a strand, so has the one that leaves
  pub leavers_some : (j k : ℕ) → EachHasStrand z k → 0 < length (leavers z j k)
  unfolding leavers
  leavers_some j zero some = omega arith
  leavers_some zero (suc k) some = some k (omega arith)
  leavers_some (suc j) (suc k) some = leavers_some j k (λ i h. some i (omega arith))

  -- where each bay has a strand, each block has a row
  pub size_some : (k j : ℕ) → EachHasStrand z k → 0 < size z k j
  unfolding size
  size_some zero j some = omega arith
  size_some (suc k) zero some = omega arith
  size_some (suc k) (suc j) some = mul-pos (size_some k j (λ i h. some i (omega arith))) (some k (omega arith))

  -- ---- the row of a legal filling, on its last j bays
  unfoldable pub row : (k j : ℕ) (f : List ℕ) → Legal z k f → ℕ
  row zero j f l = 0
  row (suc k) zero f l = 0
  row (suc k) (suc j) [] l = absurd l
  row (suc k) (suc j) (t ∷ f) l = row k j f l.1 * length (z.strands k) + l.0.0

  -- the position of the strand that is the next to leave
  unfoldable pub leaves : (j k : ℕ) (f : List ℕ) → Legal z k f → ℕ
  leaves j zero f l = 0
  leaves zero (suc k) [] l = absurd l
  leaves zero (suc k) (t ∷ f) l = l.0.0
  leaves (suc j) (suc k) [] l = absurd l
  leaves (suc j) (suc k) (t ∷ f) l = leaves j k f l.1

  row_none : (k : ℕ) (f : List ℕ) (l : Legal z k f) → row k 0 f l ≡ 0
  unfolding row
  row_none zero f l = refl
  row_none (suc k) f l = refl

  pub row_lt : (k j : ℕ) (f : List ℕ) (l : Legal z k f) → row k j f l < size z k j
  unfolding row size
  row_lt zero j f l = omega arith
  row_lt (suc k) zero f l = omega arith
  row_lt (suc k) (suc j) [] l = absurd l
  row_lt (suc k) (suc j) (t ∷ f) l = digits_lt (row_lt k j f l.1) l.0.1

  pub row_splits : (j k : ℕ) (f : List ℕ) (l : Legal z k f) → row k (suc j) f l ≡ leaves j k f l * size z k j + row k j f l
  unfolding row leaves size
  row_splits j zero f l = omega arith
  row_splits zero (suc k) [] l = absurd l
  row_splits zero (suc k) (t ∷ f) l = rw (row_none k f l.1) (omega arith)
  row_splits (suc j) (suc k) [] l = absurd l
  row_splits (suc j) (suc k) (t ∷ f) l =
      let c = length (z.strands k) in
      ap (λ r. r * c + l.0.0) (row_splits j k f l.1) ∙ shifted (leaves j k f l.1) (size z k j) (row k j f l.1) c l.0.0

  -- ---- what stands at these positions
  pub leaves_lt : (j k : ℕ) (f : List ℕ) (l : Legal z k f) → leaves j k f l < length (leavers z j k)
  unfolding leaves leavers
  leaves_lt j zero f l = omega arith
  leaves_lt zero (suc k) [] l = absurd l
  leaves_lt zero (suc k) (t ∷ f) l = l.0.1
  leaves_lt (suc j) (suc k) [] l = absurd l
  leaves_lt (suc j) (suc k) (t ∷ f) l = leaves_lt j k f l.1

  -- the strand that leaves is the filling's own, j places behind the newest
  pub leaves_at : (j k : ℕ) (f : List ℕ) (l : Legal z k f) → get_or (leavers z j k) (leaves j k f l) 0 ≡ get_or f j 0
  unfolding leaves leavers
  leaves_at j zero [] l = refl
  leaves_at j zero (t ∷ f) l = absurd l
  leaves_at zero (suc k) [] l = absurd l
  leaves_at zero (suc k) (t ∷ f) l = l.0.2
  leaves_at (suc j) (suc k) [] l = absurd l
  leaves_at (suc j) (suc k) (t ∷ f) l = leaves_at j k f l.1

  -- the newest strand of a filling's row is the filling's newest
  pub newest_at : (k j : ℕ) (f : List ℕ) (l : Legal z k f) → newest z k (row k (suc j) f l) ≡ get_or f 0 0
  unfolding row newest
  newest_at zero j [] l = refl
  newest_at zero j (t ∷ f) l = absurd l
  newest_at (suc k) j [] l = absurd l
  newest_at (suc k) j (t ∷ f) l = ap (λ p. get_or (z.strands k) p 0) (digits_mod (row k j f l.1) l.0.1) ∙ l.0.2

  -- a legal filling of k bays has k strands
  pub legal_length : (k : ℕ) (f : List ℕ) → Legal z k f → length f ≡ k
  legal_length zero [] l = refl
  legal_length zero (t ∷ f) l = absurd l
  legal_length (suc k) [] l = absurd l
  legal_length (suc k) (t ∷ f) l = ap suc (legal_length k f l.1)
