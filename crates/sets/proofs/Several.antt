-- A set in several words: each law of one number, said of the words. `num k ws` is the long number that the words ws of k bits make, so every law of `Words`, `Members`, `NextMember`
-- and `Walk` holds of it as it stands; here is how its bits, its ones and its members are found word by word.
-- Assumes nothing; a law that wants it is handed that each word has k bits, which a slice of words knows of its elements.
use mathlib.Core.Path.{◌≡◌, sym, ap, ap₂, ◌∙◌}
use mathlib.Core.Bool.{false}
use mathlib.Core.List.{List, [], ◌∷◌, ◌++◌, map}
use Prim.Native.Nat.{ℕ, zero, suc, ◌+◌, ◌*◌, ◌-◌, ◌/◌, ◌%◌, ◌^◌, ◌≤◌, ◌<◌, zero-le}
use native.Mathlib.Nat.{le_refl, mod-eq_of_lt, zero-add, add_comm, suc-mul, zero-mul, mod-lt, div-add-mod'}
use native.Mathlib.Numerals.{add-one}
use native.Mathlib.Omega.{arith}
use lib.Arith.{digits_lt}
use lib.Count.{ones, ones_cat}
use lib.ListN.{length, get_or, take, length-append, length-map}
use lib.Seq.{take-length}
use lib.Pow.{pow_pos, pow-add}
use Rattle.sets.specs.Set.{has, members, next_of}
use Rattle.sets.specs.Several.{num, ones_of}
use Rattle.sets.proofs.Bits.{has_high, has_low, has_beyond}
use Rattle.sets.proofs.Words.{ones_zero, ones_below}
use Rattle.sets.proofs.Members.{members_none, members_same, members_add}
use Rattle.sets.proofs.NextMember.{next, next_is, next_skip}

-- each word has k bits
abbrev pub Fit : ℕ → List ℕ → Type 0
Fit k ws = (i : ℕ) → get_or ws i 0 < 2 ^ k

-- one word is its own number
pub num_one : (k w : ℕ) → num k (w ∷ []) ≡ w
unfolding num
num_one k w = ap (λ (x : ℕ). x + w) (zero-mul (2 ^ k)) ∙ zero-add w

-- a place in the words behind the first
behind : (k q b : ℕ) → suc q * k + b ≡ k + (q * k + b)
behind k q b = ap (λ (x : ℕ). x + b) (suc-mul q k) ∙ omega arith

ones_of_suc : (ws : List ℕ) (q : ℕ) → ones_of (take (suc q) ws) ≡ ones_of (take q ws) + ones (get_or ws q 0)
unfolding ones_of
ones_of_suc [] zero = omega (arith, ones_zero)
ones_of_suc [] (suc q) = omega (arith, ones_zero)
ones_of_suc (w ∷ ws) zero = omega arith
ones_of_suc (w ∷ ws) (suc q) = omega (arith, ones_of_suc ws q)

-- one word more
pub ones_of_more : (ws : List ℕ) (q : ℕ) → ones_of (take (q + 1) ws) ≡ ones_of (take q ws) + ones (get_or ws q 0)
ones_of_more ws q = ap (λ (i : ℕ). ones_of (take i ws)) (add-one q) ∙ ones_of_suc ws q

module _ (k : ℕ) where
  -- the words make a number of as many bits as they have together
  pub num_lt : (ws : List ℕ) → Fit k ws → num k ws < 2 ^ (length ws * k)
  unfolding num
  num_lt [] fits = pow_pos (0 * k)
  num_lt (w ∷ ws) fits =
      rw (suc-mul (length ws) k, pow-add 2 (length ws * k) k) (digits_lt (num_lt ws (λ i. fits (suc i))) (fits 0))

  -- bit b of word q is strand q * k + b
  pub has_num : (ws : List ℕ) → Fit k ws → (q b : ℕ) → b < k → has (num k ws) (q * k + b) ≡ has (get_or ws q 0) b
  unfolding num
  has_num [] fits q b h = has_beyond 0 0 (q * k + b) (omega arith) zero-le ∙ sym (has_beyond 0 0 b (omega arith) zero-le)
  has_num (w ∷ ws) fits zero b h = ap (has (num k ws * 2 ^ k + w)) (ap (λ (x : ℕ). x + b) (zero-mul k) ∙ zero-add b) ∙ has_low (num k ws) k w b h
  has_num (w ∷ ws) fits (suc q) b h =
      ap (has (num k ws * 2 ^ k + w)) (behind k q b)
      ∙ has_high (num k ws) k w (q * k + b) (fits 0)
      ∙ has_num ws (λ i. fits (suc i)) q b h

  -- the ones of the long number are those of its words
  pub ones_num : (ws : List ℕ) → Fit k ws → ones (num k ws) ≡ ones_of ws
  unfolding num ones_of
  ones_num [] fits = ones_zero
  ones_num (w ∷ ws) fits = ones_cat k (num k ws) w (fits 0) ∙ ap (λ (x : ℕ). x + ones w) (ones_num ws (λ i. fits (suc i))) ∙ add_comm (ones_of ws) (ones w)

module _ (k : ℕ) (ws : List ℕ) (fits : Fit k ws) where
  -- strand t is bit t % k of word t / k
  pub has_at : (t : ℕ) → 0 < k → has (num k ws) t ≡ has (get_or ws (t / k) 0) (t % k)
  has_at t h = ap (has (num k ws)) (sym (div-add-mod' t k)) ∙ has_num k ws fits (t / k) (t % k) (mod-lt t h)

  -- the members below bit b of word q: those of the words before, and those of the word below b, counted from its first strand
  pub members_num : (q b : ℕ) → b ≤ k
      → members (has (num k ws)) (q * k + b) ≡ members (has (num k ws)) (q * k) ++ map (λ (s : ℕ). q * k + s) (members (has (get_or ws q 0)) b)
  members_num q b h =
      members_add (has (num k ws)) (q * k) b
      ∙ ap (λ (l : List ℕ). members (has (num k ws)) (q * k) ++ map (λ (s : ℕ). q * k + s) l)
      (members_same (λ (s : ℕ). has (num k ws) (q * k + s)) (has (get_or ws q 0)) b (λ s l. has_num k ws fits q s (omega arith)))

  length_part : (q b : ℕ) → b ≤ k
      → length (members (has (num k ws)) (q * k + b)) ≡ length (members (has (num k ws)) (q * k)) + ones (get_or ws q 0 % 2 ^ b)
  length_part q b h =
      ap length (members_num q b h)
      ∙ length-append (members (has (num k ws)) (q * k)) (map (λ (s : ℕ). q * k + s) (members (has (get_or ws q 0)) b))
      ∙ ap (λ (x : ℕ). length (members (has (num k ws)) (q * k)) + x)
      (length-map (members (has (get_or ws q 0)) b) (λ (s : ℕ). q * k + s) ∙ sym (ones_below (get_or ws q 0) b))

  -- the members of the first q words are as many as their ones
  pub length_words : (q : ℕ) → length (members (has (num k ws)) (q * k)) ≡ ones_of (take q ws)
  unfolding ones_of
  length_words zero = ap (λ (t : ℕ). length (members (has (num k ws)) t)) (zero-mul k) ∙ ap length (members_none (has (num k ws)))
  length_words (suc q) =
      ap (λ (t : ℕ). length (members (has (num k ws)) t)) (suc-mul q k)
      ∙ length_part q k (le_refl k)
      ∙ ap₂ (λ (x y : ℕ). x + ones y) (length_words q) (mod-eq_of_lt (fits q))
      ∙ sym (ap (λ (i : ℕ). ones_of (take i ws)) (sym (add-one q)) ∙ ones_of_more ws q)

  -- so all its members are as many as all its ones
  pub length_all : length (members (has (num k ws)) (length ws * k)) ≡ ones_of ws
  length_all = length_words (length ws) ∙ ap ones_of (take-length ws)

  -- the members below bit b of word q are as many as the ones of the words before and the ones below b in the word
  pub length_num : (q b : ℕ) → b ≤ k
      → length (members (has (num k ws)) (q * k + b)) ≡ ones_of (take q ws) + ones (get_or ws q 0 % 2 ^ b)
  length_num q b h = length_part q b h ∙ ap (λ (x : ℕ). x + ones (get_or ws q 0 % 2 ^ b)) (length_words q)

  -- so the ones below it are
  pub ones_num_below : (q b : ℕ) → b ≤ k
      → ones (num k ws % 2 ^ (q * k + b)) ≡ ones_of (take q ws) + ones (get_or ws q 0 % 2 ^ b)
  ones_num_below q b h = ones_below (num k ws) (q * k + b) ∙ length_num q b h

  -- no member stands between bit b of word q and the next one of that word
  skipped : (q b s : ℕ) → q * k + b ≤ s → s < q * k + next_of (has (get_or ws q 0)) b k → has (num k ws) s ≡ false
  skipped q b s a l =
      let w = get_or ws q 0 in
      let here : s ≡ q * k + (s - q * k) = omega arith in
      ap (has (num k ws)) here
      ∙ has_num k ws fits q (s - q * k) (omega (arith, (next (has w) b k).within))
      ∙ (next (has w) b k).skips (s - q * k) (omega arith) (omega arith)

  -- the next member stands in the word that a walk has come to ..
  pub next_here : (q b n : ℕ) → q * k + k ≤ n → next_of (has (get_or ws q 0)) b k < k
      → next_of (has (num k ws)) (q * k + b) n ≡ q * k + next_of (has (get_or ws q 0)) b k
  next_here q b n h l =
      let r = next_of (has (get_or ws q 0)) b k in
      let landed = (next (has (get_or ws q 0)) b k).lands l in
      sym (next_is (has (num k ws)) (q * k + b) n (q * k + r)
      (record { within = omega arith; skips = skipped q b; lands = λ _. (omega (arith, landed.0), has_num k ws fits q r l ∙ landed.1) }))

  -- .. or, where that word has none left, in the words behind it
  pub next_behind : (q b n : ℕ) → b ≤ k → k ≤ next_of (has (get_or ws q 0)) b k
      → next_of (has (num k ws)) (q * k + b) n ≡ next_of (has (num k ws)) ((q + 1) * k) n
  next_behind q b n h l =
      next_skip (has (num k ws)) (q * k + b) (q * k + k) n (omega arith) (λ s a e. skipped q b s a (omega arith))
      ∙ ap (λ (t : ℕ). next_of (has (num k ws)) t n) (sym (ap (λ (x : ℕ). x * k) (add-one q) ∙ suc-mul q k))
