-- The walk that takes strands away, `while !is_empty(left) { .. first(left) ..; left = rest(left); }`: whether a strand is left, which is the first, and what is left behind it.
-- All is said over any number n of bits, so of a set in several words too; only `clears_lowest`, the machine's way to take the lowest one away, is about a single word.
-- Assumes nothing.
use mathlib.Core.Path.{◌≡◌, refl, sym, ap, ap₂, ◌∙◌}
use mathlib.Core.Bool.{Bool, true, false, ◌&&◌, and-false, and-true}
use mathlib.Core.List.{List, [], ◌∷◌, ◌++◌, map}
use Prim.Native.Nat.{ℕ, suc, ◌+◌, ◌-◌, ◌*◌, ◌/◌, ◌^◌, ◌≤◌, ◌<◌, zero-le}
use native.Mathlib.Nat.{le_refl}
use native.Mathlib.Numerals.{add-one}
use native.Mathlib.Decide.{dec_lt, ℕ_discrete}
use native.Mathlib.Omega.{arith}
use lib.Bits.{bit_and, and_lt}
use lib.Dec.{eqb, ltb}
use lib.ListN.{length, get_or, drop, length-drop}
use lib.Seq.{drop-cons}
use lib.Pow.{pow_pos, pow-lt, split}
use borrow.Author.Tests.{eqb-true, eqb-false, eq-eqb, ne_eqb, lt-ltb, le-ltb}
use Rattle.sets.specs.Set.{has, digit, word, members, next_of, rest_of}
use Rattle.sets.proofs.Bits.{has_high, has_low, has_beyond, same_bits}
use Rattle.sets.proofs.Members.{members_none, members_same, members_skip, members_more, members_add, length_less, member}
use Rattle.sets.proofs.NextMember.{Next, next, is_false}
use Rattle.sets.proofs.Operations.{word_none, has_and}
use Rattle.sets.proofs.Walk.{start}
use Rattle.sets.proofs.Words.{word_lt, word_same, word_mod, word_has, has_word, members_word, members_beyond}

-- ---- in members
module _ (legal : ℕ → Bool) (n : ℕ) where
  -- where there are strands the first is below the limit
  pub first_below : 0 < length (members legal n) → next_of legal 0 n < n
  first_below some = omega (arith, (start legal n (next_of legal 0 n) refl).here, (member legal n 0 n some).below)

  behind : (t s : ℕ) → t ≡ next_of legal 0 n → t < s → rest_of legal n s ≡ legal s
  unfolding rest_of
  behind t s e h = ap (λ (b : Bool). legal s && b) (lt-ltb (next_of legal 0 n) s (omega arith)) ∙ and-true (legal s)

  not_behind : (t s : ℕ) → t ≡ next_of legal 0 n → s < t + 1 → rest_of legal n s ≡ false
  unfolding rest_of
  not_behind t s e h = ap (λ (b : Bool). legal s && b) (le-ltb (next_of legal 0 n) s (omega arith)) ∙ and-false (legal s)

  -- the members are the first one and those that are left behind it
  pub first_then_rest : 0 < length (members legal n) → members legal n ≡ next_of legal 0 n ∷ members (rest_of legal n) n
  first_then_rest some = go (next_of legal 0 n) refl (first_below some)
    where
      go : (t : ℕ) → t ≡ next_of legal 0 n → t < n → members legal n ≡ t ∷ members (rest_of legal n) n
      go t e below =
          let m = n - (t + 1) in
          let all : n ≡ t + 1 + m = omega arith in
          let f : Next legal 0 n t = rw e (next legal 0 n) in
          let upto : members legal (t + 1) ≡ t ∷ [] = members_more legal t (f.lands below).1 ∙ ap (λ (l : List ℕ). l ++ (t ∷ [])) (members_skip legal 0 t zero-le f.skips ∙ members_none legal) in
          let none : members (rest_of legal n) (t + 1) ≡ [] = members_skip (rest_of legal n) 0 (t + 1) zero-le (λ s a l. not_behind t s e l) ∙ members_none (rest_of legal n) in
          let same : members (λ (s : ℕ). legal (t + 1 + s)) m ≡ members (λ (s : ℕ). rest_of legal n (t + 1 + s)) m =
          members_same (λ (s : ℕ). legal (t + 1 + s)) (λ (s : ℕ). rest_of legal n (t + 1 + s)) m (λ s l. sym (behind t (t + 1 + s) e (omega arith))) in
          ap (members legal) all
          ∙ members_add legal (t + 1) m
          ∙ ap₂ (λ (a l : List ℕ). a ++ map (λ (s : ℕ). t + 1 + s) l) upto same
          ∙ ap (λ (a : List ℕ). t ∷ a ++ map (λ (s : ℕ). t + 1 + s) (members (λ (s : ℕ). rest_of legal n (t + 1 + s)) m)) (sym none)
          ∙ ap (λ (l : List ℕ). t ∷ l) (sym (members_add (rest_of legal n) (t + 1) m) ∙ ap (members (rest_of legal n)) (sym all))

-- ---- as a loop makes it

-- A walk over `set` has taken p strands away: those of `left` are the ones from position p on.
pub record Left (n set p left : ℕ) : Type 0 where
  pub counted : p ≤ length (members (has set) n)
  pub behind : members (has left) n ≡ drop p (members (has set) n)

-- What is known in the turn at position p, where the strands of `left` are still to come: the first of these is the member there, and the walk goes on with what is left behind it.
pub record Taken (n set p left : ℕ) : Type 0 where
  pub in_list : p < length (members (has set) n)
  pub below : next_of (has left) 0 n < n
  pub here : next_of (has left) 0 n ≡ get_or (members (has set) n) p 0
  pub goes_on : (w : ℕ) → w ≡ word (rest_of (has left) n) n → Left n set (p + 1) w × (length (members (has w) n) < length (members (has left) n))

-- it begins with the whole set
pub all_left : (n set : ℕ) → Left n set 0 set
all_left n set = record { counted = zero-le; behind = refl }

module _ {n set p left : ℕ} (l : Left n set p left) where
  so_many : length (members (has left) n) ≡ length (members (has set) n) - p
  so_many = ap length l.behind ∙ length-drop p (members (has set) n)

  -- it takes the first strand away
  pub taken : eqb (length (members (has left) n)) 0 ≡ false → Taken n set p left
  taken e =
      let some : 0 < length (members (has left) n) = omega (arith, eqb-false (length (members (has left) n)) 0 e) in
      let in_list : p < length (members (has set) n) = omega (arith, so_many) in
      let front = sym (first_then_rest (has left) n some) ∙ l.behind ∙ drop-cons (members (has set) n) p 0 in_list in
      record {
        in_list = in_list;
        below = first_below (has left) n some;
        here = ap (λ (m : List ℕ). get_or m 0 0) front;
        goes_on = λ w made.
            let rest : members (has w) n ≡ drop (p + 1) (members (has set) n) =
            ap (λ (x : ℕ). members (has x) n) made
            ∙ members_word (rest_of (has left) n) n n (le_refl n)
            ∙ ap (drop 1) front
            ∙ ap (λ (k : ℕ). drop k (members (has set) n)) (sym (add-one p)) in
            (record { counted = omega arith; behind = rest }, omega (arith, so_many, ap length rest ∙ length-drop (p + 1) (members (has set) n)));
      }

  -- it ends where it has taken them all
  pub all_taken : eqb (length (members (has left) n)) 0 ≡ true → p ≡ length (members (has set) n)
  all_taken e = omega (arith, so_many, l.counted, eqb-true (length (members (has left) n)) 0 e)

-- ---- in bits

-- a number has no strand exactly where it is 0
pub none_left : (n w : ℕ) → w < 2 ^ n → eqb w 0 ≡ eqb (length (members (has w) n)) 0
none_left n w h = go (ℕ_discrete (length (members (has w) n)) 0)
  where
    go : Dec (length (members (has w) n) ≡ 0) → eqb w 0 ≡ eqb (length (members (has w) n)) 0
    go (yes e) =
        let zero_word : w ≡ 0 =
        sym (word_has w n h) ∙ word_same (has w) (λ s. false) n (λ s l. is_false (has w s) (λ y. omega (arith, length_less (has w) s n l y))) ∙ word_none n in
        eq-eqb w 0 zero_word ∙ sym (eq-eqb (length (members (has w) n)) 0 e)
    go (no g) =
        ne_eqb w 0 (λ z. g (ap length (members_beyond w 0 n (omega arith) zero-le ∙ members_none (has w))))
        ∙ sym (ne_eqb (length (members (has w) n)) 0 g)

-- so a number above 0 has one
some_left : (n w : ℕ) → w < 2 ^ n → 0 < w → 0 < length (members (has w) n)
some_left n w h some = omega (arith, eqb-false (length (members (has w) n)) 0 (sym (none_left n w h) ∙ ne_eqb w 0 (omega arith)))

-- and of no strand none is left
pub rest_none : (n w : ℕ) → w ≡ 0 → 0 ≡ word (rest_of (has w) n) n
unfolding rest_of
rest_none n w z =
    sym
    (word_same (rest_of (has w) n) (λ s. false) n (λ s l. ap (λ (b : Bool). b && ltb (next_of (has w) 0 n) s) (has_beyond w 0 s (omega arith) zero-le))
    ∙ word_none n)

both_same : (b : Bool) → (b && b) ≡ (b && true)
both_same true = refl
both_same false = refl

less_one_lem : (w a p : ℕ) → w ≡ a + p → 0 < p → w - 1 ≡ a + (p - 1)
less_one_lem w a p e h = omega arith

-- a number whose lowest strand is t: what is above, and a power of two
lowest_split : (w t : ℕ) → has w t ≡ true → ((s : ℕ) → s < t → has w s ≡ false) → w ≡ w / 2 ^ suc t * 2 ^ suc t + 2 ^ t
unfolding word
lowest_split w t e none =
    let top : word (has w) (suc t) ≡ 2 ^ t =
    ap₂ (λ (b : Bool) (x : ℕ). digit b * 2 ^ t + x) e (word_same (has w) (λ s. false) t none ∙ word_none t) ∙ omega arith in
    sym (split w (suc t)) ∙ ap (λ (x : ℕ). w / 2 ^ suc t * 2 ^ suc t + x) (sym (word_mod w (suc t)) ∙ top)

-- one less has the strands above t as before, and t no longer
module _ (w t : ℕ) (e : has w t ≡ true) (none : (s : ℕ) → s < t → has w s ≡ false) where
  abbrev above : ℕ
  above = w / 2 ^ suc t

  one_less : w - 1 ≡ above * 2 ^ suc t + (2 ^ t - 1)
  one_less = less_one_lem w (above * 2 ^ suc t) (2 ^ t) (lowest_split w t e none) (pow_pos t)

  gone : has (w - 1) t ≡ false
  gone =
      ap (λ (x : ℕ). has x t) one_less
      ∙ has_low above (suc t) (2 ^ t - 1) t (omega arith)
      ∙ has_beyond (2 ^ t - 1) t t (omega (arith, pow_pos t)) (le_refl t)

  stay : (s : ℕ) → t < s → has (w - 1) s ≡ has w s
  stay s h =
      let d = s - suc t in
      let at : s ≡ suc t + d = omega arith in
      let small : 2 ^ t < 2 ^ suc t = pow-lt (omega arith) in
      ap₂ has one_less at
      ∙ has_high above (suc t) (2 ^ t - 1) d (omega arith)
      ∙ sym (ap₂ has (lowest_split w t e none) at ∙ has_high above (suc t) (2 ^ t) d small)

  has_cleared : (s : ℕ) → has (bit_and w (w - 1)) s ≡ (has w s && ltb t s)
  has_cleared s = has_and w (w - 1) s ∙ go (dec_lt s t) (ℕ_discrete s t)
    where
      go : Dec (s < t) → Dec (s ≡ t) → (has w s && has (w - 1) s) ≡ (has w s && ltb t s)
      go (yes l) d = ap (λ (b : Bool). b && has (w - 1) s) (none s l) ∙ sym (ap (λ (b : Bool). b && ltb t s) (none s l))
      go (no g) (yes same) = ap (λ (b : Bool). has w s && b) (ap (has (w - 1)) same ∙ gone ∙ sym (le-ltb t s (omega arith)))
      go (no g) (no d) =
          ap (λ (b : Bool). has w s && b) (stay s (omega arith)) ∙ both_same (has w s) ∙ ap (λ (b : Bool). has w s && b) (sym (lt-ltb t s (omega arith)))

-- the and of a number and the one below it is the set without its lowest strand
pub clears_lowest : (n w : ℕ) → w < 2 ^ n → 0 < w → bit_and w (w - 1) ≡ word (rest_of (has w) n) n
unfolding rest_of
clears_lowest n w h some =
    let f : Next (has w) 0 n (next_of (has w) 0 n) = next (has w) 0 n in
    let found = f.lands (first_below (has w) n (some_left n w h some)) in
    same_bits n (bit_and w (w - 1)) (word (rest_of (has w) n) n) (and_lt n w (w - 1) h (omega arith)) (word_lt (rest_of (has w) n) n)
    (λ s l. has_cleared w (next_of (has w) 0 n) found.1 (λ r b. f.skips r zero-le b) s ∙ sym (has_word (rest_of (has w) n) n s l))
