-- How the table of triples is filled, one triple after the other. Assumes nothing.
use Prim.Native.Nat.{ℕ, zero, suc, ◌+◌, ◌*◌, ◌≤◌, ◌<◌}
use mathlib.Core.Path.{◌≡◌, refl, sym, ◌∙◌, ap, subst}
use mathlib.Core.Bool.{Bool, true, false}
use mathlib.Core.List.{List, [], ◌∷◌, ◌++◌, append_assoc, append-nil}
use native.Mathlib.Nat.{not-suc-le-zero, add-zero}
use native.Mathlib.Numerals.{add-one}
use native.Mathlib.Omega.{arith}
use lib.Dec.{ltb}
use lib.ListN.{length, get_or, take, drop, length-append, drop_of_length-le, get_or-append}
use lib.Seq.{take_at, drop-append-add, drop-drop, get_or-append-add}
use borrow.Author.Tests.{ltb-true, ltb-false}
use Rattle.name_strands.specs.Names.{StrandNames}
use Rattle.name_seed_checks.specs.Sizes.{SeedList}
use Rattle.name_seed_checks.specs.Each.{seed_row, seed_col, seed_name}
use Rattle.name_seed_checks.specs.Strands.{seed_strand}
use Rattle.name_seeds.specs.Seeds.{seed_triples}

-- k triples take 3k places
pub length_triples : (n : StrandNames) (s : SeedList) (k : ℕ) → length (seed_triples n s k) ≡ 3 * k
unfolding seed_triples
length_triples n s zero = refl
length_triples n s (suc k) = length-append (seed_triples n s k) _ ∙ omega (arith, length_triples n s k)

next_triple : (n : StrandNames) (s : SeedList) (k : ℕ)
    → seed_triples n s (k + 1) ≡ seed_triples n s k ++ (seed_row s k ∷ seed_col s k ∷ seed_strand n (seed_name s k) ∷ [])
unfolding seed_triples
next_triple n s k = ap (seed_triples n s) (add-one k)

-- one triple more
pub triples_more : (n : StrandNames) (s : SeedList) (old : List ℕ) (k : ℕ)
    → let now = seed_triples n s k ++ drop (3 * k) old in
    take (3 * k) now ++ seed_row s k ∷ seed_col s k ∷ seed_strand n (seed_name s k) ∷ drop (3 * k + 3) now
    ≡ seed_triples n s (k + 1) ++ drop (3 * (k + 1)) old
triples_more n s old k =
    let done = seed_triples n s k in
    let size = length_triples n s k in
    let rest : drop (3 * k + 3) (done ++ drop (3 * k) old) ≡ drop (3 * k + 3) old =
    ap (λ m. drop (m + 3) (done ++ drop (3 * k) old)) (sym size) ∙ drop-append-add done (drop (3 * k) old) 3 ∙ drop-drop 3 (3 * k) old in
    let three : 3 * (k + 1) ≡ 3 * k + 3 = omega arith in
    rw (take_at done (drop (3 * k) old) (3 * k) size, rest, three, next_triple n s k) (sym (append_assoc done _ (drop (3 * k + 3) old)))

-- a turn of the filling, and its end
pub fill_turn : (n : StrandNames) (s : SeedList) (old front next : List ℕ) (k strand : ℕ)
    → front ≡ seed_triples n s k ++ drop (3 * k) old → strand ≡ seed_strand n (seed_name s k)
    → next ≡ take (3 * k) front ++ seed_row s k ∷ seed_col s k ∷ strand ∷ drop (3 * k + 3) front
    → next ≡ seed_triples n s (k + 1) ++ drop (3 * (k + 1)) old
fill_turn n s old front next k strand e f g = g ∙ rw (e, f) (triples_more n s old k)

pub filled : (n : StrandNames) (s : SeedList) (old front : List ℕ) (k count : ℕ) → k ≤ count → count ≤ k → length old ≡ 3 * count
    → front ≡ seed_triples n s k ++ drop (3 * k) old → front ≡ seed_triples n s count
filled n s old front k count h g size e =
    let all : k ≡ count = omega arith in
    let none : drop (3 * count) old ≡ [] = drop_of_length-le old {i = 3 * count} (omega arith) in
    e ∙ rw (all, none) (append-nil (seed_triples n s count))

-- what stands in the table, place by place: row, column and strand of seed k
pub record Triple (n : StrandNames) (s : SeedList) (table : List ℕ) (k : ℕ) : Type 0 where
  pub row : get_or table (3 * k) 0 ≡ seed_row s k
  pub col : get_or table (3 * k + 1) 0 ≡ seed_col s k
  pub strand : get_or table (3 * k + 2) 0 ≡ seed_strand n (seed_name s k)

-- a place in the last triple, and one before it
in_last : (front last : List ℕ) (i j : ℕ) → length front ≡ i → get_or (front ++ last) (i + j) 0 ≡ get_or last j 0
in_last front last i j size = ap (λ m. get_or (front ++ last) (m + j) 0) (sym size) ∙ get_or-append-add front last j 0

pub each_triple : (n : StrandNames) (s : SeedList) (count k : ℕ) → k < count → Triple n s (seed_triples n s count) k
unfolding seed_triples
each_triple n s zero k h = absurd (not-suc-le-zero h)
each_triple n s (suc count) k h = either (ltb k count) refl (each_triple n s count k)
  where
    front : List ℕ
    front = seed_triples n s count

    last : List ℕ
    last = seed_row s count ∷ seed_col s count ∷ seed_strand n (seed_name s count) ∷ []

    size : length front ≡ 3 * count
    size = length_triples n s count

    either : (t : Bool) → ltb k count ≡ t → (k < count → Triple n s front k) → Triple n s (front ++ last) k
    either true e before =
        let below = ltb-true k count e in
        let t = before below in
        record {
          row = get_or-append front last 0 (3 * k) (omega (arith, size)) ∙ t.row;
          col = get_or-append front last 0 (3 * k + 1) (omega (arith, size)) ∙ t.col;
          strand = get_or-append front last 0 (3 * k + 2) (omega (arith, size)) ∙ t.strand;
        }
    either false e before =
        let same : count ≡ k = omega (arith, ltb-false k count e) in
        subst (Triple n s (front ++ last)) same (record {
          row = rw (add-zero (3 * count)) at (in_last front last (3 * count) 0 size);
          col = in_last front last (3 * count) 1 size;
          strand = in_last front last (3 * count) 2 size;
        })
