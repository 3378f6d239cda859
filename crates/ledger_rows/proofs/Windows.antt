-- The choices on a window: a filling's row has the choice in which the filling ends, and no choice stands in two rows. Assumes nothing.
use mathlib.Core.Path.{◌≡◌, refl, sym, ap, ap₂, ◌∙◌, subst}
use mathlib.Core.List.{List, [], ◌∷◌, map}
use Prim.Native.Nat.{ℕ, zero, suc, ◌+◌, ◌*◌, ◌/◌, ◌%◌, ◌<◌}
use native.Mathlib.Nat.{not-suc-le-zero, le_of_suc-le-suc}
use native.Mathlib.Omega.{arith}
use lib.ListN.{length, get_or, take, length-append, length-map, get_or-append}
use lib.Seq.{get_or-append-add}
use Rattle.ledger_rows.specs.Scan.{Scan, Legal, Rising}
use Rattle.ledger_rows.specs.Blocks.{size}
use Rattle.ledger_rows.specs.LeastEnergyTheorem.{each_with, choices}
use Rattle.ledger_rows.proofs.Numbering.{Digits, digits, row, row_lt}
use Rattle.ledger_rows.proofs.Places.{once}

map_at : (w : List ℕ) (l : List ℕ) (p : ℕ) → p < length l → get_or (map (λ t. t ∷ w) l) p [] ≡ get_or l p 0 ∷ w
map_at w [] p h = absurd (not-suc-le-zero h)
map_at w (t ∷ l) zero h = refl
map_at w (t ∷ l) (suc p) h = map_at w l p (le_of_suc-le-suc h)

-- ---- each list with each strand
length_each : (ws : List (List ℕ)) (l : List ℕ) → length (each_with ws l) ≡ length ws * length l
unfolding each_with
length_each [] l = omega arith
length_each (w ∷ ws) l = omega (arith, length-append (map (λ t. t ∷ w) l) (each_with ws l), length-map l (λ t. t ∷ w), length_each ws l)

each_at : (ws : List (List ℕ)) (l : List ℕ) (q p : ℕ) → q < length ws → p < length l → get_or (each_with ws l) (q * length l + p) [] ≡ get_or l p 0 ∷ get_or ws q []
unfolding each_with
each_at [] l q p h b = absurd (not-suc-le-zero h)
each_at (w ∷ ws) l zero p h b =
    let place : 0 * length l + p ≡ p = omega arith in
    rw place (get_or-append (map (λ t. t ∷ w) l) (each_with ws l) [] p (subst (λ n. p < n) (sym (length-map l (λ t. t ∷ w))) b) ∙ map_at w l p b)
each_at (w ∷ ws) l (suc q) p h b =
    let place : suc q * length l + p ≡ length (map (λ t. t ∷ w) l) + (q * length l + p) = omega (arith, length-map l (λ t. t ∷ w)) in
    rw place (get_or-append-add (map (λ t. t ∷ w) l) (each_with ws l) (q * length l + p) [] ∙ each_at ws l q p (le_of_suc-le-suc h) b)

module _ (z : Scan) where
  -- ---- there are as many choices as rows
  pub length_choices : (k j : ℕ) → length (choices z k j) ≡ size z k j
  unfolding choices size
  length_choices zero j = refl
  length_choices (suc k) zero = refl
  length_choices (suc k) (suc j) = length_each (choices z k j) (z.strands k) ∙ ap (λ n. n * length (z.strands k)) (length_choices k j)

  -- the choice of row q·c + p: the strand at position p of the newest bay, before the choice of row q on the others
  choice_splits : (k j q p : ℕ) → q < size z k j → p < length (z.strands k)
      → get_or (choices z (suc k) (suc j)) (q * length (z.strands k) + p) [] ≡ get_or (z.strands k) p 0 ∷ get_or (choices z k j) q []
  unfolding choices
  choice_splits k j q p h b = each_at (choices z k j) (z.strands k) q p (subst (λ n. q < n) (sym (length_choices k j)) h) b

  -- ---- a filling's row has its choice
  pub choice_of : (k j : ℕ) (f : List ℕ) (l : Legal z k f) → get_or (choices z k j) (row z k j f l) [] ≡ take j f
  unfolding row choices
  choice_of zero zero [] l = refl
  choice_of zero (suc j) [] l = refl
  choice_of zero j (t ∷ f) l = absurd l
  choice_of (suc k) zero f l = refl
  choice_of (suc k) (suc j) [] l = absurd l
  choice_of (suc k) (suc j) (t ∷ f) l =
      each_at (choices z k j) (z.strands k) (row z k j f l.1) l.0.0 (subst (λ n. row z k j f l.1 < n) (sym (length_choices k j)) (row_lt z k j f l.1)) l.0.1
      ∙ ap₂ (λ (s : ℕ) (w : List ℕ). s ∷ w) l.0.2 (choice_of k j f l.1)

  -- ---- no choice stands in two rows
  head_of : {s t : ℕ} {v w : List ℕ} → s ∷ v ≡ t ∷ w → s ≡ t
  head_of e = cc

  rest_of : {s t : ℕ} {v w : List ℕ} → s ∷ v ≡ t ∷ w → v ≡ w
  rest_of e = cc

  once_more : (k j : ℕ) → Rising (z.strands k) → ((q r : ℕ) → q < size z k j → r < size z k j → get_or (choices z k j) q [] ≡ get_or (choices z k j) r [] → q ≡ r)
      → (i r : ℕ) → i < size z k j * length (z.strands k) → r < size z k j * length (z.strands k)
      → get_or (choices z (suc k) (suc j)) i [] ≡ get_or (choices z (suc k) (suc j)) r [] → i ≡ r
  once_more k j rises before i r h b e =
      let c = length (z.strands k) in
      let x = digits i (size z k j) c h in
      let y = digits r (size z k j) c b in
      let read : (n : ℕ) → Digits n (size z k j) c → get_or (choices z (suc k) (suc j)) n [] ≡ get_or (z.strands k) (n % c) 0 ∷ get_or (choices z k j) (n / c) [] =
      λ n d. ap (λ m. get_or (choices z (suc k) (suc j)) m []) (sym d.split) ∙ choice_splits k j (n / c) (n % c) d.whole d.rest in
      let both = sym (read i x) ∙ e ∙ read r y in
      let q : i / c ≡ r / c = before (i / c) (r / c) x.whole y.whole (rest_of both) in
      let p : i % c ≡ r % c = once (z.strands k) (i % c) (r % c) rises x.rest y.rest (head_of both) in
      sym x.split ∙ ap₂ (λ (a d : ℕ). a * c + d) q p ∙ y.split

  pub choice_once : ((k : ℕ) → Rising (z.strands k)) → (k j i r : ℕ) → i < size z k j → r < size z k j
      → get_or (choices z k j) i [] ≡ get_or (choices z k j) r [] → i ≡ r
  unfolding size
  choice_once rise zero j i r h b e = omega arith
  choice_once rise (suc k) zero i r h b e = omega arith
  choice_once rise (suc k) (suc j) i r h b e = once_more k j (rise k) (choice_once rise k j) i r h b e
