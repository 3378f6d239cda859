-- A mark is 3 exactly where the bay is unseeded with a list that is not empty and names nothing but 0. Assumes nothing.
use Prim.Native.Nat.{ℕ, ◌<◌}
use mathlib.Core.Path.{◌≡◌, refl, sym, ◌∙◌, ap}
use mathlib.Core.Bool.{Bool, true, false, cond, ◌||◌, or-true}
use mathlib.Core.List.{List, [], ◌∷◌}
use native.Mathlib.Omega.{arith}
use lib.Dec.{eqb}
use lib.ListN.{get_or}
use borrow.Author.Tests.{eqb-true, eq-eqb}
use Rattle.units.proofs.Tests.{both}
use Rattle.std.proofs.Common.{Option, Some, None}
use Rattle.bay_lists.specs.Lists.{Constraints, list_of, names}
use Rattle.plan_list_readers.specs.Reading.{only_zeros}
use Rattle.bay_system.specs.System.{System, bays}
use Rattle.bay_legal_at.specs.Legal.{seed_of}
use Rattle.ledger_rows.proofs.Lists.{tab_at}
use Rattle.plan_reasons.specs.declared.bays.BayReason.TheVariants.{KeptEmpty, Restricted}
use Rattle.plan_reasons.specs.Reasons.{list_reason, reason_by, reason_of}
use Rattle.plan_marks.specs.Marks.{mark_of, marks_of, KeptByList}

-- ---- a list of nothing but 0

names_0 : (list : List ℕ) → only_zeros list ≡ true → (t : ℕ) → names list t ≡ true → t ≡ 0
unfolding only_zeros names
names_0 [] z t e = cc
names_0 (x ∷ list) z t e =
    let two = both (eqb x 0) (only_zeros list) z in at (eqb-true x 0 two.0) (names_0 list two.1 t) (eqb t x) refl e
  where
    at : x ≡ 0 → (names list t ≡ true → t ≡ 0) → (b : Bool) → eqb t x ≡ b → (b || names list t) ≡ true → t ≡ 0
    at first rest true same f = eqb-true t x same ∙ first
    at first rest false same f = rest f

zeros : (list : List ℕ) → ((t : ℕ) → names list t ≡ true → t ≡ 0) → only_zeros list ≡ true
unfolding only_zeros names
zeros [] h = refl
zeros (x ∷ list) h =
    rw (
      eq-eqb x 0 (h x (ap (λ (b : Bool). b || names list x) (eq-eqb x x refl))),
      zeros list (λ t e. h t (ap (λ (b : Bool). eqb t x || b) e ∙ or-true (eqb t x))),
    )

-- ---- from the mark to the seed and the list, and back

marked_3 : (x : Option ℕ) (list : List ℕ) → mark_of (reason_by x list) ≡ 3 → (x ≡ None) × ((list ≡ [] → ⊥) × (only_zeros list ≡ true))
marked_3 (Some t) list e = absurd (omega arith)
marked_3 None [] e = absurd (omega arith)
marked_3 None (y ∷ list) e = (refl, ((λ f. let z : ◌≡◌ {A = ℕ} 0 1 = cc in omega arith), at (only_zeros (y ∷ list)) e))
  where
    at : (b : Bool) → mark_of (cond b KeptEmpty Restricted) ≡ 3 → b ≡ true
    at true f = refl
    at false f = absurd (omega arith)

mark_3 : (list : List ℕ) → (list ≡ [] → ⊥) → only_zeros list ≡ true → mark_of (list_reason list) ≡ 3
mark_3 [] some z = absurd (some refl)
mark_3 (y ∷ list) some z = ap (λ (b : Bool). mark_of (cond b KeptEmpty Restricted)) z

module _ (s : System) (c : Constraints) (bay : ℕ) (inside : bay < bays s.sizes) where
  abbrev mark : ℕ
  mark = get_or (marks_of s c) bay 0

  -- what the call writes for a bay
  pub written : mark ≡ mark_of (reason_of s c bay)
  written = tab_at (λ (b : ℕ). mark_of (reason_of s c b)) (bays s.sizes) bay 0 inside

  pub kept_where_3 : mark ≡ 3 → KeptByList s c bay
  kept_where_3 e =
      let three = marked_3 (seed_of s bay) (list_of c bay) (sym written ∙ e) in
      record { unseeded = three.0; some = three.1.0; zeros = names_0 (list_of c bay) three.1.1 }

  pub 3_where_kept : KeptByList s c bay → mark ≡ 3
  3_where_kept k =
      written ∙ ap (λ (x : Option ℕ). mark_of (reason_by x (list_of c bay))) k.unseeded ∙ mark_3 (list_of c bay) k.some (zeros (list_of c bay) k.zeros)
