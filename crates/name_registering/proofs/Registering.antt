-- From the steps to what registering leaves, for each way out. Assumes nothing.
use Prim.Native.Nat.{ℕ, ◌+◌, ◌*◌, ◌-◌, ◌≤◌}
use mathlib.Core.Path.{◌≡◌, refl, ap, sym, ◌∙◌}
use mathlib.Core.List.{List}
use native.Mathlib.Omega.{arith}
use lib.ListN.{length, replicate, length-append, length-replicate}
use Rattle.units.specs.Limits.{most_glues, most_bases, base_numbers}
use Rattle.units.specs.declared.refusal.Refusal.TheVariants.{TooManyBases}
use Rattle.name_new_bases.specs.declared.BaseList.{BaseList}
use Rattle.std.specs.Prelude.{Ok, Err}
use Rattle.units.specs.declared.refusal.Refusal.{Refusal}
use Rattle.units.specs.Refusals.{Verdict, passes, refuses, answer}
use Rattle.units.proofs.Verdicts.{no_fault}
use borrow.Author.Tests.{ltb-false}
use lib.Dec.{ltb}
use lib.ListN.{get_or}
use Rattle.name_glues.specs.Names.{GlueNames, GluesReadable}
use Rattle.name_new_bases.specs.Bases.{bases_of, firsts_to, count_verdict}
use Rattle.name_glue_tables.specs.Tables.{strand_table, scaffold_table}
use Rattle.name_base_list.specs.Bases.{Searchable}
use Rattle.name_glues.specs.Starred.{stars_verdict}
use Rattle.name_register_input.specs.Input.{first_bay, Fitting}
use Rattle.name_registering.specs.Register.{firsts_of, registered_verdict}
use Rattle.name_new_bases.specs.Steps.{base_list, Holds}
use Rattle.name_registering.specs.Steps.{Registered}
use Rattle.name_new_bases.proofs.Firsts.{length_bases}
use Rattle.name_new_bases.proofs.Collecting.{searchable}

-- an answer tells of its verdict
is_refused : {A : Type 0} (x : A) (v : Verdict) {r : Refusal} → Err r ≡ answer v x → v ≡ refuses r
is_refused x (Ok tt) e = cc
is_refused x (Err q) e = cc

is_passed : {A : Type 0} (x : A) {y : A} (v : Verdict) → Ok y ≡ answer v x → (v ≡ passes) × (y ≡ x)
is_passed x (Ok tt) e = (refl, cc)
is_passed x (Err q) e = (cc, cc)

module _ (n : GlueNames) (strands : ℕ) (glues scaffold bases : List ℕ) (f : Fitting n strands (length glues) (length scaffold) (length bases)) where
  -- the tests refuse, and nothing is written
  refused : {r : Refusal} → registered_verdict n strands (length scaffold) ≡ refuses r → Registered n strands (Err r) glues scaffold bases glues scaffold bases
  refused e = record { answered = rw e; strands_written = rw e; scaffold_written = rw e; bases_written = rw e }

  -- 15: a base too many
  pub too_many : {r : Refusal} → Err r ≡ answer (count_verdict (firsts_to n (length n.present))) (base_list n (firsts_to n (length n.present)))
      → Registered n strands (Err r) glues scaffold bases glues scaffold bases
  too_many e = refused (rw (is_refused _ (count_verdict (firsts_of n strands (length scaffold))) (rw f.entries at e)))

  -- all bases are collected
  module _ (list : BaseList) (d : Ok list ≡ answer (count_verdict (firsts_to n (length n.present))) (base_list n (firsts_to n (length n.present)))) where
    collected : (count_verdict (firsts_of n strands (length scaffold)) ≡ passes) × (list ≡ base_list n (firsts_of n strands (length scaffold)))
    collected = is_passed _ (count_verdict (firsts_of n strands (length scaffold))) (rw f.entries at d)

    held : Holds n (length n.present) list.numbers list.count
    held =
        let es = firsts_of n strands (length scaffold) in
        let few : length es ≤ most_bases = omega (arith, ltb-false most_glues (length es * 2 + 1) (no_fault (ltb most_glues (length es * 2 + 1)) (TooManyBases (get_or es most_bases 0)) collected.0)) in
        rw f.entries (record { few = rw collected.1 few; counted = rw collected.1; list = rw collected.1 })

    pub list_searchable : GluesReadable n → Searchable n.text list.numbers list.count
    list_searchable r = searchable n (length n.present) list.count list.numbers r (omega arith) held

    pub list_long : length list.numbers ≡ base_numbers
    list_long =
        let es = firsts_to n (length n.present) in
        let zeros = base_numbers - length es * 2 in
        ap length held.list
        ∙ length-append (bases_of n es) (replicate zeros 0)
        ∙ omega (arith, length_bases n es, length-replicate {A = ℕ} zeros 0, held.few, held.counted)

    -- so the stars decide
    by_stars : registered_verdict n strands (length scaffold) ≡ stars_verdict n (first_bay strands) (length n.present - first_bay strands)
    by_stars =
        let bays : length n.present - first_bay strands ≡ length scaffold = omega (arith, f.entries) in
        rw (collected.0, bays)

    -- 16: a starred bay
    pub starred : {r : Refusal} → Err r ≡ stars_verdict n (first_bay strands) (length n.present - first_bay strands) → Registered n strands (Err r) glues scaffold bases glues scaffold bases
    starred e = refused (by_stars ∙ sym e)

    -- all is written
    pub done : {u : Unit} → Ok u ≡ stars_verdict n (first_bay strands) (length n.present - first_bay strands) → {glues' scaffold' bases' : List ℕ}
        → glues' ≡ strand_table n list.numbers list.count strands → scaffold' ≡ scaffold_table n list.numbers list.count (first_bay strands) (length scaffold)
        → bases' ≡ list.numbers → Registered n strands (Ok list.count) glues scaffold bases glues' scaffold' bases'
    done e g s b =
        let all : registered_verdict n strands (length scaffold) ≡ passes = by_stars ∙ sym e in
        record {
          answered = rw (all, collected.1);
          strands_written = rw all (rw collected.1 at g);
          scaffold_written = rw all (rw collected.1 at s);
          bases_written = rw all (rw collected.1 at b);
        }
