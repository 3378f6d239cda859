-- Laws of a walk down a column: the turns of the loop that reads a field of each record, whatever it is read as. Assumes nothing.
use Rattle.std.proofs.Common.{Option, Some, None}
use Prim.Native.Nat.{ℕ, suc, ◌+◌, ◌-◌, ◌≤◌, ◌<◌}
use mathlib.Core.Bool.{Bool, true, false}
use mathlib.Core.List.{List, ◌∷◌, map}
use mathlib.Core.Path.{◌≡◌, refl, ap, ◌∙◌}
use native.Mathlib.Nat.{sub-zero}
use native.Mathlib.Numerals.{add-one}
use native.Mathlib.Omega.{arith}
use lib.ListN.{length, drop, set, length-set}
use lib.Seq.{sets}
use Rattle.sheet_fields.specs.Fields.{content}
use Rattle.sheet_fields.specs.Runs.{contents, bytes_in}
use Rattle.sheet_fields.proofs.Runs.{past_at}
use Rattle.sheet_records.specs.Tables.{columns}
use Rattle.sheet_numbers.specs.Faults.{first_fault, fault_or}

-- the fault found so far, or the first one of those that follow
abbrev pub kept : Option ℕ → Option ℕ → Option ℕ
kept (Some found) later = Some found
kept None later = later

none_follows : (fault : Option ℕ) → fault ≡ kept fault None
none_follows (Some found) = refl
none_follows None = refl

first_of_lem : (fault : Option ℕ) (i : ℕ) (sound : Bool) (more : List Bool)
    → kept (fault_or fault sound (i + 1)) (first_fault (i + 1 + 1) more) ≡ kept fault (first_fault (i + 1) (sound ∷ more))
unfolding first_fault fault_or
first_of_lem (Some found) i sound more = refl
first_of_lem None i true more = refl
first_of_lem None i false more = refl

module _ {A : Type 0} (sound : List ℕ → Bool) (value : List ℕ → A) (records width column : ℕ) (text : List ℕ) where
  -- the column's fields of the records from a place on, of which so many are left
  abbrev fields : (left next : ℕ) → List (List ℕ)
  fields left next = columns left width column 1 (drop next text)

  -- the first i fields of the column have been read: what is left of it ends both the table and the search for a fault
  pub record InColumn (old out : List A) (fault : Option ℕ) (next i : ℕ) : Type 0 where
    pub within : i ≤ records
    pub long : length out ≡ length old
    pub found : kept fault (first_fault (i + 1) (map sound (fields (records - i) next))) ≡ first_fault 1 (map sound (columns records width column 1 text))
    pub put : sets out i (map value (fields (records - i) next)) ≡ sets old 0 (map value (columns records width column 1 text))

  module _ (old : List A) where
    pub column_starts : InColumn old old None 0 0
    column_starts = record { within = omega arith; long = refl; found = rw (sub-zero records) refl; put = rw (sub-zero records) refl }

    module _ (out : List A) (fault : Option ℕ) (next i : ℕ) (s : InColumn old out fault next i) where
      module _ (k : records ≤ i) where
        none : records - i ≡ 0
        none = omega arith

        pub column_fault : fault ≡ first_fault 1 (map sound (columns records width column 1 text))
        unfolding columns first_fault
        column_fault = none_follows fault ∙ rw none at s.found

        pub column_put : out ≡ sets old 0 (map value (columns records width column 1 text))
        unfolding columns
        column_put = rw none at s.put

      module _ (more : i < records) (first after : ℕ) (e : first ≡ next + bytes_in column (drop next text)) (f : after ≡ next + bytes_in width (drop next text)) where
        abbrev here : List ℕ
        here = content (drop first text)

        split : fields (records - i) next ≡ here ∷ fields (records - (i + 1)) after
        unfolding columns contents
        split =
            let one_more : records - i ≡ suc (records - (i + 1)) = omega arith in
            rw (one_more, e, f, past_at column text next, past_at width text next)

        pub column_goes_on : (v : A) → v ≡ value here → (b : Bool) → b ≡ sound here → (now : Option ℕ) → now ≡ fault_or fault b (i + 1) → InColumn old (set out i v) now after (i + 1)
        column_goes_on v p b q now g =
            record {
              within = omega arith;
              long = length-set out i v ∙ s.long;
              found = rw (g, q) (first_of_lem fault i (sound here) (map sound (fields (records - (i + 1)) after))) ∙ rw split at s.found;
              put = rw p (ap (λ (n : ℕ). sets (set out i (value here)) n (map value (fields (records - (i + 1)) after))) (add-one i) ∙ rw split at s.put);
            }
