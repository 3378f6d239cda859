-- Laws of a walk that puts what two neighbouring fields of each record are read as, whatever that is: the turns of its loop. Assumes nothing.
use Prim.Native.Nat.{ℕ, suc, ◌+◌, ◌-◌, ◌*◌, ◌≤◌, ◌<◌}
use mathlib.Core.List.{List, ◌∷◌, map}
use mathlib.Core.Path.{◌≡◌, refl}
use native.Mathlib.Nat.{sub-zero}
use native.Mathlib.Omega.{arith}
use lib.ListN.{length, drop, set, length-set}
use lib.Seq.{sets}
use Rattle.sheet_fields.specs.Fields.{content}
use Rattle.sheet_fields.specs.Runs.{contents, past, bytes_in}
use Rattle.sheet_fields.proofs.Runs.{past_at, past_add}
use Rattle.sheet_records.specs.Tables.{columns}

-- the values of the first i records have been put: those of the others end the table
pub record InPairs {A : Type 0} (value : List ℕ → A) (records width from : ℕ) (text : List ℕ) (old out : List A) (next i : ℕ) : Type 0 where
  pub within : i ≤ records
  pub long : length out ≡ length old
  pub put : sets out (i * 2) (map value (columns (records - i) width from 2 (drop next text))) ≡ sets old 0 (map value (columns records width from 2 text))

module _ {A : Type 0} (value : List ℕ → A) (records width from : ℕ) (text : List ℕ) (old : List A) where
  pub pairs_start : InPairs value records width from text old old 0 0
  pairs_start = record { within = omega arith; long = refl; put = rw (sub-zero records) refl }

  module _ (out : List A) (next i : ℕ) (s : InPairs value records width from text old out next i) where
    pub pairs_end : records ≤ i → out ≡ sets old 0 (map value (columns records width from 2 text))
    unfolding columns
    pairs_end k = let none : records - i ≡ 0 = omega arith in rw none at s.put

    -- the record's two fields and the one after it
    module _ (more : i < records) (first second after : ℕ) (e : first ≡ next + bytes_in from (drop next text)) (f : second ≡ next + bytes_in (from + 1) (drop next text)) (g : after ≡ next + bytes_in width (drop next text)) where
      pub split : columns (records - i) width from 2 (drop next text) ≡ content (drop first text) ∷ content (drop second text) ∷ columns (records - (i + 1)) width from 2 (drop after text)
      unfolding columns contents past
      split =
          let one_more : records - i ≡ suc (records - (i + 1)) = omega arith in
          rw (one_more, e, f, g, past_at from text next, past_at (from + 1) text next, past_at width text next, past_add from 1 (drop next text))

      pub pairs_go_on : (x y : A) → x ≡ value (content (drop first text)) → y ≡ value (content (drop second text))
          → InPairs value records width from text old (set (set out (i * 2) x) (i * 2 + 1) y) after (i + 1)
      pairs_go_on x y p q =
          let one : i * 2 + 1 ≡ suc (i * 2) = omega arith in
          let two : (i + 1) * 2 ≡ suc (suc (i * 2)) = omega arith in
          record {
            within = omega arith;
            long = simp length-set s.long;
            put = rw (p, q, one, two) (rw split at s.put);
          }
