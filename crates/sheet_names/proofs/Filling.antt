-- Laws of the loops that append a sheet's fields as entries: over the fields of a record, and over records. Assumes nothing.
use Prim.Native.Nat.{ℕ, zero, suc, ◌+◌, ◌-◌, ◌*◌, ◌≤◌, ◌<◌}
use mathlib.Core.List.{List, [], ◌∷◌, ◌++◌, append_assoc, append-nil}
use mathlib.Core.Path.{◌≡◌, refl, sym, ap, ◌∙◌}
use native.Mathlib.Nat.{add_comm, zero-mul, suc-mul, mul-le-mul_right}
use native.Mathlib.Numerals.{add-one}
use native.Mathlib.Omega.{arith}
use lib.ListN.{length, take, drop, length-append}
use Rattle.sheet_fields.specs.Fields.{content, after, unquoted, field_at}
use Rattle.sheet_fields.specs.Answers.{places}
use Rattle.sheet_fields.specs.declared.Field.{Field}
use Rattle.sheet_fields.specs.Runs.{contents, past, bytes_in}
use Rattle.sheet_fields.proofs.Bounds.{raw_at}
use Rattle.sheet_fields.proofs.Quotes.{content_unquoted}
use Rattle.sheet_fields.proofs.Runs.{place_within, past_at, past_add, contents_add, bytes_add}
use Rattle.sheet_records.specs.Tables.{columns}
use Rattle.sheet_names.specs.Appended.{Appended}
use Rattle.sheet_names.specs.declared.Laid.{Laid}
use Rattle.sheet_names.proofs.Appending.{append_none, append_as, then_append}

-- what the bytes between a field's places stand for is its content
pub content_at : (text : List ℕ) (at : ℕ) (f : Field) → f ≡ places (field_at text at) → unquoted (take (f.to - f.from) (drop f.from text)) ≡ content (drop at text)
content_at text at f e = rw (e, raw_at text at) (content_unquoted (drop at text))

-- ---- how many entries there are

pub length_contents : (k : ℕ) (t : List ℕ) → length (contents k t) ≡ k
unfolding contents
length_contents zero t = refl
length_contents (suc k) t = ap suc (length_contents k (after t))

pub length_columns : (records width from count : ℕ) (t : List ℕ) → length (columns records width from count t) ≡ records * count
unfolding columns
length_columns zero width from count t = sym (zero-mul count)
length_columns (suc records) width from count t =
    let here = length_contents count (past from t) in
    let more = length_columns records width from count (past width t) in
    let all = suc-mul records count in
    omega (arith, length-append (contents count (past from t)) (columns records width from count (past width t)))

-- one field more, and one record more
one_content : (i : ℕ) (t : List ℕ) → contents i t ++ (content (past i t) ∷ []) ≡ contents (i + 1) t
unfolding contents
one_content i t = sym (contents_add i 1 t)

one_record : (width i : ℕ) (t : List ℕ) → past (suc i * width) t ≡ past (i * width) (past width t)
one_record width i t = rw (suc-mul i width, add_comm (i * width) width) (past_add width (i * width) t)

more_columns : (i width from count : ℕ) (t : List ℕ) → columns i width from count t ++ contents count (past from (past (i * width) t)) ≡ columns (suc i) width from count t
unfolding columns past
more_columns zero width from count t = rw (zero-mul width) (sym (append-nil (contents count (past from t))))
more_columns (suc i) width from count t =
    append_assoc (contents count (past from t)) (columns i width from count (past width t)) (contents count (past from (past (suc i * width) t)))
    ∙ ap (λ (l : List (List ℕ)). contents count (past from t) ++ l)
    (ap (λ (u : List ℕ). columns i width from count (past width t) ++ contents count (past from u)) (one_record width i t) ∙ more_columns i width from count (past width t))

-- ---- the fields of a record

-- the first i of so many fields are appended
pub record InFields (count : ℕ) (text : List ℕ) (at : ℕ) (out offsets present : List ℕ) (start stop : Laid) (next i : ℕ) (out' offsets' present' : List ℕ) : Type 0 where
  pub within : i ≤ count
  pub place : next ≡ at + bytes_in i (drop at text)
  pub done : Appended out offsets present start (contents i (drop at text)) stop out' offsets' present'

module _ (count : ℕ) (text : List ℕ) (at : ℕ) (out offsets present : List ℕ) (start : Laid) (h : at ≤ length text) (b : start.bytes ≤ length out) where
  pub fields_start : InFields count text at out offsets present start start at 0 out offsets present
  unfolding contents bytes_in
  fields_start = record { within = omega arith; place = omega arith; done = append_none out offsets present start b }

  module _ (stop : Laid) (next i : ℕ) (out' offsets' present' : List ℕ) (s : InFields count text at out offsets present start stop next i out' offsets' present') where
    pub fields_count : stop.entries ≡ start.entries + i
    fields_count = let k = s.done.counted in let l = length_contents i (drop at text) in omega arith

    pub fields_end : count ≤ i → Appended out offsets present start (contents count (drop at text)) stop out' offsets' present'
    fields_end k = let all : i ≡ count = let w = s.within in omega arith in rw all at s.done

    pub fields_go_on : i < count → (f : Field) → f ≡ places (field_at text next) → {r : Laid} {out'' offsets'' present'' : List ℕ}
        → Appended out' offsets' present' stop (unquoted (take (f.to - f.from) (drop f.from text)) ∷ []) r out'' offsets'' present''
        → InFields count text at out offsets present start r f.next (i + 1) out'' offsets'' present''
    unfolding bytes_in
    fields_go_on k f e a =
        let here : drop next text ≡ past i (drop at text) = rw s.place (past_at i text at) in
        let entry : unquoted (take (f.to - f.from) (drop f.from text)) ≡ content (past i (drop at text)) = content_at text next f e ∙ ap content here in
        let far : f.next ≡ next + bytes_in 1 (drop next text) = ap (λ (g : Field). g.next) e ∙ omega arith in
        record {
          within = omega arith;
          place = far ∙ rw (here, s.place, bytes_add i 1 (drop at text)) (omega arith);
          done = append_as (one_content i (drop at text)) (then_append s.done b (append_as (ap (λ (x : List ℕ). x ∷ []) entry) a));
        }

-- ---- the records of a sheet

-- the columns of the first i of so many records are appended
pub record InColumns (records width from count : ℕ) (text out offsets present : List ℕ) (start stop : Laid) (next i : ℕ) (out' offsets' present' : List ℕ) : Type 0 where
  pub within : i ≤ records
  pub inside : next ≤ length text
  pub here : drop next text ≡ past (i * width) text
  pub done : Appended out offsets present start (columns i width from count text) stop out' offsets' present'

module _ (records width from count : ℕ) (text out offsets present : List ℕ) (start : Laid) (b : start.bytes ≤ length out) where
  pub columns_start : InColumns records width from count text out offsets present start start 0 0 out offsets present
  unfolding columns past
  columns_start = record { within = omega arith; inside = omega arith; here = rw (zero-mul width); done = append_none out offsets present start b }

  module _ (stop : Laid) (next i : ℕ) (out' offsets' present' : List ℕ) (s : InColumns records width from count text out offsets present start stop next i out' offsets' present') where
    -- the first field to be taken stands in the text
    pub first_inside : (first : ℕ) → first ≡ next + bytes_in from (drop next text) → first ≤ length text
    first_inside first e = place_within text next from first s.inside e

    -- so many entries are there before this record and behind it
    pub columns_room : i < records → stop.entries + count ≤ start.entries + records * count
    columns_room k =
        let n = s.done.counted in
        let l = length_columns i width from count text in
        let more : suc i * count ≤ records * count = mul-le-mul_right count k in
        let one = suc-mul i count in
        omega arith

    pub columns_end : records ≤ i → Appended out offsets present start (columns records width from count text) stop out' offsets' present'
    columns_end k = let all : i ≡ records = let w = s.within in omega arith in rw all at s.done

    pub columns_go_on : i < records → (first after : ℕ) → first ≡ next + bytes_in from (drop next text) → after ≡ next + bytes_in width (drop next text)
        → {r : Laid} {out'' offsets'' present'' : List ℕ} → Appended out' offsets' present' stop (contents count (drop first text)) r out'' offsets'' present''
        → InColumns records width from count text out offsets present start r after (i + 1) out'' offsets'' present''
    columns_go_on k first after e f a =
        let front : drop first text ≡ past from (past (i * width) text) = rw e (past_at from text next ∙ ap (past from) s.here) in
        let sum : (i + 1) * width ≡ i * width + width = rw (add-one i) (suc-mul i width) in
        record {
          within = omega arith;
          inside = place_within text next width after s.inside f;
          here = rw (f, sum) (past_at width text next ∙ ap (past width) s.here ∙ sym (past_add (i * width) width text));
          done =
              append_as (more_columns i width from count text ∙ ap (λ (n : ℕ). columns n width from count text) (sym (add-one i)))
              (then_append s.done b (append_as (ap (contents count) front) a));
        }
