-- One field: what the grammar calls a field is read with its content and its end, and what is read is such a field. Assumes nothing.
use Prim.Native.Nat.{ℕ, suc, ◌+◌, ◌-◌, ◌<◌}
use mathlib.Core.Path.{◌≡◌, refl, sym, ◌∙◌, ap, subst, subst₂}
use mathlib.Core.Bool.{Bool, true, false, cond, ◌&&◌, true≢false}
use mathlib.Core.List.{List, [], ◌∷◌, ◌++◌, append_assoc}
use native.Mathlib.Nat.{sub-zero}
use native.Mathlib.Numerals.{add-one, add-two}
use native.Mathlib.Omega.{arith}
use lib.Dec.{eqb, leb}
use lib.ListN.{length, get_or, take, drop, take-append-drop, get_or-eq_default}
use lib.Seq.{take-append_seam, drop-append_seam, drop-append-add, get_or-append_seam, drop-drop, drop-cons, append_snoc}
use borrow.Author.Tests.{eqb-true, leb-true, leb-false}
use Rattle.units.proofs.Tests.{both}
use Rattle.sheet_fields.specs.Fields.{EndFound, FieldFound, is_plain, plain_length, quoted_length, broken, ended, ending_of, field_of, bare_field, quoted_field, is_quoted, field, unquoted, raw, content, after}
use Rattle.sheet_number_lists.specs.NumberLists.{is_list, list_in}
use Rattle.sheet_cells.specs.Cells.{is_cell}
use Rattle.sheet_grammar.specs.Grammar.{FieldText, bare, quoted, lf, crlf, Separator, at_end, at_comma, at_line}
use Rattle.sheet_grammar.proofs.Contents.{list_read, list_text}
use Rattle.sheet_grammar.proofs.Bare.{Bare, bare_list, bare_unquoted, bare_length, quoted_length_lem, bare_itself, only_itself}

-- ---- a field of the grammar is read

-- what the reader makes of the text after a field's content
record Rest (more : Bool) (width : ℕ) (rest tail : List ℕ) : Type 0 where
  ending : ending_of rest ≡ ended more width
  no_plain : plain_length rest ≡ 0
  no_quote : is_quoted rest ≡ false
  left : drop width rest ≡ tail

rest_of : {more : Bool} {sep tail : List ℕ} → Separator more sep tail → Rest more (length sep) (sep ++ tail) tail
unfolding ending_of plain_length is_plain is_quoted
rest_of at_end = record { ending = refl; no_plain = refl; no_quote = refl; left = refl }
rest_of at_comma = record { ending = refl; no_plain = refl; no_quote = refl; left = refl }
rest_of (at_line lf) = record { ending = refl; no_plain = refl; no_quote = refl; left = refl }
rest_of (at_line crlf) = record { ending = refl; no_plain = refl; no_quote = refl; left = refl }

-- a text begins with a sound field of this content; whether its record goes on, and what is left
pub record Begins (t : List ℕ) (more : Bool) (c tail : List ℕ) : Type 0 where
  pub sound : (field t).sound ≡ true
  pub goes_on : (field t).more ≡ more
  pub has : content t ≡ c
  pub leaves : after t ≡ tail

abbrev sound_field : (more : Bool) → (from to next : ℕ) → FieldFound
sound_field more from to next = record { sound = true; more = more; from = from; to = to; next = next }

module _ (c rest tail : List ℕ) (more : Bool) (width : ℕ) (p : Bare c) (r : Rest more width rest tail) where
  bare_here : field (c ++ rest) ≡ sound_field more 0 (length c) (length c + width)
  unfolding field bare_field field_of
  bare_here = rw (bare_unquoted c rest p r.no_quote, bare_length c rest p r.no_plain, drop-append_seam c rest, r.ending)

  bare_begins : Begins (c ++ rest) more c tail
  unfolding content raw after
  bare_begins =
      record {
        sound = ap (λ (f : FieldFound). f.sound) bare_here;
        goes_on = ap (λ (f : FieldFound). f.more) bare_here;
        has = rw (bare_unquoted c rest p r.no_quote, bare_here, sub-zero (length c)) (take-append_seam c rest);
        leaves = rw bare_here (drop-append-add c rest width ∙ r.left);
      }

  at_quote : get_or (34 ∷ (c ++ 34 ∷ rest)) (length c + 1) 0 ≡ 34
  at_quote = rw (add-one (length c)) (get_or-append_seam c 34 rest 0)

  past_quote : (m k : ℕ) → m ≡ suc (length c + suc k) → drop m (34 ∷ (c ++ 34 ∷ rest)) ≡ drop k rest
  past_quote m k e = rw e (drop-append-add c (34 ∷ rest) (suc k))

  quoted_here : field (34 ∷ (c ++ 34 ∷ rest)) ≡ sound_field more 1 (length c + 1) (length c + 2 + width)
  unfolding field is_quoted quoted_field field_of
  quoted_here = rw (quoted_length_lem c rest p r.no_quote, at_quote, past_quote (length c + 2) 0 (omega arith), r.ending)

  quoted_begins : Begins (34 ∷ (c ++ 34 ∷ rest)) more c tail
  unfolding content raw after is_quoted
  quoted_begins =
      let long : length c + 1 - 1 ≡ length c = omega arith in
      record {
        sound = ap (λ (f : FieldFound). f.sound) quoted_here;
        goes_on = ap (λ (f : FieldFound). f.more) quoted_here;
        has = rw (quoted_here, long, take-append_seam c (34 ∷ rest)) (bare_itself c p);
        leaves = rw quoted_here (past_quote (length c + 2 + width) width (omega arith) ∙ r.left);
      }

-- a field of the grammar, followed as a field may be, is read as such
pub field_read : {f c ns : List ℕ} → FieldText f c ns → {more : Bool} {sep tail : List ℕ} → Separator more sep tail → Begins (f ++ (sep ++ tail)) more c tail
field_read (bare {t = c} l) {more = more} {sep = sep} {tail = tail} s = bare_begins c (sep ++ tail) tail more (length sep) (bare_list l) (rest_of s)
field_read (quoted {t = c} l) {more = more} {sep = sep} {tail = tail} s =
    subst (λ (u : List ℕ). Begins (34 ∷ u) more c tail) (sym (append_assoc c (34 ∷ []) (sep ++ tail)))
    (quoted_begins c (sep ++ tail) tail more (length sep) (bare_list l) (rest_of s))

-- ---- a field that is read is one of the grammar

-- a text begins with a separator
record Separated (e : EndFound) (rest : List ℕ) : Type 0 where
  sep : List ℕ
  ends : Separator e.more sep (drop e.width rest)
  all : rest ≡ sep ++ drop e.width rest

separated : (rest : List ℕ) → (ending_of rest).sound ≡ true → Separated (ending_of rest) rest
unfolding ending_of
separated [] h = record { sep = []; ends = at_end; all = refl }
separated (b ∷ t) h = go (eqb b 44) refl (eqb b 10) refl (eqb b 13 && eqb (get_or t 0 0) 10) refl h
  where
    line_feed : (t : List ℕ) → get_or t 0 0 ≡ 10 → t ≡ 10 ∷ drop 1 t
    line_feed [] e = absurd (omega arith)
    line_feed (x ∷ t) e = ap (λ (y : ℕ). y ∷ t) e

    go : (p : Bool) → eqb b 44 ≡ p → (q : Bool) → eqb b 10 ≡ q → (r : Bool) → eqb b 13 && eqb (get_or t 0 0) 10 ≡ r
        → (cond p (ended true 1) (cond q (ended false 1) (cond r (ended false 2) broken))).sound ≡ true
        → Separated (cond p (ended true 1) (cond q (ended false 1) (cond r (ended false 2) broken))) (b ∷ t)
    go true e q f r g h = record { sep = 44 ∷ []; ends = at_comma; all = ap (λ (y : ℕ). y ∷ t) (eqb-true b 44 e) }
    go false e true f r g h = record { sep = 10 ∷ []; ends = at_line lf; all = ap (λ (y : ℕ). y ∷ t) (eqb-true b 10 f) }
    go false e false f true g h =
        let parts = both (eqb b 13) (eqb (get_or t 0 0) 10) g in
        record {
          sep = 13 ∷ 10 ∷ [];
          ends = at_line crlf;
          all = ap (λ (y : ℕ). y ∷ t) (eqb-true b 13 parts.0) ∙ ap (λ (u : List ℕ). 13 ∷ u) (line_feed t (eqb-true (get_or t 0 0) 10 parts.1));
        }
    go false e false f false g h = absurd (true≢false (sym h))

-- a text is a field of the grammar with the content read, its separator, and what is left
pub record Cell (t : List ℕ) : Type 0 where
  pub text : List ℕ
  pub sep : List ℕ
  pub is_field : FieldText text (content t) (list_in (content t))
  pub ends : Separator (field t).more sep (after t)
  pub all : t ≡ text ++ (sep ++ after t)

sound_ending : (from to at : ℕ) (e : EndFound) → (field_of from to at e).sound ≡ true → (e.sound ≡ true) × (field_of from to at e ≡ sound_field e.more from to (at + e.width))
unfolding field_of
sound_ending from to at e h = go e.sound refl h
  where
    go : (s : Bool) → e.sound ≡ s
        → (cond s (sound_field e.more from to (at + e.width)) (record { sound = false; more = false; from = 0; to = 0; next = 0 })).sound ≡ true
        → (s ≡ true) × (cond s (sound_field e.more from to (at + e.width)) (record { sound = false; more = false; from = 0; to = 0; next = 0 }) ≡ sound_field e.more from to (at + e.width))
    go true p q = (refl, refl)
    go false p q = absurd (true≢false (sym q))

module _ (t : List ℕ) (list : is_list (content t) ≡ true) where
  -- from the content's place and the separator after it
  cell_from : (e : EndFound) (rest text : List ℕ) → Separated e rest → t ≡ text ++ rest → (field t).more ≡ e.more → after t ≡ drop e.width rest
      → FieldText text (content t) (list_in (content t)) → Cell t
  cell_from e rest text s all more left f =
      record {
        text = text;
        sep = s.sep;
        is_field = f;
        ends = subst₂ (λ (m : Bool) (u : List ℕ). Separator m s.sep u) (sym more) (sym left) s.ends;
        all = all ∙ ap (λ (u : List ℕ). text ++ u) (s.all ∙ ap (λ (u : List ℕ). s.sep ++ u) (sym left));
      }

  bare_cell : is_quoted t ≡ false → (field t).sound ≡ true → Cell t
  unfolding content raw after field bare_field
  bare_cell q h =
      let n = plain_length t in
      let e = ending_of (drop n t) in
      let as_bare : field t ≡ bare_field t = rw q in
      let known = sound_ending 0 n n e (rw q at h) in
      let here : field t ≡ sound_field e.more 0 n (n + e.width) = as_bare ∙ known.1 in
      let text : content t ≡ take n t = rw (q, known.1, sub-zero n) in
      cell_from e (drop n t) (take n t) (separated (drop n t) known.0) (sym (take-append-drop n t))
      (ap (λ (f : FieldFound). f.more) here)
      (ap (λ (f : FieldFound). drop f.next t) here ∙ sym (drop-drop e.width n t))
      (subst (λ (u : List ℕ). FieldText u (content t) (list_in (content t))) text (bare (list_text (content t) list)))

-- a place that holds a quote is within the text
inside : (u : List ℕ) (n : ℕ) → get_or u n 0 ≡ 34 → n < length u
inside u n e = go (leb (length u) n) refl
  where
    go : (s : Bool) → leb (length u) n ≡ s → n < length u
    go true h = let none = get_or-eq_default u 0 (leb-true (length u) n h) in absurd (omega arith)
    go false h = leb-false (length u) n h

closed : (s : Bool) (e : EndFound) → (cond s e broken).sound ≡ true → s ≡ true
closed true e h = refl
closed false e h = absurd (true≢false (sym h))

module _ (a : ℕ) (u : List ℕ) (list : is_list (content (a ∷ u)) ≡ true) (q : is_quoted (a ∷ u) ≡ true) where
  abbrev t : List ℕ
  t = a ∷ u

  abbrev n : ℕ
  n = quoted_length u

  abbrev rest : List ℕ
  rest = drop (n + 2) t

  abbrev close : Bool
  close = eqb (get_or t (n + 1) 0) 34

  as_quoted : field t ≡ field_of 1 (n + 1) (n + 2) (cond close (ending_of rest) broken)
  unfolding field quoted_field
  as_quoted = rw q

  module _ (h : (field t).sound ≡ true) where
    known : ((cond close (ending_of rest) broken).sound ≡ true) × (field_of 1 (n + 1) (n + 2) (cond close (ending_of rest) broken) ≡ sound_field (cond close (ending_of rest) broken).more 1 (n + 1) (n + 2 + (cond close (ending_of rest) broken).width))
    known = sound_ending 1 (n + 1) (n + 2) (cond close (ending_of rest) broken) (sym (ap (λ (f : FieldFound). f.sound) as_quoted) ∙ h)

    closes : close ≡ true
    closes = closed close (ending_of rest) known.0

    ended_well : (ending_of rest).sound ≡ true
    ended_well = ap (λ (s : Bool). (cond s (ending_of rest) broken).sound) (sym closes) ∙ known.0

    here : field t ≡ sound_field (ending_of rest).more 1 (n + 1) (n + 2 + (ending_of rest).width)
    here = as_quoted ∙ known.1 ∙ ap (λ (s : Bool). sound_field (cond s (ending_of rest) broken).more 1 (n + 1) (n + 2 + (cond s (ending_of rest) broken).width)) closes

    closing : get_or u n 0 ≡ 34
    closing = ap (λ (m : ℕ). get_or t m 0) (sym (add-one n)) ∙ eqb-true (get_or t (n + 1) 0) 34 closes

    within_quotes : content t ≡ unquoted (take n u)
    unfolding content raw
    within_quotes =
        let long : n + 1 - 1 ≡ n = omega arith in
        rw (q, here, long)

    has_text : content t ≡ take n u
    has_text = within_quotes ∙ only_itself (take n u) (subst Bare within_quotes (bare_list (list_text (content t) list)))

    split : u ≡ take n u ++ 34 ∷ [] ++ rest
    split =
        sym (take-append-drop n u)
        ∙ ap (λ (v : List ℕ). take n u ++ v) (drop-cons u n 0 (inside u n closing) ∙ ap (λ (x : ℕ). x ∷ drop (suc n) u) closing ∙ ap (λ (m : ℕ). 34 ∷ drop m t) (sym (add-two n)))
        ∙ sym (append_snoc (take n u) 34 rest)

    quoted_cell : Cell t
    unfolding after is_quoted
    quoted_cell =
        cell_from t list (ending_of rest) rest (34 ∷ (take n u ++ 34 ∷ [])) (separated rest ended_well)
        (ap (λ (x : ℕ). x ∷ u) (eqb-true a 34 first) ∙ ap (λ (v : List ℕ). 34 ∷ v) split)
        (ap (λ (f : FieldFound). f.more) here)
        (ap (λ (f : FieldFound). drop f.next t) here ∙ sym (drop-drop (ending_of rest).width (n + 2) t))
        (subst (λ (v : List ℕ). FieldText (34 ∷ (v ++ 34 ∷ [])) (content t) (list_in (content t))) has_text (quoted (list_text (content t) list)))
      where
        first : eqb a 34 ≡ true
        first = q

-- a field that is read as a list, and what follows it
pub cell_text_lem : (t : List ℕ) → is_cell t ≡ true → Cell t
unfolding is_cell is_quoted
cell_text_lem t e = let parts = both (field t).sound (is_list (content t)) e in go t parts.0 parts.1 (is_quoted t) refl
  where
    go : (t : List ℕ) → (field t).sound ≡ true → is_list (content t) ≡ true → (s : Bool) → is_quoted t ≡ s → Cell t
    go t h l false q = bare_cell t l q h
    go [] h l true q = absurd (true≢false (sym q))
    go (a ∷ u) h l true q = quoted_cell a u l q h

-- and a field of the grammar is a cell
pub cell_read : {f c ns : List ℕ} → FieldText f c ns → (is_list c ≡ true) × (list_in c ≡ ns)
cell_read (bare l) = list_read l
cell_read (quoted l) = list_read l
