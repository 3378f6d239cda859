-- What is the same for every text with a quote in it can be told from the bytes between a field's quotes as they stand. Assumes nothing.
use Prim.Native.Nat.{ℕ, suc, ◌+◌, ◌-◌}
use mathlib.Core.Bool.{Bool, true, false, cond, not, ◌&&◌, ◌||◌}
use mathlib.Core.List.{List, [], ◌∷◌}
use mathlib.Core.Path.{◌≡◌, refl, sym, ap, ◌∙◌}
use native.Mathlib.Nat.{sub-zero}
use native.Mathlib.Omega.{arith}
use borrow.Author.Tests.{ne_eqb}
use lib.Dec.{eqb}
use lib.ListN.{length, take, drop}
use Rattle.sheet_fields.specs.Fields.{is_plain, plain_length, ending_of, field_of, bare_field, quoted_field, is_quoted, field, unquoted, raw, content}
use Rattle.sheet_fields.specs.Fields.{EndFound}
use Rattle.sheet_fields.specs.Fields.{FieldFound}

unfoldable pub has_quote : List ℕ → Bool
has_quote [] = false
has_quote (b ∷ t) = eqb b 34 || has_quote t

unquoted_quote : (r : List ℕ) → has_quote (unquoted r) ≡ has_quote r
unfolding has_quote unquoted
unquoted_quote [] = refl
unquoted_quote (a ∷ []) = refl
unquoted_quote (a ∷ b ∷ t) = go (eqb a 34) (eqb b 34) refl (unquoted_quote (b ∷ t))
  where
    go : (p q : Bool) → eqb a 34 ≡ p → has_quote (unquoted (b ∷ t)) ≡ has_quote (b ∷ t)
        → has_quote (cond (p && q) (a ∷ unquoted t) (a ∷ unquoted (b ∷ t))) ≡ p || has_quote (b ∷ t)
    go true true e h = rw e
    go true false e h = rw e
    go false q e h = rw e h

unquoted_same : (r : List ℕ) → has_quote r ≡ false → unquoted r ≡ r
unfolding has_quote unquoted
unquoted_same [] e = refl
unquoted_same (a ∷ []) e = refl
unquoted_same (a ∷ b ∷ t) e = go (eqb a 34) e (unquoted_same (b ∷ t))
  where
    go : (p : Bool) → p || has_quote (b ∷ t) ≡ false → (has_quote (b ∷ t) ≡ false → unquoted (b ∷ t) ≡ b ∷ t)
        → cond (p && eqb b 34) (a ∷ unquoted t) (a ∷ unquoted (b ∷ t)) ≡ a ∷ b ∷ t
    go true k h = let z : ◌≡◌ {A = ℕ} 0 1 = cc in absurd (omega arith)
    go false k h = ap (λ (l : List ℕ). a ∷ l) (h k)

-- a content without a quote is the bytes as they stand
pub content_same : (t : List ℕ) → has_quote (raw t) ≡ false → content t ≡ raw t
unfolding content
content_same t e = go (is_quoted t)
  where
    go : (q : Bool) → cond q (unquoted (raw t)) (raw t) ≡ raw t
    go true = unquoted_same (raw t) e
    go false = refl

-- what every text with a quote is read as is read off the bytes as they stand
module _ {B : Type 0} (read : List ℕ → B) (none : B) (quotes : (t : List ℕ) → has_quote t ≡ true → read t ≡ none) where
  read_unquoted : (r : List ℕ) → read (unquoted r) ≡ read r
  read_unquoted r = go (has_quote r) refl
    where
      go : (q : Bool) → has_quote r ≡ q → read (unquoted r) ≡ read r
      go true e = quotes (unquoted r) (unquoted_quote r ∙ e) ∙ sym (quotes r e)
      go false e = ap read (unquoted_same r e)

  pub read_content : (t : List ℕ) → read (content t) ≡ read (raw t)
  unfolding content
  read_content t = go (is_quoted t)
    where
      go : (q : Bool) → read (cond q (unquoted (raw t)) (raw t)) ≡ read (raw t)
      go true = read_unquoted (raw t)
      go false = refl

-- bytes that can stand in a field without quotes have none: what any field's bytes stand for is told alike
plain_no_quote : (b : ℕ) → is_plain b ≡ true → eqb b 34 ≡ false
unfolding is_plain
plain_no_quote b e = go (eqb b 34) (eqb b 44) e
  where
    go : (q p : Bool) → not (p || (q || (eqb b 13 || eqb b 10))) ≡ true → q ≡ false
    go true true k = sym k
    go true false k = sym k
    go false p k = refl

plain_front : (t : List ℕ) → has_quote (take (plain_length t) t) ≡ false
unfolding has_quote plain_length
plain_front [] = refl
plain_front (b ∷ t) = go (is_plain b) refl (plain_front t)
  where
    go : (p : Bool) → is_plain b ≡ p → has_quote (take (plain_length t) t) ≡ false → has_quote (take (cond p (suc (plain_length t)) 0) (b ∷ t)) ≡ false
    go true e h = rw (plain_no_quote b e) h
    go false e h = refl

abbrev between : FieldFound → List ℕ → List ℕ
between f t = take (f.to - f.from) (drop f.from t)

bare_no_quote : (t : List ℕ) (e : EndFound) → has_quote (between (field_of 0 (plain_length t) (plain_length t) e) t) ≡ false
unfolding field_of has_quote
bare_no_quote t e = go e.sound
  where
    n : ℕ
    n = plain_length t

    go : (s : Bool) → has_quote (between (cond s (record { sound = true; more = e.more; from = 0; to = n; next = n + e.width }) (record { sound = false; more = false; from = 0; to = 0; next = 0 })) t) ≡ false
    go true = rw (sub-zero n) (plain_front t)
    go false = refl

pub content_unquoted : (t : List ℕ) → unquoted (raw t) ≡ content t
unfolding content raw field bare_field
content_unquoted t = go (is_quoted t)
  where
    go : (q : Bool) → unquoted (between (cond q (quoted_field t) (bare_field t)) t)
        ≡ cond q (unquoted (between (cond q (quoted_field t) (bare_field t)) t)) (between (cond q (quoted_field t) (bare_field t)) t)
    go true = refl
    go false = unquoted_same _ (bare_no_quote t (ending_of (drop (plain_length t) t)))

-- a content has bytes where any stand between the field's places
some : (n : ℕ) → eqb (suc n) 0 ≡ false
some n = ne_eqb (suc n) 0 (λ (e : suc n ≡ 0). omega arith)

pub unquoted_blank : (r : List ℕ) → eqb (length (unquoted r)) 0 ≡ eqb (length r) 0
unfolding unquoted
unquoted_blank [] = refl
unquoted_blank (a ∷ []) = refl
unquoted_blank (a ∷ b ∷ t) = go (eqb a 34 && eqb b 34)
  where
    go : (q : Bool) → eqb (length (cond q (a ∷ unquoted t) (a ∷ unquoted (b ∷ t)))) 0 ≡ eqb (suc (suc (length t))) 0
    go true = rw (some (length (unquoted t)), some (suc (length t)))
    go false = rw (some (length (unquoted (b ∷ t))), some (suc (length t)))

pub content_blank : (t : List ℕ) → eqb (length (content t)) 0 ≡ eqb (length (raw t)) 0
unfolding content
content_blank t = go (is_quoted t)
  where
    go : (q : Bool) → eqb (length (cond q (unquoted (raw t)) (raw t))) 0 ≡ eqb (length (raw t)) 0
    go true = unquoted_blank (raw t)
    go false = refl
