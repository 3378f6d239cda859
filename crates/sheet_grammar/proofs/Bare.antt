-- A content that is a list has no byte with a meaning of its own: no comma, quote, CR or LF. Assumes nothing.
use Prim.Native.Nat.{ℕ, suc}
use mathlib.Core.Path.{◌≡◌, refl, sym, ◌∙◌, ap}
use mathlib.Core.Bool.{Bool, true, false, cond, not, ◌&&◌, ◌||◌, true≢false}
use mathlib.Core.List.{List, [], ◌∷◌, ◌++◌}
use native.Mathlib.Omega.{arith}
use lib.Dec.{eqb, ltb}
use lib.ListN.{length}
use borrow.Author.Tests.{ne_eqb}
use Rattle.units.proofs.Tests.{both}
use Rattle.text_digits.specs.Digits.{digit, all_digits}
use Rattle.sheet_fields.specs.Fields.{is_plain, plain_length, quoted_length, unquoted, is_quoted}
use Rattle.sheet_grammar.specs.Grammar.{NumbersText, one, another, ListText, nothing, numbers}
use Rattle.sheet_grammar.proofs.Bytes.{decimal_digit}
use Rattle.sheet_grammar.proofs.Contents.{plain_number_lem}

-- each byte is plain
abbrev pub Bare : List ℕ → Type 0
Bare [] = Unit {0}
Bare (b ∷ t) = (is_plain b ≡ true) × Bare t

-- ---- lists are bare

plain_digit : (b : ℕ) → ltb (digit b) 10 ≡ true → is_plain b ≡ true
unfolding is_plain
plain_digit b e =
    let d = decimal_digit b e in
    let not_44 : eqb b 44 ≡ false = ne_eqb b 44 (λ (z : b ≡ 44). omega arith) in
    let not_34 : eqb b 34 ≡ false = ne_eqb b 34 (λ (z : b ≡ 34). omega arith) in
    let not_13 : eqb b 13 ≡ false = ne_eqb b 13 (λ (z : b ≡ 13). omega arith) in
    let not_10 : eqb b 10 ≡ false = ne_eqb b 10 (λ (z : b ≡ 10). omega arith) in
    rw (not_44, not_34, not_13, not_10)

bare_append : (s t : List ℕ) → Bare s → Bare t → Bare (s ++ t)
bare_append [] t p q = q
bare_append (b ∷ s) t p q = (p.0, bare_append s t p.1 q)

bare_digits : (w : List ℕ) → all_digits 10 w ≡ true → Bare w
unfolding all_digits
bare_digits [] e = tt
bare_digits (b ∷ w) e =
    let parts = both (ltb (digit b) 10) (all_digits 10 w) e in
    (plain_digit b parts.0, bare_digits w parts.1)

plain_space : is_plain 32 ≡ true
unfolding is_plain
plain_space = refl

bare_numbers : {t ns : List ℕ} → NumbersText t ns → Bare t
bare_numbers (one w e) = bare_digits w (plain_number_lem w e).digits
bare_numbers (another w e {t = t} r) = bare_append w (32 ∷ t) (bare_digits w (plain_number_lem w e).digits) (plain_space, bare_numbers r)

-- a content that is a list is bare
pub bare_list : {t ns : List ℕ} → ListText t ns → Bare t
bare_list nothing = tt
bare_list (numbers n) = bare_numbers n

-- ---- what is bare is read as it stands

no_quote_in : (p q r s : Bool) → not (p || (q || (r || s))) ≡ true → q ≡ false
no_quote_in true q r s e = absurd (true≢false (sym e))
no_quote_in false true r s e = absurd (true≢false (sym e))
no_quote_in false false r s e = refl

-- a plain byte is no quote
pub no_quote : (b : ℕ) → is_plain b ≡ true → eqb b 34 ≡ false
unfolding is_plain
no_quote b e = no_quote_in (eqb b 44) (eqb b 34) (eqb b 13) (eqb b 10) e

-- a bare text begins with no quote, where what follows it does not
pub bare_unquoted : (c rest : List ℕ) → Bare c → is_quoted rest ≡ false → is_quoted (c ++ rest) ≡ false
unfolding is_quoted
bare_unquoted [] rest p e = e
bare_unquoted (b ∷ c) rest p e = no_quote b p.0

-- all of a bare text is counted, and no more
pub bare_length : (c rest : List ℕ) → Bare c → plain_length rest ≡ 0 → plain_length (c ++ rest) ≡ length c
unfolding plain_length
bare_length [] rest p e = e
bare_length (b ∷ c) rest p e = rw p.0 (ap suc (bare_length c rest p.1 e))

-- a byte that is no quote goes on with what is quoted
quoted_on : (b : ℕ) (t : List ℕ) → eqb b 34 ≡ false → quoted_length (b ∷ t) ≡ suc (quoted_length t)
unfolding quoted_length
quoted_on b [] e = rw e
quoted_on b (x ∷ t) e = rw e

-- a quote that none follows closes
quoted_stops : (rest : List ℕ) → is_quoted rest ≡ false → quoted_length (34 ∷ rest) ≡ 0
unfolding quoted_length is_quoted
quoted_stops [] e = refl
quoted_stops (b ∷ rest) e = rw e

-- of a bare text within quotes all is counted
pub quoted_length_lem : (c rest : List ℕ) → Bare c → is_quoted rest ≡ false → quoted_length (c ++ 34 ∷ rest) ≡ length c
quoted_length_lem [] rest p e = quoted_stops rest e
quoted_length_lem (b ∷ c) rest p e = quoted_on b (c ++ 34 ∷ rest) (no_quote b p.0) ∙ ap suc (quoted_length_lem c rest p.1 e)

-- a bare text stands for itself, and what stands for a bare text is that text
pub bare_itself : (c : List ℕ) → Bare c → unquoted c ≡ c
unfolding unquoted
bare_itself [] p = refl
bare_itself (a ∷ []) p = refl
bare_itself (a ∷ b ∷ t) p = rw (no_quote a p.0) (ap (λ (u : List ℕ). a ∷ u) (bare_itself (b ∷ t) p.1))

pub only_itself : (c : List ℕ) → Bare (unquoted c) → unquoted c ≡ c
unfolding unquoted
only_itself [] p = refl
only_itself (a ∷ []) p = refl
only_itself (a ∷ b ∷ t) p = go (eqb a 34 && eqb b 34) refl p (only_itself (b ∷ t))
  where
    go : (s : Bool) → eqb a 34 && eqb b 34 ≡ s → Bare (cond s (a ∷ unquoted t) (a ∷ unquoted (b ∷ t))) → (Bare (unquoted (b ∷ t)) → unquoted (b ∷ t) ≡ b ∷ t)
        → cond s (a ∷ unquoted t) (a ∷ unquoted (b ∷ t)) ≡ a ∷ b ∷ t
    go true e q more = absurd (true≢false (sym (both (eqb a 34) (eqb b 34) e).0 ∙ no_quote a q.0))
    go false e q more = ap (λ (u : List ℕ). a ∷ u) (more q.1)
