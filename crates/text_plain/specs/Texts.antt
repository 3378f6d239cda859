-- Which bytes are text: UTF-8 after RFC 3629 without U+FFFE, U+FFFF and control characters other than tab, line feed and carriage return. Assumes nothing.
use Rattle.std.specs.Prelude.{ℕ, zero, suc, ◌-◌, Bool, cond, ◌&&◌, ◌||◌, List, [], ◌∷◌, eqb, leb, get_or, drop}

-- a byte from low to high
unfoldable pub is_between : (low high : ℕ) → ℕ → Bool
is_between low high b = leb low b && leb b high

-- a byte that is a character: tab, line feed, carriage return, 20 to 7E
unfoldable pub is_alone : ℕ → Bool
is_alone b = eqb b 9 || (eqb b 10 || (eqb b 13 || is_between 32 126 b))

-- what follows the first byte of a longer character: A0 to BF after C2 (80 to 9F are control characters) and E0 (no longer than needed), 80 to 9F after ED (no
-- surrogates), 90 to BF after F0 (no longer than needed), 80 to 8F after F4 (nothing past U+10FFFF), else 80 to BF
unfoldable pub is_second : (a b : ℕ) → Bool
is_second a b =
    cond (eqb a 194) (is_between 160 191 b)
    (cond (eqb a 224) (is_between 160 191 b)
    (cond (eqb a 237) (is_between 128 159 b)
    (cond (eqb a 240) (is_between 144 191 b)
    (cond (eqb a 244) (is_between 128 143 b)
    (is_between 128 191 b)))))

-- the last byte of three: 80 to BF, but no more than BD after EF BF (U+FFFE, U+FFFF)
unfoldable pub is_third : (a b c : ℕ) → Bool
is_third a b c = cond (eqb a 239 && eqb b 191) (is_between 128 189 c) (is_between 128 191 c)

-- characters of two, three and four bytes
unfoldable pub is_two : (a b : ℕ) → Bool
is_two a b = is_between 194 223 a && is_second a b

unfoldable pub is_three : (a b c : ℕ) → Bool
is_three a b c = is_between 224 239 a && (is_second a b && is_third a b c)

unfoldable pub is_four : (a b c d : ℕ) → Bool
is_four a b c d = is_between 240 244 a && (is_second a b && (is_between 128 191 c && is_between 128 191 d))

-- how many bytes a character takes that begins with these four, 0 where none does
unfoldable pub width_of : (a b c d : ℕ) → ℕ
width_of a b c d = cond (is_alone a) 1 (cond (is_two a b) 2 (cond (is_three a b c) 3 (cond (is_four a b c d) 4 0)))

-- how many bytes the character at the front of a text takes; past the end stand bytes 0, which are part of no character
unfoldable pub character_length : List ℕ → ℕ
character_length t = width_of (get_or t 0 0) (get_or t 1 0) (get_or t 2 0) (get_or t 3 0)

-- how many bytes stand before the first stray one, the first so many being what is left of a sound character
unfoldable pub stray_after : (left : ℕ) → List ℕ → ℕ
stray_after left [] = 0
stray_after (suc left) (b ∷ t) = suc (stray_after left t)
stray_after zero (b ∷ t) = cond (eqb (character_length (b ∷ t)) 0) 0 (suc (stray_after (character_length (b ∷ t) - 1) t))

-- the place of the first byte that is no part of a text, the length where all are
unfoldable pub first_stray : List ℕ → ℕ
first_stray t = stray_after 0 t

-- EF BB BF at the front, and the text without it
unfoldable pub has_mark : List ℕ → Bool
has_mark t = eqb (get_or t 0 0) 239 && (eqb (get_or t 1 0) 187 && eqb (get_or t 2 0) 191)

unfoldable pub without_mark : List ℕ → List ℕ
without_mark t = cond (has_mark t) (drop 3 t) t
