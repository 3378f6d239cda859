-- What a text is: the UTF-8 of characters that are allowed, one after the other, as section 3 of RFC 3629 has it. Assumes nothing.
use Rattle.std.specs.Prelude.{ℕ, ◌+◌, ◌*◌, ◌≤◌, ◌<◌, List, [], ◌∷◌, ◌++◌, ◌≡◌, length, take, drop}

-- the characters of XML 1.0 without the control characters U+7F to U+9F
pub data Allowed : ℕ → Type 0 where
  tab : Allowed 9
  line_feed : Allowed 10
  carriage_return : Allowed 13
  ascii : {p : ℕ} → 32 ≤ p → p ≤ 126 → Allowed p
  below_surrogates : {p : ℕ} → 160 ≤ p → p ≤ 55295 → Allowed p
  above_surrogates : {p : ℕ} → 57344 ≤ p → p ≤ 65533 → Allowed p
  far : {p : ℕ} → 65536 ≤ p → p ≤ 1114111 → Allowed p

-- the bytes of a character, the fewest that hold its number: six bits of it in each byte but the first
pub data Character : List ℕ → Type 0 where
  one : {p : ℕ} → p < 128 → Allowed p → Character (p ∷ [])
  two : (x y : ℕ) → y < 64 → 128 ≤ x * 64 + y → x * 64 + y < 2048 → Allowed (x * 64 + y) → Character ((192 + x) ∷ (128 + y) ∷ [])
  three : (x y z : ℕ) → y < 64 → z < 64 → 2048 ≤ x * 4096 + y * 64 + z → x * 4096 + y * 64 + z < 65536 → Allowed (x * 4096 + y * 64 + z)
      → Character ((224 + x) ∷ (128 + y) ∷ (128 + z) ∷ [])
  four : (x y z w : ℕ) → y < 64 → z < 64 → w < 64 → 65536 ≤ x * 262144 + y * 4096 + z * 64 + w → Allowed (x * 262144 + y * 4096 + z * 64 + w)
      → Character ((240 + x) ∷ (128 + y) ∷ (128 + z) ∷ (128 + w) ∷ [])

-- characters one after the other
pub data Text : List ℕ → Type 0 where
  nothing : Text []
  more : {c t : List ℕ} → Character c → Text t → Text (c ++ t)

-- the bytes before a place are a text, and no character begins at the place
pub record Stray (t : List ℕ) (n : ℕ) : Type 0 where
  pub within : n ≤ length t
  pub front : Text (take n t)
  pub stray : (c rest : List ℕ) → Character c → drop n t ≡ c ++ rest → ⊥
