-- The walk over a set that code makes: a strand, then the next one behind it, until a limit is reached.
-- Assumes nothing.
use Rattle.std.specs.Prelude.{cond, List, [], ◌∷◌, ℕ, zero, suc, ◌+◌, ltb}

-- the strands that a walk from t visits in at most d turns: it ends at the first that is not below n, and goes on from t to `next (t + 1)`
unfoldable pub walk : (ℕ → ℕ) → ℕ → ℕ → ℕ → List ℕ
walk next n zero t = []
walk next n (suc d) t = cond (ltb t n) (t ∷ walk next n d (next (t + 1))) []
