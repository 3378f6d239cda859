-- Laws of the search for a field among a line's words. Assumes nothing.
use Rattle.std.proofs.Common.{Some, None}
use Prim.Native.Nat.{ℕ, ◌+◌, ◌-◌, ◌≤◌, ◌<◌, zero-le}
use mathlib.Core.Bool.{true, false}
use mathlib.Core.List.{List, [], ◌∷◌}
use mathlib.Core.Path.{◌≡◌, refl, sym, ap, ◌∙◌}
use native.Mathlib.Omega.{arith}
use lib.ListN.{length, take, drop}
use Rattle.case_text.specs.Places.{place_of, parts}
use Rattle.case_text.specs.Fields.{rest, words, has_key, any_field, first_field, FieldAt}
use Rattle.case_text.proofs.Cuts.{place_first, onward_at, parts_rest, part_at, none_after, more_after}

-- the search has come to a place: no field before it has the key, and a word starts after it, where it is not the line's end
pub record Search (key line : List ℕ) (at : ℕ) : Type 0 where
  pub within : at ≤ length line
  pub any : any_field key (words (drop at line)) ≡ any_field key (words line)
  pub first : first_field key (words (drop at line)) ≡ first_field key (words line)
  pub spaced : at < length line → words (drop at line) ≡ parts 32 (drop (at + 1) line)

-- after a space that a search from s found, the words are the line's parts
spaced_at : (line : List ℕ) (s e : ℕ) → s ≤ length line → e ≡ place_of 32 line s → e < length line → words (drop e line) ≡ parts 32 (drop (e + 1) line)
unfolding words
spaced_at line s e h p = rw p (more_after 32 line s h)

pub search_starts : (key line : List ℕ) (e : ℕ) → e ≡ place_of 32 line 0 → Search key line e
unfolding words
search_starts key line e p =
    let same : rest (parts 32 (drop e line)) ≡ rest (parts 32 line) = rw (p, place_first 32 line) (sym (parts_rest 32 line)) in
    record {
      within = (onward_at 32 line 0 e p).1;
      any = ap (any_field key) same;
      first = ap (first_field key) same;
      spaced = spaced_at line 0 e zero-le p;
    }

module _ (key line : List ℕ) (at : ℕ) (s : Search key line at) where
  pub search_ends : length line ≤ at → FieldAt key line None
  unfolding words any_field first_field
  search_ends h =
      let none : words (drop at line) ≡ [] = none_after 32 line at h in
      record { within = tt; any = sym s.any ∙ ap (any_field key) none; first = sym s.first ∙ ap (first_field key) none }

  module _ (e : ℕ) (h : at < length line) (p : e ≡ place_of 32 line (at + 1)) where
    abbrev word : List ℕ
    word = take (e - (at + 1)) (drop (at + 1) line)

    next : words (drop at line) ≡ word ∷ words (drop e line)
    unfolding words
    next = s.spaced h ∙ rw p (part_at 32 line (at + 1) (omega arith))

    pub search_found : has_key key word ≡ true → FieldAt key line (Some at)
    unfolding any_field first_field
    search_found k =
        record {
          within = h;
          any = sym s.any ∙ rw (next, k) refl;
          first = sym s.first ∙ rw (next, k, ← p) refl;
        }

    pub search_next : has_key key word ≡ false → Search key line e
    unfolding any_field first_field
    search_next k =
        record {
          within = (onward_at 32 line (at + 1) e p).1;
          any = sym (rw (next, k) refl) ∙ s.any;
          first = sym (rw (next, k) refl) ∙ s.first;
          spaced = spaced_at line (at + 1) e (omega arith) p;
        }
