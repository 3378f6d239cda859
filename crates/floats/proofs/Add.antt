-- The sum of two floats, rounded to either format: it is the same in either order, what is bad stays bad whatever is added,
-- and one number added to two values keeps their order, as long as the smaller sum is good. All values are meant, as in `Order`. Assumes nothing.
use mathlib.Core.Path.{◌≡◌, refl, ◌∙◌, ap}
use mathlib.Core.Logic.{⊎_elim}
use mathlib.Core.Bool.{true, false, true≢false, false≢true}
use Prim.Native.Nat.{◌*◌}
use native.Mathlib.Nat.{mul_comm}
use lib.Ieee.{Float, nan, inf, fin, Format, up, down, sum, add, lt, le}
use lib.Ieee.Fits.{down_pos}
use Rattle.floats.specs.Values.{Good, Bad}
use Rattle.floats.proofs.Finite.{finite_at_most}
use Rattle.floats.proofs.Order.{le_top, above_top}
use Rattle.floats.proofs.Sum.{sum_mono, sum_comm}
use Rattle.floats.proofs.Good.{good_or_bad, good_not_bad, good_number, good_up, good_le_refl, minus_infinity_bad}

pub add_comm : (f : Format) (x y : Float) → add f x y ≡ add f y x
unfolding add
add_comm f nan nan = refl
add_comm f nan (inf t) = refl
add_comm f nan (fin t n d) = refl
add_comm f (inf s) nan = refl
add_comm f (inf true) (inf true) = refl
add_comm f (inf true) (inf false) = refl
add_comm f (inf false) (inf true) = refl
add_comm f (inf false) (inf false) = refl
add_comm f (inf s) (fin t n d) = refl
add_comm f (fin s m e) nan = refl
add_comm f (fin s m e) (inf t) = refl
add_comm f (fin s m e) (fin t n d) =
    sum_comm f s (m * up e * down d) t (n * up d * down e) (down e * down d) ∙ ap (λ c. sum f t (n * up d * down e) s (m * up e * down d) c) (mul_comm (down e) (down d))

-- ---- a bad summand
pub add_bad_left : (f : Format) (x c : Float) → Bad x → Bad (add f x c)
unfolding add lt
add_bad_left f nan c b = refl
add_bad_left f (inf true) nan b = refl
add_bad_left f (inf true) (inf true) b = refl
add_bad_left f (inf true) (inf false) b = refl
add_bad_left f (inf true) (fin t n d) b = refl
add_bad_left f (inf false) c b = absurd (true≢false b)
add_bad_left f (fin s m e) c b = absurd (true≢false b)

pub add_bad_right : (f : Format) (x c : Float) → Bad c → Bad (add f x c)
add_bad_right f x c b = rw (add_comm f x c) (add_bad_left f c x b)

pub good_left : (f : Format) (x c : Float) → Good (add f x c) → Good x
good_left f x c g = ⊎_elim (λ h. h) (λ b. absurd (good_not_bad (add f x c) g (add_bad_left f x c b))) (good_or_bad x)

pub good_right : (f : Format) (x c : Float) → Good (add f x c) → Good c
good_right f x c g = ⊎_elim (λ h. h) (λ b. absurd (good_not_bad (add f x c) g (add_bad_right f x c b))) (good_or_bad c)

-- ---- one number added to two values in order
top_add : (f : Format) (c : Float) → Good c → add f (inf false) c ≡ inf false
unfolding add lt
top_add f nan g = absurd (false≢true g)
top_add f (inf true) g = absurd (false≢true g)
top_add f (inf false) g = refl
top_add f (fin t n d) g = refl

pub add_mono : (f : Format) (x y c : Float) → le x y ≡ true → Good (add f x c) → le (add f x c) (add f y c) ≡ true
unfolding le lt add
add_mono f nan y c h g = absurd (false≢true h)
add_mono f (inf true) y c h g = absurd (good_not_bad (add f (inf true) c) g (add_bad_left f (inf true) c minus_infinity_bad))
add_mono f (inf false) y c h g = rw (above_top y h) (good_le_refl (add f (inf false) c) g)
add_mono f (fin s m e) nan c h g = absurd (false≢true h)
add_mono f (fin s m e) (inf true) c h g = absurd (false≢true h)
add_mono f (fin s m e) (inf false) c h g = rw (top_add f c (good_right f (fin s m e) c g)) (le_top (add f (fin s m e) c) (good_number (add f (fin s m e) c) g))
add_mono f (fin s m e) (fin t n d) nan h g = absurd (false≢true g)
add_mono f (fin s m e) (fin t n d) (inf u) h g = good_le_refl (inf u) g
add_mono f (fin s m e) (fin t n d) (fin u l k) h g =
    sum_mono f s (m * up e) (down e) t (n * up d) (down d) u (l * up k) (down k) (down_pos e) (down_pos d) (down_pos k) (finite_at_most s m e t n d h)

pub add_mono_good : (f : Format) (x y c : Float) → le x y ≡ true → Good (add f x c) → Good (add f y c)
add_mono_good f x y c h g = good_up (add f x c) (add f y c) g (add_mono f x y c h g)

-- where the larger sum is bad, so is the smaller
pub add_mono_bad : (f : Format) (x y c : Float) → le x y ≡ true → Bad (add f y c) → Bad (add f x c)
add_mono_bad f x y c h b = ⊎_elim (λ g. absurd (good_not_bad (add f y c) (add_mono_good f x y c h g) b)) (λ k. k) (good_or_bad (add f x c))

-- ---- the same with the number on the left
pub add_mono_left : (f : Format) (c x y : Float) → le x y ≡ true → Good (add f c x) → le (add f c x) (add f c y) ≡ true
add_mono_left f c x y h g = rw (add_comm f c x, add_comm f c y) (add_mono f x y c h (rw (add_comm f c x) at g))
