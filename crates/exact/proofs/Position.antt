-- Places in a list and in the list without element p: `skip p` and `position p` undo each other, and the list's length and elements.
use Prim.Native.Nat.{ℕ, suc, zero, ◌≤◌, ◌<◌}
use native.Mathlib.Omega.{arith}
use mathlib.Core.Path.{◌≡◌, refl, ap}
use mathlib.Core.Logic.{◌≢◌}
use mathlib.Core.List.{List, [], ◌∷◌}
use lib.ListN.{length, get_or}
use Rattle.exact.specs.Crossed.{remove}
use Rattle.exact.specs.Minors.{position, skip}

pub position_skip : (p i : ℕ) → position p (skip p i) ≡ i
unfolding position skip
position_skip zero i = refl
position_skip (suc p) zero = refl
position_skip (suc p) (suc i) = ap suc (position_skip p i)

pub skip_position : (p q : ℕ) → p ≢ q → skip p (position p q) ≡ q
unfolding position skip
skip_position zero zero h = absurd (h refl)
skip_position zero (suc q) h = refl
skip_position (suc p) zero h = refl
skip_position (suc p) (suc q) h = ap suc (skip_position p q (λ e. h (ap suc e)))

pub skip_below : (p i : ℕ) → i < p → skip p i ≡ i
unfolding skip
skip_below zero i h = absurd (omega arith)
skip_below (suc p) zero h = refl
skip_below (suc p) (suc i) h = ap suc (skip_below p i (omega arith))

pub skip_above : (p i : ℕ) → p ≤ i → skip p i ≡ suc i
unfolding skip
skip_above zero i h = refl
skip_above (suc p) zero h = absurd (omega arith)
skip_above (suc p) (suc i) h = ap suc (skip_above p i (omega arith))

pub skip_ne : (p i : ℕ) → p ≢ skip p i
unfolding skip
skip_ne zero i = λ e. omega arith
skip_ne (suc p) zero = λ e. omega arith
skip_ne (suc p) (suc i) = λ e. skip_ne p i (omega arith)

pub skip_le : (n p i : ℕ) → p ≤ n → i < n → skip p i ≤ n
unfolding skip
skip_le n zero i lp h = h
skip_le n (suc p) zero lp h = omega arith
skip_le zero (suc p) (suc i) lp h = absurd (omega arith)
skip_le (suc n) (suc p) (suc i) lp h = omega (arith, skip_le n p i (omega arith) (omega arith))

pub position_lt : (n p q : ℕ) → p ≤ n → q ≤ n → p ≢ q → position p q < n
unfolding position
position_lt n zero zero lp lq h = absurd (h refl)
position_lt n zero (suc q) lp lq h = lq
position_lt n (suc p) zero lp lq h = omega arith
position_lt zero (suc p) (suc q) lp lq h = absurd (omega arith)
position_lt (suc n) (suc p) (suc q) lp lq h =
    omega (arith, position_lt n p q (omega arith) (omega arith) (λ e. h (ap suc e)))

module _ {A : Type 0} where
  pub length_remove : (p : ℕ) (xs : List A) → p < length xs → suc (length (remove p xs)) ≡ length xs
  unfolding remove
  length_remove p [] h = absurd (omega arith)
  length_remove zero (x ∷ xs) h = refl
  length_remove (suc p) (x ∷ xs) h = ap suc (length_remove p xs (omega arith))

  pub get_d_remove : (p i : ℕ) (xs : List A) (d : A) → get_or (remove p xs) i d ≡ get_or xs (skip p i) d
  unfolding remove skip
  get_d_remove p i [] d = refl
  get_d_remove zero i (x ∷ xs) d = refl
  get_d_remove (suc p) zero (x ∷ xs) d = refl
  get_d_remove (suc p) (suc i) (x ∷ xs) d = get_d_remove p i xs d
