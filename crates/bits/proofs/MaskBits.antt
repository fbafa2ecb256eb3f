-- Masks as the bits of a number: `&` decides whether one mask holds another, the trailing zeros are the lowest axis. Both over
-- any number of axes.
use mathlib.Core.Path.{◌≡◌, refl, sym, ap, ap₂, ◌∙◌}
use mathlib.Core.Bool.{Bool, true, false, ◌&&◌}
use mathlib.Core.List.{List, ◌∷◌}
use Prim.Native.Nat.{ℕ, suc, zero, ◌+◌, ◌*◌, ◌/◌, ◌%◌, ◌^◌, ◌≤◌, ◌<◌, min}
use native.Mathlib.Omega.{arith}
use native.Mathlib.Nat.{pow-suc}
use lib.Dec.{leb, eqb}
use lib.Bits.{bit_and, and_step, and_zero_l}
use lib.Count.{count_trailing_zeros, under}
use borrow.Author.Tests.{leb-true, leb-false, eqb-true, eqb-false, eq-eqb, ne_eqb}
use Rattle.curves.specs.Grid.{holds, axes_from}

-- ---- one mask holds another

-- two numbers of one bit more are equal by their bit and their rest
one_bit : (x y a b : ℕ) → a < 2 → b < 2 → eqb (x * 2 + min a b) (y * 2 + a) ≡ (leb a b && eqb x y)
one_bit x y a b p q = go (leb a b) refl (eqb x y) refl
  where
    go : (s : Bool) → leb a b ≡ s → (t : Bool) → eqb x y ≡ t → eqb (x * 2 + min a b) (y * 2 + a) ≡ (s && t)
    go false e t f = ne_eqb (x * 2 + min a b) (y * 2 + a) (λ h. omega (arith, leb-false a b e))
    go true e true f = eq-eqb (x * 2 + min a b) (y * 2 + a) (omega (arith, leb-true a b e, eqb-true x y f))
    go true e false f = ne_eqb (x * 2 + min a b) (y * 2 + a) (λ h. eqb-false x y f (omega (arith, leb-true a b e)))

pub holds_and : (n m l : ℕ) → l < 2 ^ n → eqb (bit_and l m) l ≡ holds n m l
unfolding holds
holds_and zero m l h =
    let e : l ≡ 0 = omega arith in
    eq-eqb (bit_and l m) l (ap (λ (x : ℕ). bit_and x m) e ∙ and_zero_l m ∙ sym e)
holds_and (suc n) m l h =
    ap₂ eqb (and_step l m) (omega arith)
    ∙ one_bit (bit_and (l / 2) (m / 2)) (l / 2) (l % 2) (m % 2) (omega arith) (omega arith)
    ∙ ap (λ (t : Bool). leb (l % 2) (m % 2) && t) (holds_and n (m / 2) (l / 2) (omega (arith, pow-suc 2 n)))

-- ---- the lowest axis

pub lowest_axis : (d k m a : ℕ) (rest : List ℕ) (w : ℕ) → d ≤ w → axes_from d k m ≡ a ∷ rest → k + count_trailing_zeros w m ≡ a
unfolding axes_from count_trailing_zeros
lowest_axis zero k m a rest w l h = let z : ◌≡◌ {A = ℕ} 0 1 = cc in absurd (omega arith)
lowest_axis (suc d) k m a rest zero l h = absurd (omega arith)
lowest_axis (suc d) k m a rest (suc w) l h = go (lowest_axis d (suc k) (m / 2) a rest w (omega arith)) (m % 2) refl
  where
    go : (axes_from d (suc k) (m / 2) ≡ a ∷ rest → suc k + count_trailing_zeros w (m / 2) ≡ a) → (r : ℕ) → m % 2 ≡ r
        → k + under (m % 2) (count_trailing_zeros w (m / 2)) ≡ a
    go later zero e = rw e (omega (arith, later (rw e at h)))
    go later (suc zero) e = let first : k ∷ axes_from d (suc k) (m / 2) ≡ a ∷ rest = rw e at h in let same : k ≡ a = cc in rw e (omega arith)
    go later (suc (suc r)) e = absurd (omega arith)
