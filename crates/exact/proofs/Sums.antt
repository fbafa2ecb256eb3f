-- Sums `sum_to m f`: equal summands, linear, a unit vector picks one summand. A sum that is 0 with a positive summand has a negative one.
use Prim.Native.Nat.{ℕ, suc, zero, ◌+◌, ◌≤◌, ◌<◌}
use native.Mathlib.Omega.{arith}
use mathlib.Core.Path.{◌≡◌, refl, sym, ap, ap₂, ◌∙◌}
use mathlib.Core.Logic.{◌⊎◌, inl, inr}
use lib.IntN.{ℤ, pos, negsuc, pos-+ℤ-pos}
use lib.ListN.{get_or}
use Rattle.exact.specs.Int.{◌⊕◌, ◌⊖◌, ◌⊗◌, neg, 0ℤ}
use Rattle.exact.specs.Sign.{negative, positive, sign}
use Rattle.exact.specs.Crossed.{unit_column}
use Rattle.exact.specs.Minors.{sum_to}
use Rattle.exact.proofs.Ring.{add-zero, zero-add, mul-zero, mul-one, neg_zero, neg_sum, ⊕_is, neg_neg}
use Rattle.exact.proofs.SignLaws.{opposite, sign_neg}
use Rattle.exact.proofs.Identities.{ring}

pub sum_to_ext : (m : ℕ) (f g : ℕ → ℤ) → ((i : ℕ) → i < m → f i ≡ g i) → sum_to m f ≡ sum_to m g
unfolding sum_to
sum_to_ext zero f g k = refl
sum_to_ext (suc m) f g k =
    ap₂ (λ x y. x ⊕ y) (k zero (omega arith)) (sum_to_ext m (λ i. f (suc i)) (λ i. g (suc i)) (λ i h. k (suc i) (omega arith)))

pub sum_to_zero : (m : ℕ) (f : ℕ → ℤ) → ((i : ℕ) → i < m → f i ≡ 0ℤ) → sum_to m f ≡ 0ℤ
unfolding sum_to
sum_to_zero zero f k = refl
sum_to_zero (suc m) f k =
    ap₂ (λ x y. x ⊕ y) (k zero (omega arith)) (sum_to_zero m (λ i. f (suc i)) (λ i h. k (suc i) (omega arith))) ∙ zero-add 0ℤ

pub sum_to_neg : (m : ℕ) (f : ℕ → ℤ) → sum_to m (λ i. neg (f i)) ≡ neg (sum_to m f)
unfolding sum_to
sum_to_neg zero f = sym neg_zero
sum_to_neg (suc m) f = ap (λ x. neg (f zero) ⊕ x) (sum_to_neg m (λ i. f (suc i))) ∙ sym (neg_sum _ _)

pub sum_to_step : (m : ℕ) (a : ℤ) (f g : ℕ → ℤ) → sum_to m (λ i. a ⊗ f i ⊖ g i) ≡ a ⊗ sum_to m f ⊖ sum_to m g
unfolding sum_to
sum_to_step zero a f g = simp ring
sum_to_step (suc m) a f g =
    ap (λ x. a ⊗ f zero ⊖ g zero ⊕ x) (sum_to_step m a (λ i. f (suc i)) (λ i. g (suc i))) ∙ simp ring

pub sum_to_last : (m : ℕ) (f : ℕ → ℤ) → sum_to (suc m) f ≡ sum_to m f ⊕ f m
unfolding sum_to
sum_to_last zero f = add-zero (f zero) ∙ sym (zero-add (f zero))
sum_to_last (suc m) f = ap (λ x. f zero ⊕ x) (sum_to_last m (λ i. f (suc i))) ∙ simp ring

-- the sum with the unit columns' entries k is summand k
pub sum_to_unit : (m : ℕ) (a : ℕ → ℤ) (k : ℕ) → k < m → sum_to m (λ j. a j ⊗ get_or (unit_column j) k 0ℤ) ≡ a k
unfolding sum_to unit_column
sum_to_unit zero a k h = absurd (omega arith)
sum_to_unit (suc m) a zero h =
    ap₂ (λ x y. x ⊕ y) (mul-one (a zero)) (sum_to_zero m (λ j. a (suc j) ⊗ 0ℤ) (λ j h. mul-zero (a (suc j)))) ∙ add-zero (a zero)
sum_to_unit (suc m) a (suc k) h =
    ap₂ (λ x y. x ⊕ y) (mul-zero (a zero)) (sum_to_unit m (λ j. a (suc j)) k (omega arith)) ∙ zero-add (a (suc k))

-- ---- signs
-- the size of a number that is not negative
amount : ℤ → ℕ
amount (pos k) = k
amount (negsuc k) = zero

sign_negsuc : (k : ℕ) → sign (negsuc k) ≡ negative
unfolding sign
sign_negsuc k = refl

-- a positive number is no 0
amount_positive : (x : ℤ) → sign x ≡ positive → 0 < amount x
unfolding sign amount
amount_positive (pos zero) e = let z : ◌≡◌ {A = ℕ} 0 1 = cc in absurd (omega arith)
amount_positive (pos (suc k)) e = omega arith
amount_positive (negsuc k) e = let z : ◌≡◌ {A = ℕ} 0 1 = cc in absurd (omega arith)

-- a summand is negative
abbrev HasNegative : ℕ → (ℕ → ℤ) → Type 0
HasNegative m f = (q : ℕ) × (q < m) × (sign (f q) ≡ negative)

-- the sum is not negative, and at least each summand
record Covers (m : ℕ) (f : ℕ → ℤ) : Type 0 where
  total : ℕ
  is_sum : sum_to m f ≡ pos total
  at_least : (p : ℕ) → p < m → amount (f p) ≤ total

sum_to_cases : (m : ℕ) (f : ℕ → ℤ) → HasNegative m f ⊎ Covers m f
unfolding sum_to amount
sum_to_cases zero f = inr (record { total = zero; is_sum = refl; at_least = λ p h. absurd (omega arith) })
sum_to_cases (suc m) f = first (f zero) refl (sum_to_cases m (λ i. f (suc i)))
  where
    bound : (a s : ℕ) → f zero ≡ pos a → ((p : ℕ) → p < m → amount (f (suc p)) ≤ s) → (p : ℕ) → p < suc m → amount (f p) ≤ a + s
    bound a s e k zero h = rw e (omega arith)
    bound a s e k (suc p) h = omega (arith, k p (omega arith))

    first : (x : ℤ) → f zero ≡ x → HasNegative m (λ i. f (suc i)) ⊎ Covers m (λ i. f (suc i)) → HasNegative (suc m) f ⊎ Covers (suc m) f
    first (negsuc a) e r = inl (zero, omega arith, ap sign e ∙ sign_negsuc a)
    first (pos a) e (inl r) = inl (suc r.0, omega (arith, r.1), r.2)
    first (pos a) e (inr r) =
        inr (record {
          total = a + r.total;
          is_sum = ap₂ (λ x y. x ⊕ y) e r.is_sum ∙ ⊕_is (pos a) (pos r.total) ∙ pos-+ℤ-pos a r.total;
          at_least = bound a r.total e r.at_least;
        })

pub sum_to_negative_of_positive :
    (m : ℕ) (f : ℕ → ℤ) → sum_to m f ≡ 0ℤ → (p : ℕ) → p < m → sign (f p) ≡ positive → (q : ℕ) × (q < m) × (sign (f q) ≡ negative)
sum_to_negative_of_positive m f z p h e = go (sum_to_cases m f)
  where
    go : HasNegative m f ⊎ Covers m f → HasNegative m f
    go (inl r) = r
    go (inr r) =
        let t : pos r.total ≡ pos 0 = sym r.is_sum ∙ z in
        let w : r.total ≡ 0 = cc in
        absurd (omega (arith, r.at_least p h, amount_positive (f p) e))

pub sum_to_positive_of_negative :
    (m : ℕ) (f : ℕ → ℤ) → sum_to m f ≡ 0ℤ → (p : ℕ) → p < m → sign (f p) ≡ negative → (q : ℕ) × (q < m) × (sign (f q) ≡ positive)
unfolding opposite
sum_to_positive_of_negative m f z p h e =
    let r = sum_to_negative_of_positive m (λ i. neg (f i)) (sum_to_neg m f ∙ ap neg z ∙ neg_zero) p h (sign_neg (f p) ∙ ap opposite e) in
    (r.0, r.1, ap sign (sym (neg_neg (f r.0))) ∙ sign_neg (neg (f r.0)) ∙ ap opposite r.2)
