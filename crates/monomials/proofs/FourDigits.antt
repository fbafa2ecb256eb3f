-- Four exponents with small entries are known by their weight, and weights add as the exponents do.
use Prim.Native.Nat.{ℕ, ◌+◌, ◌*◌, ◌≤◌, ◌<◌}
use mathlib.Core.Path.{◌≡◌, refl, sym, ap}
use mathlib.Core.Bool.{Bool, true, false, ◌&&◌, true≢false}
use mathlib.Core.List.{List, [], ◌∷◌}
use native.Mathlib.Nat.{le_trans}
use native.Mathlib.Omega.{arith}
use lib.Dec.{leb}
use borrow.Author.Tests.{eq-eqb, leb-true}
use Rattle.exact.proofs.AndTests.{and_left, and_right, and-true}
use Rattle.formula.specs.Polynomial.{sum_exponents, same_exponents}
use Rattle.formula.proofs.Slots.{same_true}
use Rattle.monomials.specs.Weight.{weight}

-- four exponents, each at most m
pub data Four (m : ℕ) : List ℕ → Type 0 where
  four : {a b c d : ℕ} → a ≤ m → b ≤ m → c ≤ m → d ≤ m → Four m (a ∷ b ∷ c ∷ d ∷ [])

unfoldable pub four_within : ℕ → List ℕ → Bool
four_within m [] = false
four_within m (a ∷ []) = false
four_within m (a ∷ b ∷ []) = false
four_within m (a ∷ b ∷ c ∷ []) = false
four_within m (a ∷ b ∷ c ∷ d ∷ []) = leb a m && (leb b m && (leb c m && leb d m))
four_within m (a ∷ b ∷ c ∷ d ∷ e ∷ es) = false

pub within_four : (m : ℕ) (es : List ℕ) → four_within m es ≡ true → Four m es
unfolding four_within
within_four m [] h = absurd (true≢false (sym h))
within_four m (a ∷ []) h = absurd (true≢false (sym h))
within_four m (a ∷ b ∷ []) h = absurd (true≢false (sym h))
within_four m (a ∷ b ∷ c ∷ []) h = absurd (true≢false (sym h))
within_four m (a ∷ b ∷ c ∷ d ∷ []) h =
    let later = and_right (leb a m) (leb b m && (leb c m && leb d m)) h in
    let last = and_right (leb b m) (leb c m && leb d m) later in
    four (leb-true a m (and_left (leb a m) (leb b m && (leb c m && leb d m)) h))
    (leb-true b m (and_left (leb b m) (leb c m && leb d m) later))
    (leb-true c m (and_left (leb c m) (leb d m) last))
    (leb-true d m (and_right (leb c m) (leb d m) last))
within_four m (a ∷ b ∷ c ∷ d ∷ e ∷ es) h = absurd (true≢false (sym h))

pub four_more : {m n : ℕ} {es : List ℕ} → m ≤ n → Four m es → Four n es
four_more l (four h i j k) = four (le_trans h l) (le_trans i l) (le_trans j l) (le_trans k l)

pub sum_four : {m : ℕ} {ds es : List ℕ} → Four m ds → Four m es → Four (m + m) (sum_exponents ds es)
unfolding sum_exponents
sum_four (four h i j k) (four p q r s) = four (le_add h p) (le_add i q) (le_add j r) (le_add k s)
  where
    le_add : {m n a b : ℕ} → a ≤ m → b ≤ n → a + b ≤ m + n
    le_add h i = omega arith

pub sum_weight : {m n : ℕ} {ds es : List ℕ} → Four m ds → Four n es → weight (sum_exponents ds es) ≡ weight ds + weight es
unfolding sum_exponents weight
sum_weight (four h i j k) (four p q r s) = omega arith

pub weight_small : {es : List ℕ} → Four 8 es → weight es < 65536
unfolding weight
weight_small (four h i j k) = omega arith

-- ---- exponents under 16 are the digits of their weight

digits_same :
    (a b c d e f g h : ℕ) → a ≤ 15 → b ≤ 15 → c ≤ 15 → d ≤ 15 → e ≤ 15 → f ≤ 15 → g ≤ 15 → h ≤ 15
    → a * 4096 + b * 256 + c * 16 + d ≡ e * 4096 + f * 256 + g * 16 + h → (a ≡ e) × (b ≡ f) × (c ≡ g) × (d ≡ h)
digits_same a b c d e f g h i j k l m n o p q = (omega arith, omega arith, omega arith, omega arith)

pub weight_same : {ds es : List ℕ} → Four 15 ds → Four 15 es → weight ds ≡ weight es → same_exponents ds es ≡ true
unfolding weight same_exponents
weight_same (four {a} {b} {c} {d} h i j k) (four {a = e} {b = f} {c = g} {d = l} p q r s) w =
    let same = digits_same a b c d e f g l h i j k p q r s w in
    and-true (eq-eqb a e same.0) (and-true (eq-eqb b f same.1) (and-true (eq-eqb c g same.2) (and-true (eq-eqb d l same.3) refl)))

-- other weights, other exponents
pub weight_other : (ds es : List ℕ) → (weight ds ≡ weight es → ⊥) → same_exponents ds es ≡ false
weight_other ds es h = go (same_exponents ds es) refl
  where
    go : (b : Bool) → same_exponents ds es ≡ b → b ≡ false
    go false e = refl
    go true e = absurd (h (ap weight (same_true ds es e)))
