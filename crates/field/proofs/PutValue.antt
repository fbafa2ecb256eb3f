-- The value of one polynomial, put into a cell: the sum and the value are read from their bits, and fit them.
use mathlib.Core.Path.{◌≡◌, refl, sym, ap, ap₂, ◌∙◌}
use mathlib.Core.Bool.{Bool, true, false, false≢true, true≢false}
use mathlib.Core.List.{List}
use Prim.Native.Nat.{ℕ}
use lib.IntN.{ℤ}
use lib.ListN.{set}
use Rattle.exact.specs.Size.{Size, Is}
use Rattle.exact.proofs.Bits.{back, back_is, back_size, holds_call, is_size}
use Rattle.curves.specs.Grid.{Vertex}
use Rattle.paper.specs.Job.{bias, body}
use Rattle.paper.specs.Values.{raw_sum, readable_sum, value_of}
use Rattle.paper.proofs.BiasedValues.{value_size}
use Rattle.polynomial.specs.Sums.{sum_limit}
use Rattle.polynomial.proofs.Limits.{sum_word}
use Rattle.field.specs.Put.{ValuePut}

-- a sum, passed on as its bits
pub sum_passed : (b : List ℕ) (v : Vertex) {r : ℤ} → Is sum_limit (raw_sum b v) r → Size sum_limit (back r)
sum_passed b v i = back_size (is_size i) sum_word

module _ (s : List ℕ) (k : ℕ) (v : Vertex) {b : List ℕ} {r : ℤ} (e : b ≡ body s k) (i : Is sum_limit (raw_sum b v) r) (n at : ℕ) (before : List ℤ) {t : Bool}
    (h : t ≡ readable_sum n (back r)) where
  sum_is : back r ≡ raw_sum (body s k) v
  sum_is = (holds_call i sum_word).is ∙ ap (λ (c : List ℕ). raw_sum c v) e

  test_is : t ≡ readable_sum n (raw_sum (body s k) v)
  test_is = h ∙ ap (readable_sum n) sum_is

  pub value_refused : t ≡ false → ValuePut s n v k at before t before
  value_refused f = record { test = test_is; put = λ z. absurd (false≢true (sym f ∙ z)); kept = λ z. refl }

  pub value_put : {b : ℕ} {z : ℤ} → t ≡ true → z ≡ value_of b (back r) → b ≡ bias s → ValuePut s n v k at before t (set before at (back z))
  value_put {b} {z} f g d =
      let is : z ≡ value_of (bias s) (raw_sum (body s k) v) = g ∙ ap₂ value_of d sum_is in
      let small : Size sum_limit z = rw g (value_size b (back r) (back_size (is_size i) sum_word)) in
      record { test = test_is; put = λ u. ap (set before at) (back_is small sum_word ∙ is); kept = λ u. absurd (true≢false (sym f ∙ u)) }
