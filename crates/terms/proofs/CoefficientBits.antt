-- The test of a coefficient on its 32 bits as an unsigned number: 0 is 0, and with the limit added modulo 2 ^ 32 the others that are not too large in
-- size are at most twice the limit.
use mathlib.Core.Path.{◌≡◌, refl, ◌∙◌}
use mathlib.Core.Logic.{◌≢◌}
use mathlib.Core.Bool.{Bool, true, false, not, ◌&&◌}
use mathlib.Core.List.{List}
use Prim.Native.Nat.{ℕ, ◌+◌, ◌*◌, ◌-◌, ◌%◌, ◌≤◌, ◌<◌}
use native.Mathlib.Omega.{arith}
use lib.Dec.{leb, ltb, eqb}
use lib.IntN.{nat_abs}
use borrow.Author.Tests.{ltb-true, ltb-false, lt-ltb, le-ltb, ne_eqb}
use Rattle.paper.specs.Bytes.{double_word, signed, signed_double_word}
use Rattle.paper.specs.Limits.{coefficient_limit}
use Rattle.paper.specs.Job.{coefficient_of}
use Rattle.terms.specs.Carried.{coefficient_ok}
use Rattle.terms.proofs.SameTests.{leb_same}

-- the size of a number of 32 bits read as signed
low_size : (u : ℕ) → u < 2147483648 → nat_abs (signed 2147483648 u) ≡ u
unfolding signed
low_size u h = rw (lt-ltb u 2147483648 h)

high_size : (u : ℕ) → 2147483648 ≤ u → u < 4294967296 → nat_abs (signed 2147483648 u) ≡ 4294967296 - u
unfolding signed
high_size u h l = rw (le-ltb u 2147483648 h) (omega arith)

module _ (b : List ℕ) (i : ℕ) {u : ℕ} (e : u ≡ double_word b (8 * i)) where
  size_is : nat_abs (coefficient_of b i) ≡ nat_abs (signed 2147483648 u)
  unfolding coefficient_of signed_double_word
  size_is = rw e

  pub coefficient_zero : u ≡ 0 → false ≡ coefficient_ok b i
  unfolding coefficient_ok
  coefficient_zero h = rw (size_is ∙ low_size u (omega arith) ∙ h)

  pub coefficient_range : u ≢ 0 → u < 4294967296 → leb ((u + 1048576) % 4294967296) (2 * 1048576) ≡ coefficient_ok b i
  unfolding coefficient_ok coefficient_limit
  coefficient_range h l = go (ltb u 2147483648) refl
    where
      go : (t : Bool) → ltb u 2147483648 ≡ t
          → leb ((u + 1048576) % 4294967296) (2 * 1048576) ≡ (not (eqb (nat_abs (coefficient_of b i)) 0) && leb (nat_abs (coefficient_of b i)) 1048576)
      go true f =
          rw (size_is ∙ low_size u (ltb-true _ _ f), ne_eqb u 0 h)
          (leb_same ((u + 1048576) % 4294967296) (2 * 1048576) u 1048576 (λ k. omega (arith, ltb-true u 2147483648 f)) (λ k. omega arith))
      go false f =
          rw (size_is ∙ high_size u (ltb-false _ _ f) l, ne_eqb (4294967296 - u) 0 (λ z. omega arith))
          (leb_same ((u + 1048576) % 4294967296) (2 * 1048576) (4294967296 - u) 1048576
          (λ k. omega (arith, ltb-false u 2147483648 f)) (λ k. omega (arith, ltb-false u 2147483648 f)))
