-- One product of two terms added to a coefficient, and how the sizes grow by it.
use Prim.Native.Nat.{ℕ, suc, zero, ◌+◌, ◌*◌}
use mathlib.Core.Path.{◌≡◌, refl, sym, ap, ◌∙◌}
use mathlib.Core.Bool.{Bool, true, false, cond}
use mathlib.Core.List.{[], ◌∷◌}
use native.Mathlib.Omega.{arith}
use lib.IntN.{ℤ, ◌+ℤ◌, ◌*ℤ◌}
use lib.Dec.{lit≤}
use lib.ListN.{get_or, set}
use lib.Seq.{set_out}
use mir.Val.{SFits, of_z}
use mir.Syntax.{w64}
use Rattle.exact.specs.Int.{◌⊕◌, ◌⊗◌, 0ℤ}
use Rattle.exact.specs.Size.{Size, Is}
use Rattle.exact.proofs.SizeLaws.{size_mul}
use Rattle.exact.proofs.Bits.{back, holds, holds_add, holds_mul, fits_add, fits_mul}
use Rattle.paper.specs.Limits.{coefficient_limit}
use Rattle.formula.specs.Polynomial.{Polynomial, monomial_count, cell, is_zero, add_at, unless_nought, product_slot}
use Rattle.rows.specs.Bounded.{Bounded, term_bound, term_added}
use Rattle.rows.proofs.CoefficientBits.{bits_zero, bits_nonzero}
use Rattle.rows.proofs.Bounds.{bounded_more, add_at_bounded}

pub add_at_set : (p : Polynomial) (k : ℕ) (x : ℤ) → add_at p k x ≡ set p k (cell p k ⊕ x)
unfolding add_at cell
add_at_set [] k x = refl
add_at_set (y ∷ p) zero x = refl
add_at_set (y ∷ p) (suc k) x = ap (λ (q : Polynomial). y ∷ q) (add_at_set p k x)

-- a coefficient 0 adds nothing, every other one its product
term_some : (c : ℤ) (i : ℕ) (x : ℤ) (k : ℕ) (r : Polynomial) → is_zero x ≡ false → term_added c i x k r ≡ add_at r (product_slot i k) (c ⊗ x)
unfolding term_added unless_nought
term_some c i x k r h = rw h

module _ {c x : ℤ} (sc : Size coefficient_limit c) (sx : Size coefficient_limit x) where
  product_held : Is term_bound (c ⊗ x) (back (back c *ℤ back x))
  unfolding coefficient_limit
  product_held = holds_mul (holds sc (lit≤ tt)) (holds sx (lit≤ tt)) (lit≤ tt)

  pub product_fits : SFits w64 (back c *ℤ back x)
  unfolding coefficient_limit
  product_fits = fits_mul (holds sc (lit≤ tt)) (holds sx (lit≤ tt)) (lit≤ tt)

  module _ {r : Polynomial} (i k : ℕ) where
    pub term_none : of_z w64 x ≡ 0 → r ≡ term_added c i x k r
    unfolding term_added unless_nought
    term_none h = rw (bits_zero sx h)

    pub term_bounded : {m : ℕ} → Bounded m r → Bounded (m + term_bound) (term_added c i x k r)
    unfolding term_added unless_nought coefficient_limit
    term_bounded {m} b = go (is_zero x)
      where
        go : (t : Bool) → Bounded (m + term_bound) (cond t r (add_at r (product_slot i k) (c ⊗ x)))
        go true = bounded_more b (omega arith)
        go false = add_at_bounded (product_slot i k) b (size_mul sc sx)

    -- where the product has no coefficient
    pub term_outside : Bounded (4899 * term_bound) r → (of_z w64 x ≡ 0 → ⊥) → product_slot i k ≡ monomial_count → r ≡ term_added c i x k r
    term_outside b h e =
        sym (set_out r (product_slot i k) (cell r (product_slot i k) ⊕ c ⊗ x) (omega (arith, b.long)))
        ∙ sym (add_at_set r (product_slot i k) (c ⊗ x)) ∙ sym (term_some c i x k r (bits_nonzero x h))

    module _ (b : Bounded (4899 * term_bound) r) {s : ℕ} (is-slot : s ≡ product_slot i k) where
      cell_held : Is (4899 * term_bound) (cell r s) (back (cell r s))
      cell_held = holds (b.each s) (lit≤ tt)

      pub sum_fits : SFits w64 (back (get_or r s 0ℤ) +ℤ back (back c *ℤ back x))
      unfolding cell
      sum_fits = fits_add cell_held product_held (lit≤ tt)

      pub term_put : (of_z w64 x ≡ 0 → ⊥) → set r s (back (back (get_or r s 0ℤ) +ℤ back (back c *ℤ back x))) ≡ term_added c i x k r
      unfolding cell
      term_put h =
          ap (set r s) (holds_add cell_held product_held (lit≤ tt)).is ∙ sym (add_at_set r s (c ⊗ x))
          ∙ ap (λ (t : ℕ). add_at r t (c ⊗ x)) is-slot ∙ sym (term_some c i x k r (bits_nonzero x h))
