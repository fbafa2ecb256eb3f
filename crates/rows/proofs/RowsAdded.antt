-- The loops over the terms of a row and over the rows: each turn is a step of the definition's own recursion.
use Prim.Native.Nat.{ℕ, suc, ◌+◌, ◌*◌, ◌-◌, ◌≤◌, ◌<◌}
use mathlib.Core.Path.{◌≡◌, refl, sym, ap, ◌∙◌}
use native.Mathlib.Omega.{arith}
use lib.IntN.{ℤ}
use lib.ListN.{get_or}
use mir.Syntax.{w64}
use mir.Val.{of_z}
use Rattle.exact.specs.Int.{0ℤ}
use Rattle.exact.specs.Size.{Size}
use Rattle.exact.proofs.Bits.{back}
use Rattle.paper.specs.Limits.{coefficient_limit}
use Rattle.formula.specs.Polynomial.{Polynomial, monomial_count, cell, zero_polynomial, unless_nought, add_row, add_rows, multiplied}
use Rattle.rows.specs.Bounded.{Bounded, RowAdded, term_bound, term_added}
use Rattle.rows.proofs.CoefficientBits.{coefficient_back, bits_zero, bits_nonzero}
use Rattle.rows.proofs.Bounds.{bounded_more, zero_bounded}
use Rattle.rows.proofs.TermAdded.{term_bounded}

-- ---- a row

-- r₀ with the first k terms of c · monomial i · q added
pub record RowTo (c : ℤ) (i : ℕ) (q r₀ : Polynomial) (k : ℕ) (r : Polynomial) : Type 0 where
  pub bounded : Bounded ((70 * i + k) * term_bound) r
  pub left : add_row c i q k (70 - k) r ≡ add_row c i q 0 70 r₀

row_step :
    (c : ℤ) (i : ℕ) (q : Polynomial) (k m : ℕ) (r : Polynomial)
    → add_row c i q k (suc m) r ≡ add_row c i q (k + 1) m (term_added c i (cell q k) k r)
unfolding add_row term_added
row_step c i q k m r = refl

row_none : (c : ℤ) (i : ℕ) (q : Polynomial) (k : ℕ) (r : Polynomial) → add_row c i q k 0 r ≡ r
unfolding add_row
row_none c i q k r = refl

module _ {c : ℤ} {i : ℕ} {q r₀ : Polynomial} where
  pub row_starts : Bounded (70 * i * term_bound) r₀ → RowTo c i q r₀ 0 r₀
  row_starts b = record { bounded = bounded_more b (omega arith); left = refl }

  pub row_next :
      {k : ℕ} {r after : Polynomial} → RowTo c i q r₀ k r → k < 70 → Size coefficient_limit c → Bounded coefficient_limit q
      → after ≡ term_added c i (back (get_or q k 0ℤ)) k r → RowTo c i q r₀ (k + 1) after
  unfolding cell
  row_next {k} {r} {after} t l sc b e =
      let is : after ≡ term_added c i (cell q k) k r = e ∙ ap (λ (x : ℤ). term_added c i x k r) (coefficient_back (b.each k)) in
      record {
        bounded = rw is (bounded_more (term_bounded sc (b.each k) i k t.bounded) (omega arith));
        left = rw is (sym (row_step c i q k (70 - (k + 1)) r) ∙ ap (λ (m : ℕ). add_row c i q k m r) (omega arith) ∙ t.left);
      }

  pub row_skipped : Size coefficient_limit c → Bounded (70 * i * term_bound) r₀ → of_z w64 c ≡ 0 → RowAdded c i q r₀ r₀
  unfolding unless_nought
  row_skipped s b h = record { is = rw (bits_zero s h); bounded = bounded_more b (omega arith) }

pub row_ends :
    {c : ℤ} {i : ℕ} {q r₀ : Polynomial} {k : ℕ} {r : Polynomial}
    → Size coefficient_limit c → (of_z w64 c ≡ 0 → ⊥) → RowTo (back c) i q r₀ k r → k ≤ 70 → 70 ≤ k → RowAdded c i q r₀ r
unfolding unless_nought monomial_count
row_ends {c} {i} {q} {r₀} {k} {r} s h t u l =
    record {
      is =
          rw (bits_nonzero c h)
          (sym (row_none (back c) i q k r) ∙ ap (λ (m : ℕ). add_row (back c) i q k m r) (omega arith) ∙ t.left
          ∙ ap (λ (x : ℤ). add_row x i q 0 70 r₀) (coefficient_back s));
      bounded = bounded_more t.bounded (omega arith);
    }

-- ---- the rows

-- the first i rows of p · q
pub record RowsTo (p q : Polynomial) (i : ℕ) (r : Polynomial) : Type 0 where
  pub bounded : Bounded (70 * i * term_bound) r
  pub left : add_rows p q i (70 - i) r ≡ multiplied p q

rows_step :
    (p q : Polynomial) (i m : ℕ) (r : Polynomial)
    → add_rows p q i (suc m) r ≡ add_rows p q (i + 1) m (unless_nought (cell p i) (add_row (cell p i) i q 0 monomial_count r) r)
unfolding add_rows
rows_step p q i m r = refl

rows_none : (p q : Polynomial) (i : ℕ) (r : Polynomial) → add_rows p q i 0 r ≡ r
unfolding add_rows
rows_none p q i r = refl

module _ {p q : Polynomial} where
  pub rows_start : {r : Polynomial} → r ≡ zero_polynomial → RowsTo p q 0 r
  unfolding multiplied monomial_count
  rows_start e = record { bounded = rw e (zero_bounded 0); left = rw e }

  pub rows_next :
      {i : ℕ} {r after : Polynomial} → RowsTo p q i r → i < 70 → Bounded coefficient_limit p → RowAdded (back (get_or p i 0ℤ)) i q r after
      → RowsTo p q (i + 1) after
  unfolding cell
  rows_next {i} {r} {after} t l b e =
      let is : after ≡ unless_nought (cell p i) (add_row (cell p i) i q 0 monomial_count r) r =
      e.is ∙ ap (λ (x : ℤ). unless_nought x (add_row x i q 0 monomial_count r) r) (coefficient_back (b.each i)) in
      record {
        bounded = e.bounded;
        left =
            ap (add_rows p q (i + 1) (70 - (i + 1))) is ∙ sym (rows_step p q i (70 - (i + 1)) r)
            ∙ ap (λ (m : ℕ). add_rows p q i m r) (omega arith) ∙ t.left;
      }

  pub rows_end : {i : ℕ} {r : Polynomial} → RowsTo p q i r → i ≤ 70 → 70 ≤ i → (r ≡ multiplied p q) × Bounded (4900 * term_bound) r
  rows_end {i} {r} t u l =
      (sym (rows_none p q i r) ∙ ap (λ (m : ℕ). add_rows p q i m r) (omega arith) ∙ t.left, bounded_more t.bounded (omega arith))
