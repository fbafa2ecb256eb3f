-- A product is within the limit of the degree exactly if the sum of the two degrees is.
use Prim.Native.Nat.{ℕ, suc, zero, ◌+◌, ◌≤◌, ◌<◌, max}
use mathlib.Core.Path.{◌≡◌, refl, sym, ap, subst, ◌∙◌}
use mathlib.Core.Bool.{Bool, true, false, cond, ◌||◌}
use native.Mathlib.Nat.{le_trans}
use native.Mathlib.Numerals.{add-one}
use native.Mathlib.Omega.{arith}
use lib.IntN.{ℤ}
use lib.Dec.{eqb, leb}
use lib.ListN.{get_or}
use borrow.Author.Tests.{eqb-true, eqb-false, leb-true, leb-false, le-leb}
use mir.Syntax.{w64}
use mir.Val.{of_z}
use Rattle.exact.specs.Int.{0ℤ}
use Rattle.paper.specs.Limits.{degree_limit}
use Rattle.paper.proofs.Tests.{all_from_lem}
use Rattle.formula.specs.Grammar.{larger}
use Rattle.formula.specs.Polynomial.{Kept, Polynomial, monomial_count, cell, is_zero, degree_at, row_fits, fits}
use Rattle.formula.proofs.Slots.{monomial_degree}
use Rattle.formula.proofs.Weighted.{fits_pair}
use Rattle.rows.specs.Degree.{degree_with, degree_to, degree_of}
use Rattle.rows.proofs.Bounds.{kept_bounded}
use Rattle.rows.proofs.CoefficientBits.{bits_zero, bits_nonzero}

-- ---- the degree and the terms

-- a term of degree d before term k
record Met (p : Polynomial) (k d : ℕ) : Type 0 where
  at : ℕ
  under : at < k
  term : is_zero (cell p at) ≡ false
  degree : degree_at at ≡ d

later : {p : Polynomial} {k d : ℕ} → Met p k d → Met p (suc k) d
later m = record { at = m.at; under = omega (arith, m.under); term = m.term; degree = m.degree }

larger_at_least : (a b : ℕ) → (a ≤ larger a b) × (b ≤ larger a b)
unfolding larger
larger_at_least a b = go (leb a b) refl
  where
    go : (t : Bool) → leb a b ≡ t → (a ≤ cond t b a) × (b ≤ cond t b a)
    go true e = (leb-true a b e, omega arith)
    go false e = (omega arith, omega (arith, leb-false a b e))

with_keeps : (d : ℕ) (x : ℤ) (k : ℕ) → d ≤ degree_with d x k
unfolding degree_with
with_keeps d x k = go (is_zero x)
  where
    go : (t : Bool) → d ≤ cond t d (larger d (degree_at k))
    go true = omega arith
    go false = (larger_at_least d (degree_at k)).0

with_term : (d : ℕ) (x : ℤ) (k : ℕ) → is_zero x ≡ false → degree_at k ≤ degree_with d x k
unfolding degree_with
with_term d x k h = rw h (larger_at_least d (degree_at k)).1

-- no term has a larger degree
degree_above : (p : Polynomial) (k j : ℕ) → j < k → is_zero (cell p j) ≡ false → degree_at j ≤ degree_to p k
unfolding degree_to
degree_above p zero j l h = absurd (omega arith)
degree_above p (suc k) j l h = go (degree_above p k j) (eqb j k) refl
  where
    go : (j < k → is_zero (cell p j) ≡ false → degree_at j ≤ degree_to p k) → (t : Bool) → eqb j k ≡ t → degree_at j ≤ degree_to p (suc k)
    go ih true e =
        subst (λ (i : ℕ). degree_at i ≤ degree_to p (suc k)) (sym (eqb-true j k e))
        (with_term (degree_to p k) (cell p k) k (subst (λ (i : ℕ). is_zero (cell p i) ≡ false) (eqb-true j k e) h))
    go ih false e = le_trans (ih (omega (arith, eqb-false j k e)) h) (with_keeps (degree_to p k) (cell p k) k)

-- and one has it, unless it is 0
degree_met : (p : Polynomial) (k : ℕ) → 0 < degree_to p k → Met p k (degree_to p k)
unfolding degree_to degree_with larger
degree_met p zero h = absurd (omega arith)
degree_met p (suc k) h = go (degree_met p k) (is_zero (cell p k)) refl (leb (degree_to p k) (degree_at k)) refl h
  where
    go :
        (0 < degree_to p k → Met p k (degree_to p k)) → (b : Bool) → is_zero (cell p k) ≡ b → (t : Bool) → leb (degree_to p k) (degree_at k) ≡ t
        → 0 < cond b (degree_to p k) (cond t (degree_at k) (degree_to p k)) → Met p (suc k) (cond b (degree_to p k) (cond t (degree_at k) (degree_to p k)))
    go ih true e t f l = later (ih l)
    go ih false e true f l = record { at = k; under = omega arith; term = e; degree = refl }
    go ih false e false f l = later (ih l)

pub degree_small : (p : Polynomial) → degree_of p ≤ 4
unfolding degree_of degree_limit
degree_small p = go (leb (degree_of p) 0) refl
  where
    go : (t : Bool) → leb (degree_of p) 0 ≡ t → degree_of p ≤ 4
    go true e = omega (arith, leb-true (degree_of p) 0 e)
    go false e =
        let m = degree_met p monomial_count (leb-false (degree_of p) 0 e) in
        omega (arith, monomial_degree m.at m.under, m.degree)

-- ---- the limit

fits_all : (p q : Polynomial) → degree_of p + degree_of q ≤ degree_limit → fits p q ≡ true
unfolding fits row_fits degree_of
fits_all p q h =
    all_from_lem (λ i. is_zero (cell p i) || row_fits i q) 0 monomial_count (λ i _ l. or_else (is_zero (cell p i)) (row_fits i q) (row i (omega arith)))
  where
    or_else : (a b : Bool) → (a ≡ false → b ≡ true) → (a || b) ≡ true
    or_else true b h = refl
    or_else false b h = h refl

    pair : (i k : ℕ) → i < monomial_count → is_zero (cell p i) ≡ false → k < monomial_count → is_zero (cell q k) ≡ false
        → leb (degree_at i + degree_at k) degree_limit ≡ true
    pair i k l e u f =
        le-leb (degree_at i + degree_at k) degree_limit (omega (arith, degree_above p monomial_count i l e, degree_above q monomial_count k u f))

    row : (i : ℕ) → i < monomial_count → is_zero (cell p i) ≡ false → row_fits i q ≡ true
    row i l e =
        all_from_lem (λ k. is_zero (cell q k) || leb (degree_at i + degree_at k) degree_limit) 0 monomial_count
        (λ k _ u. or_else (is_zero (cell q k)) (leb (degree_at i + degree_at k) degree_limit) (pair i k l e (omega arith)))

pub fits_degree : (p q : Polynomial) → leb (degree_of p + degree_of q) 4 ≡ fits p q
unfolding degree_of degree_limit
fits_degree p q = go (leb (degree_of p + degree_of q) 4) refl (fits p q) refl
  where
    go : (s : Bool) → leb (degree_of p + degree_of q) 4 ≡ s → (t : Bool) → fits p q ≡ t → s ≡ t
    go true e t f = sym (sym f ∙ fits_all p q (leb-true (degree_of p + degree_of q) 4 e))
    go false e false f = refl
    go false e true f =
        let above = leb-false (degree_of p + degree_of q) 4 e in
        let m = degree_met p monomial_count (omega (arith, degree_small q)) in
        let n = degree_met q monomial_count (omega (arith, degree_small p)) in
        absurd (omega (arith, fits_pair p q f m.at n.at m.under n.under m.term n.term, m.degree, n.degree))

-- ---- the code's steps

larger_max : (a b : ℕ) → larger a b ≡ max a b
unfolding larger
larger_max a b = go (leb a b) refl
  where
    go : (t : Bool) → leb a b ≡ t → cond t b a ≡ max a b
    go true e = omega (arith, leb-true a b e)
    go false e = omega (arith, leb-false a b e)

module _ (p : Polynomial) (kept : Kept p) (k : ℕ) {d : ℕ} (so_far : d ≡ degree_to p k) where
  pub degree_none : of_z w64 (get_or p k 0ℤ) ≡ 0 → d ≡ degree_to p (k + 1)
  unfolding degree_to degree_with cell
  degree_none h =
      let none : is_zero (get_or p k 0ℤ) ≡ true = bits_zero ((kept_bounded p kept).each k) h in
      rw (add-one, none) so_far

  pub degree_some : {e r : ℕ} → (of_z w64 (get_or p k 0ℤ) ≡ 0 → ⊥) → e ≡ degree_at k → r ≡ max d e → r ≡ degree_to p (k + 1)
  unfolding degree_to degree_with cell
  degree_some h is m =
      let some : is_zero (get_or p k 0ℤ) ≡ false = bits_nonzero (get_or p k 0ℤ) h in
      rw (add-one, some, larger_max) (omega (arith, so_far, is, m))

pub degree_ends : (p : Polynomial) {k d : ℕ} → d ≡ degree_to p k → k ≤ 70 → 70 ≤ k → d ≡ degree_of p
unfolding degree_of monomial_count
degree_ends p {k} e l h = let last : k ≡ 70 = omega arith in e ∙ ap (degree_to p) last
