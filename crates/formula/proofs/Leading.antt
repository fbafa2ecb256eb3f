-- The highest term of a polynomial: by degree first, in an order that products keep. The order is that of a number of each monomial, and the
-- number of a product is the sum of the two.
use Prim.Native.Nat.{ℕ, suc, zero, ◌+◌, ◌*◌, ◌^◌, ◌≤◌, ◌<◌}
use native.Mathlib.Omega.{arith}
use native.Mathlib.Nat.{pow-succ'}
use mathlib.Core.Path.{◌≡◌, refl, sym, ap, ap₂, subst, ◌∙◌}
use mathlib.Core.Bool.{Bool, true, false, true≢false}
use mathlib.Core.List.{List, [], ◌∷◌}
use lib.ListN.{length}
use lib.Dec.{eqb, leb}
use borrow.Author.Tests.{eqb-true, eqb-false, leb-true, leb-false}
use Rattle.paper.specs.Limits.{degree_limit}
use Rattle.paper.specs.RunningSum.{exponent_sum}
use Rattle.formula.specs.Polynomial.{Polynomial, monomial_count, exponents_at, degree_at, sum_exponents, slot, cell, is_zero}
use Rattle.formula.proofs.Slots.{slot_at, sum_exponents_lem, monomial_length, monomial_degree}

-- ---- the number of a monomial

-- the exponents as digits
unfoldable pub code : List ℕ → ℕ
code [] = 0
code (e ∷ es) = e + 5 * code es

code_sum : (d e : List ℕ) → code (sum_exponents d e) ≡ code d + code e
unfolding code sum_exponents
code_sum [] es = omega arith
code_sum (d ∷ ds) [] = omega arith
code_sum (d ∷ ds) (e ∷ es) = omega (arith, code_sum ds es)

-- digits up to 4 are told apart
code_only : (d e : List ℕ) → length d ≡ length e → exponent_sum d ≤ 4 → exponent_sum e ≤ 4 → code d ≡ code e → d ≡ e
unfolding code exponent_sum
code_only [] [] l h k same = refl
code_only [] (e ∷ es) l h k same = absurd (omega arith)
code_only (d ∷ ds) [] l h k same = absurd (omega arith)
code_only (d ∷ ds) (e ∷ es) l h k same =
    let first : d ≡ e = omega arith in
    let rest : code ds ≡ code es = omega arith in
    ap₂ (λ (x : ℕ) (y : List ℕ). x ∷ y) first (code_only ds es (omega arith) (omega arith) (omega arith) rest)

code_bound : (e : List ℕ) → exponent_sum e ≤ 4 → code e < 5 ^ length e
unfolding code exponent_sum
code_bound [] h = omega arith
code_bound (e ∷ es) h =
    let power_next : 5 ^ suc (length es) ≡ 5 * 5 ^ length es = pow-succ' 5 (length es) in
    omega (arith, code_bound es (omega arith), power_next)

-- the degree weighs most
unfoldable pub key : List ℕ → ℕ
key e = 625 * exponent_sum e + code e

pub key_sum : (d e : List ℕ) → key (sum_exponents d e) ≡ key d + key e
unfolding key
key_sum d e = omega (arith, sum_exponents_lem d e, code_sum d e)

unfoldable pub key_at : ℕ → ℕ
key_at k = key (exponents_at k)

module _ (i k : ℕ) (u : i < monomial_count) (v : k < monomial_count) where
  -- no two monomials have the same number
  pub key_only : key_at i ≡ key_at k → i ≡ k
  unfolding key_at key degree_at degree_limit
  key_only same =
      let s : List ℕ = exponents_at i in
      let t : List ℕ = exponents_at k in
      let a : code s < 625 = subst (λ (m : ℕ). code s < 5 ^ m) (monomial_length i u) (code_bound s (monomial_degree i u)) in
      let b : code t < 625 = subst (λ (m : ℕ). code t < 5 ^ m) (monomial_length k v) (code_bound t (monomial_degree k v)) in
      let codes : code s ≡ code t = omega arith in
      let lists : s ≡ t = code_only s t (monomial_length i u ∙ sym (monomial_length k v)) (monomial_degree i u) (monomial_degree k v) codes in
      sym (slot_at i u) ∙ ap slot lists ∙ slot_at k v

  -- a larger number, no smaller degree
  pub key_degree : key_at i ≤ key_at k → degree_at i ≤ degree_at k
  unfolding key_at key degree_at degree_limit
  key_degree h =
      let t : List ℕ = exponents_at k in
      let b : code t < 625 = subst (λ (m : ℕ). code t < 5 ^ m) (monomial_length k v) (code_bound t (monomial_degree k v)) in
      omega arith

-- ---- the highest term

-- a term that is not 0 and has the largest number among the first m
pub record Highest (p : Polynomial) (m : ℕ) : Type 0 where
  pub at : ℕ
  pub under : at < monomial_count
  pub is_term_lem : is_zero (cell p at) ≡ false
  pub largest : (j : ℕ) → j < m → is_zero (cell p j) ≡ false → key_at j ≤ key_at at

pub highest : (p : Polynomial) (c : ℕ) → c < monomial_count → is_zero (cell p c) ≡ false → (m : ℕ) → m ≤ monomial_count → Highest p m
highest p c u e zero h = record { at = c; under = u; is_term_lem = e; largest = λ j l f. absurd (omega arith) }
highest p c u e (suc m) h = go (highest p c u e m (omega arith)) (is_zero (cell p m)) refl
  where
    largest_with : (a : ℕ) → ((j : ℕ) → j < m → is_zero (cell p j) ≡ false → key_at j ≤ key_at a) → (is_zero (cell p m) ≡ false → key_at m ≤ key_at a)
        → (j : ℕ) → j < suc m → is_zero (cell p j) ≡ false → key_at j ≤ key_at a
    largest_with a before last j l f = here (eqb j m) refl
      where
        here : (b : Bool) → eqb j m ≡ b → key_at j ≤ key_at a
        here true s =
            let same : j ≡ m = eqb-true j m s in
            let term : is_zero (cell p m) ≡ false = subst (λ (x : ℕ). is_zero (cell p x) ≡ false) same f in
            subst (λ (x : ℕ). key_at x ≤ key_at a) (sym same) (last term)
        here false s = let differ = eqb-false j m s in before j (omega (arith, differ)) f

    go : Highest p m → (b : Bool) → is_zero (cell p m) ≡ b → Highest p (suc m)
    go r true z =
        record {
          at = r.at;
          under = r.under;
          is_term_lem = r.is_term_lem;
          largest = largest_with r.at r.largest (λ f. absurd (true≢false (sym z ∙ f)));
        }
    go r false z = compared (leb (key_at m) (key_at r.at)) refl
      where
        compared : (b : Bool) → leb (key_at m) (key_at r.at) ≡ b → Highest p (suc m)
        compared true l =
            record {
              at = r.at;
              under = r.under;
              is_term_lem = r.is_term_lem;
              largest = largest_with r.at r.largest (λ f. leb-true (key_at m) (key_at r.at) l);
            }
        compared false l =
            let less = leb-false (key_at m) (key_at r.at) l in
            record {
              at = m;
              under = omega arith;
              is_term_lem = z;
              largest = largest_with m (λ j a f. omega (arith, less, r.largest j a f)) (λ f. omega arith);
            }
