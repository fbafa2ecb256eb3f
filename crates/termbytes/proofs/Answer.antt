-- The answer of a polynomial: zero bytes behind its terms, and 15 where it has none.
use Prim.Native.Nat.{ℕ, suc, zero, ◌+◌, ◌-◌, ◌/◌, ◌≤◌, ◌<◌}
use native.Mathlib.Omega.{arith}
use native.Mathlib.Nat.{zero-add}
use native.Mathlib.Numerals.{unary_clauses}
use mathlib.Core.Path.{◌≡◌, refl, sym, ap, ap₂, subst, ◌∙◌}
use mathlib.Core.Bool.{Bool, true, false, cond}
use mathlib.Core.List.{List, [], ◌∷◌, ◌++◌}
use lib.Dec.{eqb}
use lib.ListN.{length, get_or, drop, length-append}
use lib.Seq.{sets, sets-eq}
use borrow.Author.Tests.{eqb-true, eqb-false}
use lib.IntN.{ℤ}
use Rattle.exact.specs.Int.{0ℤ}
use Rattle.exact.proofs.AndTests.{and_left, and_right, and-true}
use Rattle.curves.specs.Step.{every}
use Rattle.std.specs.Prelude.{Ok, Err}
use Rattle.paper.specs.declared.Refusal as Refusal
use Rattle.paper.specs.Refusals.{refusal_number}
use Rattle.formula.specs.Answers.{handed_as}
use Rattle.formula.specs.Polynomial.{Polynomial, cell, is_zero, exponents_at, monomial_count}
use Rattle.formula.specs.Read.{double_word_bytes, term_bytes, terms_from, term_list, zero_bytes, byte_count, handed_back}
use Rattle.termbytes.specs.Terms.{answer_of}
use Rattle.termbytes.proofs.TermLists.{terms_length}

-- ---- zero bytes behind the terms

drop_zeros : (m k : ℕ) → drop k (zero_bytes m) ≡ zero_bytes (m - k)
unfolding zero_bytes
drop_zeros m zero = simp unary_clauses refl
drop_zeros zero (suc k) = let none : 0 - suc k ≡ 0 = omega arith in ap zero_bytes (sym none)
drop_zeros (suc m) (suc k) = simp unary_clauses (drop_zeros m k)

pub zeros_length : (m : ℕ) → length (zero_bytes m) ≡ m
unfolding zero_bytes
zeros_length zero = refl
zeros_length (suc m) = ap suc (zeros_length m)

zeros_behind : (m : ℕ) (b : List ℕ) → length b ≤ m → sets (zero_bytes m) 0 b ≡ b ++ zero_bytes (m - length b)
zeros_behind m b l =
    sets-eq b (zero_bytes m) 0 (omega (arith, zeros_length m))
    ∙ ap (λ k. b ++ drop k (zero_bytes m)) (zero-add (length b))
    ∙ ap (λ x. b ++ x) (drop_zeros m (length b))

-- ---- the answer

module _ (t : ℤ → Bool) where
  every_at : (p : Polynomial) → every t p ≡ true → t 0ℤ ≡ true → (i : ℕ) → t (get_or p i 0ℤ) ≡ true
  unfolding every
  every_at [] h e i = e
  every_at (x ∷ p) h e zero = and_left (t x) (every t p) h
  every_at (x ∷ p) h e (suc i) = every_at p (and_right (t x) (every t p) h) e i

  every_from : (p : Polynomial) → ((i : ℕ) → i < length p → t (get_or p i 0ℤ) ≡ true) → every t p ≡ true
  unfolding every
  every_from [] f = refl
  every_from (x ∷ p) f = and-true (f 0 (omega arith)) (every_from p (λ i h. f (suc i) (omega arith)))

no_terms : (p : Polynomial) (k m : ℕ) → ((i : ℕ) → is_zero (get_or p i 0ℤ) ≡ true) → terms_from p k m ≡ []
unfolding terms_from term_bytes cell
no_terms p k zero f = refl
no_terms p k (suc m) f = rw (f k) (no_terms p (k + 1) m f)

-- where there are no terms every coefficient is 0
not_a_term : (p : Polynomial) (k : ℕ) → length (term_bytes p k) ≡ 0 → is_zero (get_or p k 0ℤ) ≡ true
unfolding term_bytes cell double_word_bytes
not_a_term p k = go (is_zero (get_or p k 0ℤ))
  where
    go : (b : Bool) → length (cond b [] (double_word_bytes (get_or p k 0ℤ) ++ exponents_at k)) ≡ 0 → b ≡ true
    go true h = refl
    go false h = absurd (omega (arith, h))

not_one : (p : Polynomial) (k m i : ℕ) → length (terms_from p k m) ≡ 0 → k ≤ i → i < k + m → is_zero (get_or p i 0ℤ) ≡ true
unfolding terms_from
not_one p k zero i h l u = absurd (omega arith)
not_one p k (suc m) i h l u =
    let both = length-append (term_bytes p k) (terms_from p (k + 1) m) in
    go (not_a_term p k (omega (arith, h, both))) (not_one p (k + 1) m i (omega (arith, h, both))) (eqb k i) refl
  where
    go : is_zero (get_or p k 0ℤ) ≡ true → (k + 1 ≤ i → i < k + 1 + m → is_zero (get_or p i 0ℤ) ≡ true) → (b : Bool) → eqb k i ≡ b
        → is_zero (get_or p i 0ℤ) ≡ true
    go here later true e = subst (λ j. is_zero (get_or p j 0ℤ) ≡ true) (eqb-true k i e) here
    go here later false e = later (omega (arith, eqb-false k i e)) (omega arith)

zero_terms : (p : Polynomial) → every is_zero p ≡ true → term_list p ≡ []
unfolding term_list is_zero
zero_terms p h = no_terms p 0 monomial_count (every_at is_zero p h refl)

terms_zero : (p : Polynomial) → length p ≡ monomial_count → length (term_list p) ≡ 0 → every is_zero p ≡ true
unfolding term_list
terms_zero p n h = every_from is_zero p (λ i l. not_one p 0 monomial_count i h (omega arith) (omega (arith, n)))

some_terms : (p : Polynomial) → (length (term_list p) ≡ 0 → ⊥) → every is_zero p ≡ false
some_terms p f = go (every is_zero p) refl
  where
    go : (b : Bool) → every is_zero p ≡ b → b ≡ false
    go true h = absurd (f (ap length (zero_terms p h)))
    go false h = refl

list_length : (p : Polynomial) → length (term_list p) ≤ byte_count
unfolding term_list monomial_count byte_count
list_length p = terms_length p 0 70 (omega arith)

pub answer_zero : {at : ℕ} (p : Polynomial) → length p ≡ monomial_count → at ≡ 0 → at ≡ length (term_list p)
    → handed_as (Err Refusal.TheVariants.Formula) ≡ handed_back (answer_of p)
unfolding answer_of handed_as handed_back refusal_number
answer_zero p n e f = rw (terms_zero p n (sym f ∙ e)) refl

pub answer_terms : {at : ℕ} {b : List ℕ} (p : Polynomial) → (at ≡ 0 → ⊥) → at ≡ length (term_list p)
    → b ≡ sets (zero_bytes byte_count) 0 (term_list p) → handed_as (Ok (record { count = at / 8; bytes = b })) ≡ handed_back (answer_of p)
unfolding answer_of handed_as handed_back
answer_terms {at} {b} p f e g =
    rw (some_terms p (λ h. f (e ∙ h)))
    (ap₂ (λ k x. record { refusal = 0; count = k / 8; bytes = x }) e (g ∙ zeros_behind byte_count (term_list p) (list_length p)))
