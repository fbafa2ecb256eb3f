-- The bytes of one term.
use Prim.Native.Nat.{ℕ, ◌+◌, ◌-◌, ◌≤◌, ◌<◌}
use native.Mathlib.Omega.{arith}
use mathlib.Core.Path.{◌≡◌, refl, sym, ap, ap₂, ◌∙◌}
use mathlib.Core.Bool.{Bool, true, false}
use mathlib.Core.List.{List, [], ◌++◌, append_assoc}
use borrow.Rule.Slice.PartMut.{put_mid}
use Rattle.std.proofs.lemmas.List.{drop-drop}
use lib.IntN.{ℤ}
use lib.ListN.{length, take, drop, length-append}
use lib.Seq.{sets, sets-eq, length-sets}
use mir.Syntax.{w64}
use mir.Val.{of_z}
use Rattle.exact.specs.Size.{Size}
use Rattle.paper.specs.Limits.{coefficient_limit}
use Rattle.formula.specs.Polynomial.{is_zero, exponents_at, monomial_count}
use Rattle.formula.specs.Read.{double_word_bytes}
use Rattle.bits.proofs.Sets.{sets_append}
use Rattle.monomials.proofs.FourDigits.{Four, four}
use Rattle.monomials.proofs.Codes.{exponents_four}
use Rattle.rows.proofs.CoefficientBits.{bits_zero, bits_nonzero}
use Rattle.termbytes.specs.Terms.{term_of}

no_term : (x : ℤ) (k : ℕ) → is_zero x ≡ true → term_of x k ≡ []
unfolding term_of
no_term x k h = rw h

some_term : (x : ℤ) (k : ℕ) → is_zero x ≡ false → term_of x k ≡ double_word_bytes x ++ exponents_at k
unfolding term_of
some_term x k h = rw h

word_length : (x : ℤ) → length (double_word_bytes x) ≡ 4
unfolding double_word_bytes
word_length x = refl

exponents_length : (k : ℕ) → k < monomial_count → length (exponents_at k) ≡ 4
exponents_length k l = of_four (exponents_four k l)
  where
    of_four : {es : List ℕ} → Four 4 es → length es ≡ 4
    of_four (four h i j k) = refl

-- a term has 8 bytes
some_length : (x : ℤ) (k : ℕ) → k < monomial_count → length (double_word_bytes x ++ exponents_at k) ≡ 8
some_length x k l = omega (arith, length-append (double_word_bytes x) (exponents_at k), word_length x, exponents_length k l)

pub term_length : (x : ℤ) (k : ℕ) → k < monomial_count → length (term_of x k) ≤ 8
term_length x k l = go (is_zero x) refl
  where
    go : (b : Bool) → is_zero x ≡ b → length (term_of x k) ≤ 8
    go true e = omega (arith, ap length (no_term x k e))
    go false e = omega (arith, ap length (some_term x k e), some_length x k l)

-- a part of a buffer filled
filled : (bytes part : List ℕ) (at m : ℕ) → m ≡ length part → at + length part ≤ length bytes → put_mid at m bytes part ≡ sets bytes at part
filled bytes part at m e l =
    ap (λ z. take at bytes ++ (part ++ z)) (drop-drop m at bytes ∙ ap (λ k. drop k bytes) (omega (arith, e)))
    ∙ sym (append_assoc (take at bytes) part (drop (at + length part) bytes)) ∙ sym (sets-eq part bytes at l)

module _ (b : List ℕ) (at : ℕ) (x : ℤ) (k : ℕ) (s : Size coefficient_limit x) where
  -- a coefficient 0
  pub none_put : of_z w64 x ≡ 0 → (at ≡ at + length (term_of x k)) × (b ≡ sets b at (term_of x k))
  none_put e =
      let none : term_of x k ≡ [] = no_term x k (bits_zero s e) in
      (omega (arith, ap length none), ap (sets b at) (sym none))

  -- four bytes of its word, then its exponents
  pub term_put : {c d : List ℕ} → (of_z w64 x ≡ 0 → ⊥) → k < monomial_count → at + 8 ≤ length b → c ≡ double_word_bytes x → d ≡ exponents_at k
      → (at + 8 ≡ at + length (term_of x k)) × (put_mid (at + 4) (at + 8 - (at + 4)) (put_mid at (at + 4 - at) b c) d ≡ sets b at (term_of x k))
  unfolding double_word_bytes
  term_put {c} {d} f l room is-word are-exponents =
      let same : term_of x k ≡ double_word_bytes x ++ exponents_at k = some_term x k (bits_nonzero x f) in
      let front : put_mid at (at + 4 - at) b c ≡ sets b at (double_word_bytes x) =
      filled b c at (at + 4 - at) (omega (arith, ap length is-word, word_length x)) (omega (arith, ap length is-word, word_length x))
      ∙ ap (sets b at) is-word in (
        omega (arith, ap length same, some_length x k l),
        ap₂ (λ y es. put_mid (at + 4) (at + 8 - (at + 4)) y es) front are-exponents
            ∙ filled (sets b at (double_word_bytes x)) (exponents_at k) (at + 4) (at + 8 - (at + 4)) (omega (arith, exponents_length k l))
            (omega (arith, exponents_length k l, length-sets b at (double_word_bytes x)))
            ∙ sym (ap (sets b at) same ∙ sets_append b at (double_word_bytes x) (exponents_at k)),
      )
