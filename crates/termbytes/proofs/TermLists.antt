-- Terms one behind the other.
use Prim.Native.Nat.{ℕ, suc, zero, ◌+◌, ◌*◌, ◌≤◌, ◌<◌}
use native.Mathlib.Omega.{arith}
use native.Mathlib.Nat.{zero-add}
use mathlib.Core.Path.{◌≡◌, refl, sym, ap, ap₂, ◌∙◌}
use mathlib.Core.List.{List, ◌++◌, append_assoc, append-nil}
use lib.IntN.{ℤ}
use lib.ListN.{length, get_or, length-append}
use lib.Seq.{sets, length-sets}
use Rattle.exact.specs.Int.{0ℤ}
use Rattle.formula.specs.Polynomial.{Polynomial, cell, monomial_count}
use Rattle.formula.specs.Read.{term_bytes, terms_from, term_list, byte_count}
use Rattle.bits.proofs.Sets.{sets_append}
use Rattle.termbytes.specs.Terms.{term_of}
use Rattle.termbytes.proofs.OneTerm.{term_length}

terms_snoc : (p : Polynomial) (k m : ℕ) → terms_from p k (suc m) ≡ terms_from p k m ++ term_bytes p (k + m)
unfolding terms_from
terms_snoc p k zero = let same : k + 0 ≡ k = omega arith in append-nil (term_bytes p k) ∙ ap (term_bytes p) (sym same)
terms_snoc p k (suc m) =
    let same : k + 1 + m ≡ k + suc m = omega arith in
    ap (λ b. term_bytes p k ++ b) (terms_snoc p (k + 1) m ∙ ap (λ j. terms_from p (k + 1) m ++ term_bytes p j) same)
    ∙ sym (append_assoc (term_bytes p k) (terms_from p (k + 1) m) (term_bytes p (k + suc m)))

terms_next : (p : Polynomial) (k : ℕ) → terms_from p 0 (k + 1) ≡ terms_from p 0 k ++ term_of (get_or p k 0ℤ) k
unfolding term_bytes term_of cell
terms_next p k =
    let one : k + 1 ≡ suc k = omega arith in
    let same : 0 + k ≡ k = omega arith in
    ap (terms_from p 0) one ∙ terms_snoc p 0 k ∙ ap (λ j. terms_from p 0 k ++ term_bytes p j) same

pub terms_length : (p : Polynomial) (k m : ℕ) → k + m ≤ monomial_count → length (terms_from p k m) ≤ 8 * m
unfolding terms_from term_bytes term_of cell monomial_count
terms_length p k zero l = omega arith
terms_length p k (suc m) l =
    omega (
      arith,
      length-append (term_bytes p k) (terms_from p (k + 1) m),
      term_length (cell p k) k (omega arith),
      terms_length p (k + 1) m (omega arith),
    )

-- after k monomials: their terms from the front of the buffer, and the position behind them
pub record TermsPut (before : List ℕ) (p : Polynomial) (after : List ℕ) (at k : ℕ) : Type 0 where
  pub position : at ≡ length (terms_from p 0 k)
  pub buffer : after ≡ sets before 0 (terms_from p 0 k)

pub terms_start : (b : List ℕ) (p : Polynomial) → TermsPut b p b 0 0
unfolding terms_from
terms_start b p = record { position = refl; buffer = refl }

pub terms_more : {b c d : List ℕ} {at r k : ℕ} {p : Polynomial} {x : ℤ} → TermsPut b p c at k → k < monomial_count → x ≡ get_or p k 0ℤ
    → (r ≡ at + length (term_of x k)) × (d ≡ sets c at (term_of x k)) → TermsPut b p d r (k + 1)
terms_more {b} {c} {d} {at} {r} {k} {p} {x} h l e (f, g) =
    let so_far : List ℕ = terms_from p 0 k in
    let term : List ℕ = term_of x k in
    let next : terms_from p 0 (k + 1) ≡ so_far ++ term = terms_next p k ∙ ap (λ y. so_far ++ term_of y k) (sym e) in
    record {
      position = omega (arith, ap length next, length-append so_far term, h.position);
      buffer = g
          ∙ ap₂ (λ y z. sets y z term) h.buffer h.position
          ∙ ap (λ z. sets (sets b 0 so_far) z term) (sym (zero-add (length so_far)))
          ∙ sym (ap (sets b 0) next ∙ sets_append b 0 so_far term);
    }

pub terms_long : {b c : List ℕ} {at k : ℕ} {p : Polynomial} → TermsPut b p c at k → length c ≡ length b
terms_long {b} {c} {at} {k} {p} h = ap length h.buffer ∙ length-sets b 0 (terms_from p 0 k)

pub terms_room : {b c : List ℕ} {at k : ℕ} {p : Polynomial} → TermsPut b p c at k → k < monomial_count → length b ≡ byte_count → at + 8 ≤ length c
unfolding monomial_count byte_count
terms_room {b} {c} {at} {k} {p} h l e =
    omega (arith, h.position, terms_length p 0 k (omega arith), terms_long h)

pub terms_whole : {b c : List ℕ} {at k : ℕ} {p : Polynomial} → TermsPut b p c at k → k ≤ monomial_count → monomial_count ≤ k
    → (at ≡ length (term_list p)) × (c ≡ sets b 0 (term_list p))
unfolding term_list
terms_whole {b} {c} {at} {k} {p} h l m =
    let all : k ≡ monomial_count = omega arith in
    (h.position ∙ ap (λ m. length (terms_from p 0 m)) all, h.buffer ∙ ap (λ m. sets b 0 (terms_from p 0 m)) all)
