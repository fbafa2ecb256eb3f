-- The sign of two vertices of a simplex (`pair_sign` of specs/Compared) is, but for its alternation, the lexicographic sign of one of them in the
-- facet without the other. So the comparison of the two is decided where that sign is the facet's without p, or opposite to it.
use Prim.Native.Nat.{ℕ, suc, zero, ◌+◌, ◌%◌, ◌≤◌, ◌<◌}
use native.Mathlib.Omega.{arith}
use mathlib.Core.Path.{◌≡◌, refl, sym, ap, subst₂, ◌∙◌, fun_ext}
use mathlib.Core.Bool.{Bool, true, false, beq}
use mathlib.Core.Logic.{◌≢◌}
use mathlib.Core.List.{List, [], ◌∷◌, map}
use lib.ListN.{length}
use lib.Dec.{eqb}
use Rattle.exact.specs.Sign.{Sign, negative, positive, lex_sign}
use Rattle.exact.specs.Det.{Column, rows_from, det, determinant}
use Rattle.exact.specs.Crossed.{count_from, unit_column, coefficient, coefficients, remove}
use Rattle.exact.specs.Minors.{position}
use Rattle.exact.specs.Compared.{above, sign_of, pair_sign, stays}
use Rattle.exact.proofs.SignLaws.{opposite}
use Rattle.exact.proofs.DetColumns.{det_swaps}
use Rattle.exact.proofs.Tagged.{insert_front}
use Rattle.exact.proofs.Position.{skip_position, length_remove}
use Rattle.exact.proofs.LexSign.{opposite_opposite}
use Rattle.exact.proofs.FacetSigns.{alternate_sign, lex_sign_alternate, vertex_sign, vertex_sign_is}

-- ---- alternating signs

-- alternating j times and then i times is alternating i + j times
pub alternate_sign_add : (i j : ℕ) (s : Sign) → alternate_sign i (alternate_sign j s) ≡ alternate_sign (i + j) s
unfolding alternate_sign
alternate_sign_add zero j s = let whole : j ≡ 0 + j = omega arith in ap (λ k. alternate_sign k s) whole
alternate_sign_add (suc i) j s =
    let next : suc (i + j) ≡ suc i + j = omega arith in
    ap opposite (alternate_sign_add i j s) ∙ ap (λ k. alternate_sign k s) next

-- alternating keeps opposites
pub alternate_sign_opposite : (k : ℕ) (s : Sign) → alternate_sign k (opposite s) ≡ opposite (alternate_sign k s)
unfolding alternate_sign
alternate_sign_opposite zero s = refl
alternate_sign_opposite (suc k) s = ap opposite (alternate_sign_opposite k s)

-- alternating undoes itself
pub alternate_sign_twice : (k : ℕ) (s : Sign) → alternate_sign k (alternate_sign k s) ≡ s
unfolding alternate_sign
alternate_sign_twice zero s = refl
alternate_sign_twice (suc k) s =
    ap opposite (alternate_sign_opposite k (alternate_sign k s)) ∙ opposite_opposite _ ∙ alternate_sign_twice k s

-- what holds of a sign and 0, and of its opposite and 1, holds of the sign alternated k times and the parity of k
by_parity : (P : Sign → ℕ → Type 0) (s : Sign) → P s 0 → P (opposite s) 1 → (k : ℕ) → P (alternate_sign k s) (k % 2)
unfolding alternate_sign
by_parity P s even odd zero = even
by_parity P s even odd (suc zero) = odd
by_parity P s even odd (suc (suc k)) =
    let same : k % 2 ≡ suc (suc k) % 2 = omega arith in
    subst₂ P (sym (opposite_opposite (alternate_sign k s))) same (by_parity P s even odd k)

-- a comparison of vertices with the sum k of indices holds, where their sign is that of `plus` alternated k times
compare_same : (plus : Bool) (k : ℕ) → beq (beq (above (alternate_sign k (sign_of plus))) plus) (eqb (k % 2) 0) ≡ true
unfolding above sign_of opposite
compare_same true k = by_parity (λ s r. beq (beq (above s) true) (eqb r 0) ≡ true) positive refl refl k
compare_same false k = by_parity (λ s r. beq (beq (above s) false) (eqb r 0) ≡ true) negative refl refl k

-- it fails, where their sign is the opposite of that
compare_opposite :
    (plus : Bool) (k : ℕ) → beq (beq (above (opposite (alternate_sign k (sign_of plus)))) plus) (eqb (k % 2) 0) ≡ false
unfolding above sign_of opposite
compare_opposite true k = by_parity (λ s r. beq (beq (above (opposite s)) true) (eqb r 0) ≡ false) positive refl refl k
compare_opposite false k = by_parity (λ s r. beq (beq (above (opposite s)) false) (eqb r 0) ≡ false) negative refl refl k

-- the opposite of the sign of `plus` alternated k times is the sign of `plus` exactly if k is odd
pub opposite_odd : (plus : Bool) (k : ℕ) → opposite (alternate_sign k (sign_of plus)) ≡ sign_of (beq plus (eqb (k % 2) 1))
unfolding sign_of opposite
opposite_odd true k = by_parity (λ s r. opposite s ≡ sign_of (beq true (eqb r 1))) positive refl refl k
opposite_odd false k = by_parity (λ s r. opposite s ≡ sign_of (beq false (eqb r 1))) negative refl refl k

-- ---- the sign of a pair

-- the sign of a vertex in front of the columns other than i is that of vertex i, alternated i times
front_sign :
    (n : ℕ) (cs : List Column) (i : ℕ) → i < length cs
    → lex_sign (coefficients n ([] ∷ remove i cs) 0) ≡ alternate_sign i (lex_sign (coefficients n cs i))
unfolding coefficients coefficient determinant
front_sign n cs i l =
    ap (λ f. lex_sign (map f (count_from 0 n)))
    (fun_ext (λ j. insert_front (det (rows_from 0 n)) (det_swaps (rows_from 0 n)) (unit_column j) i cs l))
    ∙ lex_sign_alternate i (coefficient n cs i) (count_from 0 n)

-- the place of a later element r in the list without q is r − 1
pub position_later : (q r : ℕ) → q < r → suc (position q r) ≡ r
unfolding position
position_later zero zero l = absurd (omega arith)
position_later zero (suc r) l = refl
position_later (suc q) zero l = absurd (omega arith)
position_later (suc q) (suc r) l = ap suc (position_later q r (omega arith))

-- the sign of a pair q < r is opposite to that of r in the facet without q, alternated q + r times
pair_sign_is :
    (n : ℕ) (us : List Column) (q r : ℕ) → length us ≡ suc n → q < r → r ≤ n
    → pair_sign n us q r ≡ alternate_sign (q + r) (opposite (vertex_sign n us q r))
unfolding pair_sign alternate_sign
pair_sign_is n us q r size l r≤ =
    front_sign n (remove q us) i (omega (arith, length_remove q us (omega arith), later))
    ∙ ap (alternate_sign i) (sym (alternate_sign_twice q _) ∙ ap (alternate_sign q) vertex)
    ∙ alternate_sign_add i q (vertex_sign n us q r)
    ∙ ap (alternate_sign (i + q)) (sym (opposite_opposite _))
    ∙ alternate_sign_add (i + q) 1 (opposite (vertex_sign n us q r))
    ∙ ap (λ k. alternate_sign k (opposite (vertex_sign n us q r))) sum
  where
    i : ℕ
    i = position q r

    later : suc i ≡ r
    later = position_later q r l

    q≢r : q ≢ r
    q≢r e = omega arith

    vertex : alternate_sign q (lex_sign (coefficients n (remove q us) i)) ≡ vertex_sign n us q r
    vertex = sym (vertex_sign_is n us q i) ∙ ap (vertex_sign n us q) (skip_position q r q≢r)

    sum : i + q + 1 ≡ q + r
    sum = omega (arith, later)

-- q stays against r, where the sign of r in the facet without q is opposite to that of the facet without p
pub stays_true :
    (n : ℕ) (us : List Column) (plus : Bool) (p q r : ℕ) → length us ≡ suc n → q < r → r ≤ n
    → vertex_sign n us q r ≡ opposite (alternate_sign p (sign_of plus)) → stays n us plus p q r ≡ true
unfolding stays
stays_true n us plus p q r size l r≤ h =
    ap (λ s. beq (beq (above s) plus) (eqb ((q + r + p) % 2) 0))
    (pair_sign_is n us q r size l r≤ ∙ ap (alternate_sign (q + r)) (ap opposite h ∙ opposite_opposite _) ∙ alternate_sign_add (q + r) p (sign_of plus))
    ∙ compare_same plus (q + r + p)

-- q does not stay against r, where the two signs are the same
pub stays_false :
    (n : ℕ) (us : List Column) (plus : Bool) (p q r : ℕ) → length us ≡ suc n → q < r → r ≤ n
    → vertex_sign n us q r ≡ alternate_sign p (sign_of plus) → stays n us plus p q r ≡ false
unfolding stays
stays_false n us plus p q r size l r≤ h =
    ap (λ s. beq (beq (above s) plus) (eqb ((q + r + p) % 2) 0))
    (pair_sign_is n us q r size l r≤
    ∙ alternate_sign_opposite (q + r) (vertex_sign n us q r)
    ∙ ap opposite (ap (alternate_sign (q + r)) h ∙ alternate_sign_add (q + r) p (sign_of plus)))
    ∙ compare_opposite plus (q + r + p)
