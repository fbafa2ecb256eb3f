-- The monomials: every list of four exponents with a sum within the degree limit stands among them, once, and nothing else does.
use Prim.Native.Nat.{ℕ, suc, zero, ◌+◌, ◌-◌, ◌≤◌, ◌<◌}
use native.Mathlib.Omega.{arith}
use mathlib.Core.Path.{◌≡◌, refl, sym, ap, ap₂, subst, ◌∙◌}
use mathlib.Core.Bool.{Bool, true, false, cond, false≢true}
use mathlib.Core.Logic.{⊎_elim}
use mathlib.Core.List.Memᴰ
use mathlib.Core.List.{List, [], ◌∷◌, map, flat_map}
use lib.ListN.{length, get_or}
use lib.Dec.{eqb}
use borrow.Author.Tests.{eqb-true, eq-eqb}
use Rattle.exact.specs.Crossed.{count_from}
use Rattle.exact.proofs.AndTests.{and_left, and_right, and-true}
use Rattle.curves.specs.Curve.{◌∈◌}
use Rattle.curves.proofs.Listed.{count_from_listed, count_from_under}
use Rattle.paper.specs.Limits.{degree_limit}
use Rattle.paper.specs.Job.{all_from}
use Rattle.paper.specs.RunningSum.{exponent_sum}
use Rattle.paper.proofs.Tests.{all_at}
use Rattle.formula.specs.Polynomial.{exponents_up_to, monomials, monomial_count, exponents_at, degree_at, sum_exponents}
use Rattle.formula.specs.Polynomial.{same_exponents, position_in, slot, product_slot}

-- ---- exponents

pub same_true : (d e : List ℕ) → same_exponents d e ≡ true → d ≡ e
unfolding same_exponents
same_true [] [] h = refl
same_true [] (e ∷ es) h = absurd (false≢true h)
same_true (d ∷ ds) [] h = absurd (false≢true h)
same_true (d ∷ ds) (e ∷ es) h =
    ap₂ (λ x y. x ∷ y) (eqb-true d e (and_left (eqb d e) (same_exponents ds es) h)) (same_true ds es (and_right (eqb d e) (same_exponents ds es) h))

same_self : (e : List ℕ) → same_exponents e e ≡ true
unfolding same_exponents
same_self [] = refl
same_self (e ∷ es) = and-true (eq-eqb e e refl) (same_self es)

pub same_is : (d e : List ℕ) → d ≡ e → same_exponents d e ≡ true
same_is d e h = subst (λ x. same_exponents d x ≡ true) h (same_self d)

pub sum_exponents_lem : (d e : List ℕ) → exponent_sum (sum_exponents d e) ≡ exponent_sum d + exponent_sum e
unfolding exponent_sum sum_exponents
sum_exponents_lem [] es = omega arith
sum_exponents_lem (d ∷ ds) [] = omega arith
sum_exponents_lem (d ∷ ds) (e ∷ es) = omega (arith, sum_exponents_lem ds es)

length_sum : (d e : List ℕ) → length d ≡ length e → length (sum_exponents d e) ≡ length d
unfolding sum_exponents
length_sum [] es h = sym h
length_sum (d ∷ ds) [] h = refl
length_sum (d ∷ ds) (e ∷ es) h = ap suc (length_sum ds es (omega arith))

-- ---- a list of exponents that stands in a list

position_holds : (ds : List (List ℕ)) (e : List ℕ) → position_in ds e < length ds → get_or ds (position_in ds e) [] ≡ e
unfolding position_in
position_holds [] e h = absurd (omega arith)
position_holds (d ∷ ds) e h = go (same_exponents d e) refl h (position_holds ds e)
  where
    go :
        (b : Bool) → same_exponents d e ≡ b → cond b 0 (suc (position_in ds e)) < suc (length ds)
        → (position_in ds e < length ds → get_or ds (position_in ds e) [] ≡ e) → get_or (d ∷ ds) (cond b 0 (suc (position_in ds e))) [] ≡ e
    go true s l rest = same_true d e s
    go false s l rest = rest (omega arith)

position_found : (ds : List (List ℕ)) (e : List ℕ) → e ∈ ds → position_in ds e < length ds
unfolding position_in
position_found [] e m = absurd (Memᴰ.not-nil m)
position_found (d ∷ ds) e m = go (same_exponents d e) refl (position_found ds e)
  where
    go : (b : Bool) → same_exponents d e ≡ b → (e ∈ ds → position_in ds e < length ds) → cond b 0 (suc (position_in ds e)) < suc (length ds)
    go true s rest = omega arith
    go false s rest =
        ⊎_elim (λ (i : e ≡ d). absurd (false≢true (sym s ∙ same_is d e (sym i)))) (λ (j : e ∈ ds). omega (arith, rest j)) (Memᴰ.cases_cons m)

get_d_listed : {A : Type 0} (l : List A) (k : ℕ) (d : A) → k < length l → get_or l k d ∈ l
get_d_listed [] k d h = absurd (omega arith)
get_d_listed (x ∷ l) zero d h = Memᴰ.head refl
get_d_listed (x ∷ l) (suc k) d h = Memᴰ.tail (get_d_listed l k d (omega arith))

-- ---- all exponents of m letters with a sum of at most d

flat_map_listed : {A B : Type 0} (f : A → List B) (xs : List A) (a : A) {b : B} → a ∈ xs → b ∈ f a → b ∈ flat_map f xs
unfolding flat_map
flat_map_listed f [] a m k = absurd (Memᴰ.not-nil m)
flat_map_listed f (x ∷ xs) a {b} m k =
    ⊎_elim
    (λ e. Memᴰ.append_left (flat_map f xs) (subst (λ z. b ∈ f z) e k))
    (λ r. Memᴰ.append_right (f x) (flat_map_listed f xs a r k))
    (Memᴰ.cases_cons m)

record Inside {A B : Type 0} (f : A → List B) (xs : List A) (b : B) : Type 0 where
  part : A
  listed : part ∈ xs
  inside : b ∈ f part

flat_map_member : {A B : Type 0} (f : A → List B) (xs : List A) {b : B} → b ∈ flat_map f xs → Inside f xs b
unfolding flat_map
flat_map_member f [] m = absurd (Memᴰ.not-nil m)
flat_map_member f (x ∷ xs) {b} m = ⊎_elim here (λ j. later (flat_map_member f xs j)) (Memᴰ.append_cases (f x) m)
  where
    here : b ∈ f x → Inside f (x ∷ xs) b
    here i = record { part = x; listed = Memᴰ.head refl; inside = i }

    later : Inside f xs b → Inside f (x ∷ xs) b
    later j = record { part = j.part; listed = Memᴰ.tail j.listed; inside = j.inside }

-- those that begin with e
starting_with : ℕ → ℕ → ℕ → List (List ℕ)
starting_with m d e = map (λ es. e ∷ es) (exponents_up_to m (d - e))

exponents_listed : (m d : ℕ) (es : List ℕ) → length es ≡ m → exponent_sum es ≤ d → es ∈ exponents_up_to m d
unfolding exponents_up_to exponent_sum starting_with
exponents_listed zero d [] l h = Memᴰ.head refl
exponents_listed zero d (e ∷ es) l h = absurd (omega arith)
exponents_listed (suc m) d [] l h = absurd (omega arith)
exponents_listed (suc m) d (e ∷ es) l h =
    flat_map_listed (starting_with m d) (count_from 0 (d + 1)) e (count_from_listed 0 (d + 1) e (omega arith) (omega arith))
    (Memᴰ.map (λ es. e ∷ es) (exponents_listed m (d - e) es (omega arith) (omega arith)))

exponents_member : (m d : ℕ) {es : List ℕ} → es ∈ exponents_up_to m d → (length es ≡ m) × (exponent_sum es ≤ d)
unfolding exponents_up_to exponent_sum starting_with
exponents_member zero d {es} i =
    let e : es ≡ [] = Memᴰ.eq_of_singleton i in
    (ap length e, subst (λ x. exponent_sum x ≤ d) (sym e) (omega arith))
exponents_member (suc m) d {es} i =
    let j = flat_map_member (starting_with m d) (count_from 0 (d + 1)) i in
    let w = Memᴰ.of_map (λ es. j.part ∷ es) (exponents_up_to m (d - j.part)) j.inside in
    go j.part (count_from_under 0 (d + 1) j.listed) w.0 (exponents_member m (d - j.part) w.1) w.2
  where
    go : (e : ℕ) → e < 0 + (d + 1) → (rest : List ℕ) → (length rest ≡ m) × (exponent_sum rest ≤ d - e) → e ∷ rest ≡ es
        → (length es ≡ suc m) × (exponent_sum es ≤ d)
    go e u rest r same =
        (subst (λ x. length x ≡ suc m) same (omega (arith, r.0)), subst (λ x. exponent_sum x ≤ d) same (unfold exponent_sum in omega (arith, r.1)))

-- ---- the monomials

pub monomials_counted : length monomials ≡ monomial_count
unfolding monomials monomial_count exponents_up_to degree_limit flat_map count_from
monomials_counted = refl

pub slot_holds : (e : List ℕ) → slot e < monomial_count → exponents_at (slot e) ≡ e
unfolding slot exponents_at
slot_holds e h = position_holds monomials e (subst (λ (c : ℕ). slot e < c) (sym monomials_counted) h)

pub slot_found : (e : List ℕ) → length e ≡ 4 → exponent_sum e ≤ degree_limit → slot e < monomial_count
unfolding slot monomials
slot_found e l h = subst (λ (c : ℕ). slot e < c) monomials_counted (position_found monomials e (exponents_listed 4 degree_limit e l h))

monomial_member : (k : ℕ) → k < monomial_count → (length (exponents_at k) ≡ 4) × (exponent_sum (exponents_at k) ≤ degree_limit)
unfolding exponents_at monomials
monomial_member k h = exponents_member 4 degree_limit (get_d_listed monomials k [] (subst (λ (c : ℕ). k < c) (sym monomials_counted) h))

-- each has four exponents, with a sum within the limit
pub monomial_length : (k : ℕ) → k < monomial_count → length (exponents_at k) ≡ 4
monomial_length k h = (monomial_member k h).0

pub monomial_degree : (k : ℕ) → k < monomial_count → degree_at k ≤ degree_limit
unfolding degree_at
monomial_degree k h = (monomial_member k h).1

-- no two are the same
slots_tested : all_from (λ k. eqb (slot (exponents_at k)) k) 0 monomial_count ≡ true
unfolding all_from slot position_in same_exponents exponents_at monomials monomial_count exponents_up_to degree_limit flat_map count_from
slots_tested = refl

pub slot_at : (k : ℕ) → k < monomial_count → slot (exponents_at k) ≡ k
slot_at k h =
    eqb-true (slot (exponents_at k)) k (all_at (λ k. eqb (slot (exponents_at k)) k) 0 monomial_count k slots_tested (omega arith) (omega arith))

-- ---- products of two monomials

module _ (i k : ℕ) (u : i < monomial_count) (w : k < monomial_count) where
  product_degree : exponent_sum (sum_exponents (exponents_at i) (exponents_at k)) ≡ degree_at i + degree_at k
  unfolding degree_at
  product_degree = sum_exponents_lem (exponents_at i) (exponents_at k)

  product_length : length (sum_exponents (exponents_at i) (exponents_at k)) ≡ 4
  product_length =
      length_sum (exponents_at i) (exponents_at k) (monomial_length i u ∙ sym (monomial_length k w)) ∙ monomial_length i u

  -- a product whose degree is within the limit has a place
  pub product_placed : degree_at i + degree_at k ≤ degree_limit → product_slot i k < monomial_count
  unfolding product_slot
  product_placed h =
      slot_found (sum_exponents (exponents_at i) (exponents_at k)) product_length (subst (λ (d : ℕ). d ≤ degree_limit) (sym product_degree) h)
