-- A solver for identities between polynomials over the whole numbers. Both sides are written as expressions (`Expr`) over a list of
-- numbers; `solve` proves them equal if their normal forms are, which is settled by computation (`refl`). Two examples stand at the end.
-- A normal form is a sum of terms, each a coefficient that is not 0 and a rising list of indices, sorted by these lists.
use mathlib.Core.Path.{◌≡◌, refl, sym, ap, ◌∙◌}
use mathlib.Core.Bool.{Bool, true, false, cond}
use mathlib.Core.List.{List, [], ◌∷◌}
use Prim.Native.Nat.{ℕ, suc, zero, compare, Ordering}
use lib.Dec.{T, compare_is_eq, leb, eqb→eq}
use lib.IntN.{ℤ, pos, negsuc, neg_ℤ, ◌+ℤ◌, ◌*ℤ◌}
use lib.ListN.{get_or}
use Rattle.exact.specs.Int.{◌⊕◌, ◌⊖◌, ◌⊗◌, neg, 0ℤ, 1ℤ}
use Rattle.exact.proofs.Ring.{⊕_is, ⊗_is, neg_is, add_assoc, add_comm, zero-add, add-zero, neg_sum, neg_zero, neg_mul, sub_eq, mul_assoc, mul_comm, one_mul, mul-one, zero-mul, distrib_left, distrib_right}

infixl 65 ◌:+◌ ◌:-◌
infixl 70 ◌:*◌
-- ---- expressions
pub data Expr : Type 0 where
  var : ℕ → Expr
  con : ℤ → Expr
  ◌:+◌ ◌:-◌ ◌:*◌ : Expr → Expr → Expr
  :neg : Expr → Expr

-- the number that an expression stands for; variable k is number k of the list
abbrev pub eval : List ℤ → Expr → ℤ
eval xs (var k) = get_or xs k 0ℤ
eval xs (con c) = c
eval xs (a :+ b) = eval xs a ⊕ eval xs b
eval xs (a :- b) = eval xs a ⊖ eval xs b
eval xs (a :* b) = eval xs a ⊗ eval xs b
eval xs (:neg a) = neg (eval xs a)

-- ---- normal forms
pub data Poly : Type 0 where
  nil : Poly
  term : ℤ → List ℕ → Poly → Poly

abbrev pub vars : List ℤ → List ℕ → ℤ
vars xs [] = 1ℤ
vars xs (k ∷ ks) = get_or xs k 0ℤ ⊗ vars xs ks

abbrev pub value : List ℤ → Poly → ℤ
value xs nil = 0ℤ
value xs (term c m p) = c ⊗ vars xs m ⊕ value xs p

abbrev pub insert_var : ℕ → List ℕ → List ℕ
insert_var k [] = k ∷ []
insert_var k (j ∷ js) = let r = j ∷ insert_var k js in cond (leb k j) (k ∷ j ∷ js) r

abbrev pub merge_vars : List ℕ → List ℕ → List ℕ
merge_vars [] js = js
merge_vars (k ∷ ks) js = insert_var k (merge_vars ks js)

abbrev pub or_then : Ordering → Ordering → Ordering
or_then Ordering.lt o = Ordering.lt
or_then Ordering.eq o = o
or_then Ordering.gt o = Ordering.gt

abbrev pub compare_vars : List ℕ → List ℕ → Ordering
compare_vars [] [] = Ordering.eq
compare_vars [] (j ∷ js) = Ordering.lt
compare_vars (k ∷ ks) [] = Ordering.gt
compare_vars (k ∷ ks) (j ∷ js) = or_then (compare k j) (compare_vars ks js)

-- a term in front, unless its coefficient is 0
abbrev pub keep : ℤ → List ℕ → Poly → Poly
keep (pos zero) m p = p
keep (pos (suc n)) m p = term (pos (suc n)) m p
keep (negsuc n) m p = term (negsuc n) m p

-- by the order of m and k: the term c, m in front of, into or behind the term d, k; r is p with c, m inserted
abbrev pub place : Ordering → ℤ → List ℕ → ℤ → List ℕ → Poly → Poly → Poly
place Ordering.lt c m d k p r = term c m (term d k p)
place Ordering.eq c m d k p r = keep (c +ℤ d) k p
place Ordering.gt c m d k p r = term d k r

abbrev pub insert : ℤ → List ℕ → Poly → Poly
insert c m nil = term c m nil
insert c m (term d k p) = let r = insert c m p in place (compare_vars m k) c m d k p r

abbrev pub poly_sum : Poly → Poly → Poly
poly_sum nil q = q
poly_sum (term c m p) q = insert c m (poly_sum p q)

abbrev pub poly_neg : Poly → Poly
poly_neg nil = nil
poly_neg (term c m p) = term (neg_ℤ c) m (poly_neg p)

-- a term times q, added to r
abbrev pub term_times : ℤ → List ℕ → Poly → Poly → Poly
term_times c m nil r = r
term_times c m (term d k q) r = insert (c *ℤ d) (merge_vars m k) (term_times c m q r)

abbrev pub poly_product : Poly → Poly → Poly
poly_product nil q = nil
poly_product (term c m p) q = term_times c m q (poly_product p q)

abbrev pub norm : Expr → Poly
norm (var k) = term 1ℤ (k ∷ []) nil
norm (con c) = keep c [] nil
norm (a :+ b) = poly_sum (norm a) (norm b)
norm (a :- b) = poly_sum (norm a) (poly_neg (norm b))
norm (a :* b) = poly_product (norm a) (norm b)
norm (:neg a) = poly_neg (norm a)

-- ---- the normal form has the value of the expression
both_same : (o p : Ordering) → T (compare_is_eq (or_then o p)) → (T (compare_is_eq o)) × (T (compare_is_eq p))
both_same Ordering.lt p t = absurd t
both_same Ordering.eq p t = (tt, t)
both_same Ordering.gt p t = absurd t

compare_vars_same : (ks js : List ℕ) → T (compare_is_eq (compare_vars ks js)) → ks ≡ js
compare_vars_same [] [] t = refl
compare_vars_same [] (j ∷ js) t = absurd t
compare_vars_same (k ∷ ks) [] t = absurd t
compare_vars_same (k ∷ ks) (j ∷ js) t =
    let b : (T (compare_is_eq (compare k j))) × (T (compare_is_eq (compare_vars ks js))) = both_same (compare k j) (compare_vars ks js) t in
    let e : k ≡ j = eqb→eq k j b.0 in
    let f : ks ≡ js = compare_vars_same ks js b.1 in
    cc

-- a + (b + c) = b + (a + c), and the same of products
add_left_comm : (a b c : ℤ) → a ⊕ (b ⊕ c) ≡ b ⊕ (a ⊕ c)
add_left_comm a b c = sym (add_assoc a b c) ∙ ap (λ x. x ⊕ c) (add_comm a b) ∙ add_assoc b a c

mul_left_comm : (a b c : ℤ) → a ⊗ (b ⊗ c) ≡ b ⊗ (a ⊗ c)
mul_left_comm a b c = sym (mul_assoc a b c) ∙ ap (λ x. x ⊗ c) (mul_comm a b) ∙ mul_assoc b a c

module _ (xs : List ℤ) where
  cond_vars : (t : Bool) (m k : List ℕ) (v : ℤ) → vars xs m ≡ v → vars xs k ≡ v → vars xs (cond t m k) ≡ v
  cond_vars true m k v e f = e
  cond_vars false m k v e f = f

  insert_var_vars : (k : ℕ) (js : List ℕ) → vars xs (insert_var k js) ≡ get_or xs k 0ℤ ⊗ vars xs js
  insert_var_vars k [] = refl
  insert_var_vars k (j ∷ js) =
      cond_vars (leb k j) (k ∷ j ∷ js) (j ∷ insert_var k js) (get_or xs k 0ℤ ⊗ vars xs (j ∷ js)) refl
      (ap (λ x. get_or xs j 0ℤ ⊗ x) (insert_var_vars k js) ∙ mul_left_comm (get_or xs j 0ℤ) (get_or xs k 0ℤ) (vars xs js))

  merge_vars_vars : (ks js : List ℕ) → vars xs (merge_vars ks js) ≡ vars xs ks ⊗ vars xs js
  merge_vars_vars [] js = sym (one_mul (vars xs js))
  merge_vars_vars (k ∷ ks) js =
      insert_var_vars k (merge_vars ks js) ∙ ap (λ x. get_or xs k 0ℤ ⊗ x) (merge_vars_vars ks js) ∙ sym (mul_assoc (get_or xs k 0ℤ) (vars xs ks) (vars xs js))

  keep_value : (c : ℤ) (m : List ℕ) (p : Poly) → value xs (keep c m p) ≡ c ⊗ vars xs m ⊕ value xs p
  keep_value (pos zero) m p = sym (ap (λ x. x ⊕ value xs p) (zero-mul (vars xs m)) ∙ zero-add (value xs p))
  keep_value (pos (suc n)) m p = refl
  keep_value (negsuc n) m p = refl

  place_value : (o : Ordering) (c : ℤ) (m : List ℕ) (d : ℤ) (k : List ℕ) (p r : Poly) → (T (compare_is_eq o) → m ≡ k) → value xs r ≡ c ⊗ vars xs m ⊕ value xs p → value xs (place o c m d k p r) ≡ c ⊗ vars xs m ⊕ (d ⊗ vars xs k ⊕ value xs p)
  place_value Ordering.lt c m d k p r same h = refl
  place_value Ordering.eq c m d k p r same h =
      keep_value (c +ℤ d) k p ∙ ap (λ x. x ⊗ vars xs k ⊕ value xs p) (sym (⊕_is c d)) ∙ ap (λ x. x ⊕ value xs p) (distrib_right c d (vars xs k)) ∙ add_assoc (c ⊗ vars xs k) (d ⊗ vars xs k) (value xs p) ∙ ap (λ x. c ⊗ vars xs x ⊕ (d ⊗ vars xs k ⊕ value xs p)) (sym (same tt))
  place_value Ordering.gt c m d k p r same h =
      ap (λ x. d ⊗ vars xs k ⊕ x) h ∙ add_left_comm (d ⊗ vars xs k) (c ⊗ vars xs m) (value xs p)

  insert_value : (c : ℤ) (m : List ℕ) (p : Poly) → value xs (insert c m p) ≡ c ⊗ vars xs m ⊕ value xs p
  insert_value c m nil = refl
  insert_value c m (term d k p) =
      place_value (compare_vars m k) c m d k p (insert c m p) (compare_vars_same m k) (insert_value c m p)

  poly_sum_value : (p q : Poly) → value xs (poly_sum p q) ≡ value xs p ⊕ value xs q
  poly_sum_value nil q = sym (zero-add (value xs q))
  poly_sum_value (term c m p) q =
      insert_value c m (poly_sum p q) ∙ ap (λ x. c ⊗ vars xs m ⊕ x) (poly_sum_value p q) ∙ sym (add_assoc (c ⊗ vars xs m) (value xs p) (value xs q))

  poly_neg_value : (p : Poly) → value xs (poly_neg p) ≡ neg (value xs p)
  poly_neg_value nil = sym neg_zero
  poly_neg_value (term c m p) =
      ap (λ x. neg_ℤ c ⊗ vars xs m ⊕ x) (poly_neg_value p) ∙ ap (λ x. x ⊗ vars xs m ⊕ neg (value xs p)) (sym (neg_is c)) ∙ ap (λ x. x ⊕ neg (value xs p)) (neg_mul c (vars xs m)) ∙ sym (neg_sum (c ⊗ vars xs m) (value xs p))

  -- (c d) (u v) = (c u) (d v)
  mul_interchange : (c d u v : ℤ) → (c ⊗ d) ⊗ (u ⊗ v) ≡ (c ⊗ u) ⊗ (d ⊗ v)
  mul_interchange c d u v =
      mul_assoc c d (u ⊗ v) ∙ ap (λ x. c ⊗ x) (mul_left_comm d u v) ∙ sym (mul_assoc c u (d ⊗ v))

  term_times_value : (c : ℤ) (m : List ℕ) (q r : Poly) → value xs (term_times c m q r) ≡ (c ⊗ vars xs m) ⊗ value xs q ⊕ value xs r
  term_times_value c m nil r =
      sym (ap (λ x. x ⊕ value xs r) (mul_comm (c ⊗ vars xs m) 0ℤ ∙ zero-mul (c ⊗ vars xs m)) ∙ zero-add (value xs r))
  term_times_value c m (term d k q) r =
      insert_value (c *ℤ d) (merge_vars m k) (term_times c m q r) ∙ ap (λ x. x ⊗ vars xs (merge_vars m k) ⊕ value xs (term_times c m q r)) (sym (⊗_is c d)) ∙ ap (λ x. (c ⊗ d) ⊗ x ⊕ value xs (term_times c m q r)) (merge_vars_vars m k) ∙ ap (λ x. x ⊕ value xs (term_times c m q r)) (mul_interchange c d (vars xs m) (vars xs k)) ∙ ap (λ x. (c ⊗ vars xs m) ⊗ (d ⊗ vars xs k) ⊕ x) (term_times_value c m q r) ∙ sym (add_assoc ((c ⊗ vars xs m) ⊗ (d ⊗ vars xs k)) ((c ⊗ vars xs m) ⊗ value xs q) (value xs r)) ∙ ap (λ x. x ⊕ value xs r) (sym (distrib_left (c ⊗ vars xs m) (d ⊗ vars xs k) (value xs q)))

  poly_product_value : (p q : Poly) → value xs (poly_product p q) ≡ value xs p ⊗ value xs q
  poly_product_value nil q = sym (zero-mul (value xs q))
  poly_product_value (term c m p) q =
      term_times_value c m q (poly_product p q) ∙ ap (λ x. (c ⊗ vars xs m) ⊗ value xs q ⊕ x) (poly_product_value p q) ∙ sym (distrib_right (c ⊗ vars xs m) (value xs p) (value xs q))

  norm_value : (a : Expr) → value xs (norm a) ≡ eval xs a
  norm_value (var k) =
      add-zero (1ℤ ⊗ (get_or xs k 0ℤ ⊗ 1ℤ)) ∙ one_mul (get_or xs k 0ℤ ⊗ 1ℤ) ∙ mul-one (get_or xs k 0ℤ)
  norm_value (con c) = keep_value c [] nil ∙ add-zero (c ⊗ 1ℤ) ∙ mul-one c
  norm_value (a :+ b) =
      poly_sum_value (norm a) (norm b) ∙ ap (λ x. x ⊕ value xs (norm b)) (norm_value a) ∙ ap (λ x. eval xs a ⊕ x) (norm_value b)
  norm_value (a :- b) =
      poly_sum_value (norm a) (poly_neg (norm b)) ∙ ap (λ x. x ⊕ value xs (poly_neg (norm b))) (norm_value a) ∙ ap (λ x. eval xs a ⊕ x) (poly_neg_value (norm b) ∙ ap neg (norm_value b)) ∙ sym (sub_eq (eval xs a) (eval xs b))
  norm_value (a :* b) =
      poly_product_value (norm a) (norm b) ∙ ap (λ x. x ⊗ value xs (norm b)) (norm_value a) ∙ ap (λ x. eval xs a ⊗ x) (norm_value b)
  norm_value (:neg a) = poly_neg_value (norm a) ∙ ap neg (norm_value a)

-- two expressions with the same normal form are equal at every list of numbers
pub solve : (a b : Expr) (xs : List ℤ) → norm a ≡ norm b → eval xs a ≡ eval xs b
solve a b xs e = sym (norm_value xs a) ∙ ap (λ p. value xs p) e ∙ norm_value xs b

-- ---- how to use it
-- name the variables once, write both sides, give the numbers in the order of the variables, and `refl`
difference_of_squares : (a b : ℤ) → (a ⊕ b) ⊗ (a ⊖ b) ≡ a ⊗ a ⊖ b ⊗ b
difference_of_squares a b =
    let x = var 0 in
    let y = var 1 in
    solve ((x :+ y) :* (x :- y)) (x :* x :- y :* y) (a ∷ b ∷ []) refl

-- a number of the list can be any term, here a call of f; constants are written by `con`
square_as_opposite : (f : ℤ → ℤ) (a : ℤ) → f a ⊗ (f a ⊖ 1ℤ) ⊕ f a ≡ neg (neg (f a) ⊗ f a)
square_as_opposite f a =
    let x = var 0 in
    solve (x :* (x :- con 1ℤ) :+ x) (:neg (:neg x :* x)) (f a ∷ []) refl
