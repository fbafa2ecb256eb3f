-- The order of the terms cannot matter: over any list of terms within the limits and any vertex that a box may have, every permutation has the
-- same sum, and no partial sum of any of them leaves 64 bits. Permutations are mathlib's.
use mathlib.Core.Path.{◌≡◌, refl, sym, ap, ap₂, ◌∙◌}
use mathlib.Core.Bool.{Bool, true, ◌&&◌, and_assoc, and_comm, Bool-set}
use mathlib.Core.List.{List, [], ◌∷◌, map, Perm, Permᴰ}
use mathlib.Core.Logic.{∥∥₁_elim}
use Prim.Native.Nat.{ℕ, suc, zero, ◌+◌, ◌*◌, ◌^◌, ◌-◌, ◌≤◌, ◌<◌}
use native.Mathlib.Omega.{arith}
use native.Mathlib.Bridge.{le_prop}
use native.Mathlib.Nat.{zero-mul, le_trans, pow-zero, one-le-pow, pow-le-pow_right, mul-le-mul, le_refl}
use lib.IntN.{ℤ, pos, nat_abs, ℤ_set}
use lib.ListN.{length, take, replicate, length-replicate}
use lib.Dec.{leb, lit≤, lit<}
use lib.Pow.{pow-add}
use borrow.Author.Tests.{leb-true}
use Rattle.exact.specs.Int.{◌⊕◌, ◌⊗◌, power, 0ℤ}
use Rattle.exact.specs.Size.{Size}
use Rattle.exact.proofs.AndTests.{and_left, and_right, and-true}
use Rattle.exact.proofs.Ring.{⊕_is, add_assoc, add_comm, add-zero, zero-add}
use Rattle.exact.proofs.SizeLaws.{size_pos, size_weaken, size_add, size_mul, size_power, size_fits_64}
use Rattle.curves.specs.Grid.{Vertex}
use Rattle.curves.specs.Step.{every}
use Rattle.paper.specs.Limits.{coordinate_limit, term_limit, coefficient_limit, degree_limit}
use Rattle.paper.specs.RunningSum.{Term, powers_product, value_at, add_terms, sum_in_order, partial_sum, exponent_sum, term_within, TermsWithin, vertex_within}
use Rattle.paper.specs.RunningSum.{monomial_limit, term_size, partial_sum_limit}
use Rattle.paper.specs.AnyOrder.{AnyOrder, ReachesLimit}
use Rattle.paper.proofs.Taken.{take_short}
use Rattle.paper.proofs.TermLimit.{term_limit_most}

-- ---- the sum of a list

-- terms added to a sum: the sum, and the sum of the terms
sum_added : (v : Vertex) (s : ℤ) (ts : List Term) → add_terms v s ts ≡ s ⊕ sum_in_order v ts
unfolding add_terms sum_in_order
sum_added v s [] = sym (add-zero s)
sum_added v s (t ∷ ts) =
    sum_added v (s ⊕ value_at v t) ts
    ∙ add_assoc s (value_at v t) (add_terms v 0ℤ ts)
    ∙ ap (λ x. s ⊕ x) (ap (λ x. x ⊕ add_terms v 0ℤ ts) (sym (zero-add (value_at v t))) ∙ sym (sum_added v (0ℤ ⊕ value_at v t) ts))

pub sum_none : (v : Vertex) → sum_in_order v [] ≡ 0ℤ
unfolding add_terms sum_in_order
sum_none v = refl

pub sum_first : (v : Vertex) (t : Term) (ts : List Term) → sum_in_order v (t ∷ ts) ≡ value_at v t ⊕ sum_in_order v ts
unfolding add_terms sum_in_order
sum_first v t ts = sum_added v (0ℤ ⊕ value_at v t) ts ∙ ap (λ x. x ⊕ add_terms v 0ℤ ts) (zero-add (value_at v t))

-- ---- every permutation has the same sum

exchange : (a b c : ℤ) → b ⊕ (a ⊕ c) ≡ a ⊕ (b ⊕ c)
exchange a b c = sym (add_assoc b a c) ∙ ap (λ x. x ⊕ c) (add_comm b a) ∙ add_assoc a b c

sum_derived : (v : Vertex) {ts us : List Term} → Permᴰ ts us → sum_in_order v us ≡ sum_in_order v ts
sum_derived v Permᴰ.nil = refl
sum_derived v (Permᴰ.cons {a} {b} {l₁} {l₂} e d) =
    sum_first v b l₂ ∙ ap₂ (λ x y. x ⊕ y) (ap (value_at v) (sym e)) (sum_derived v d) ∙ sym (sum_first v a l₁)
sum_derived v (Permᴰ.swap {a} {b} {a'} {b'} {l} e f) =
    two v a' b' l ∙ ap₂ (λ x y. value_at v x ⊕ (value_at v y ⊕ sum_in_order v l)) (sym f) (sym e)
    ∙ exchange (value_at v a) (value_at v b) (sum_in_order v l) ∙ sym (two v a b l)
  where
    two : (v : Vertex) (t u : Term) (l : List Term) → sum_in_order v (t ∷ u ∷ l) ≡ value_at v t ⊕ (value_at v u ⊕ sum_in_order v l)
    two v t u l = sum_first v t (u ∷ l) ∙ ap (λ x. value_at v t ⊕ x) (sum_first v u l)
sum_derived v (Permᴰ.trans d e) = sum_derived v e ∙ sum_derived v d

pub any_order : (v : Vertex) {ts us : List Term} → Perm ts us → sum_in_order v us ≡ sum_in_order v ts
any_order v p = ∥∥₁_elim p (ℤ_set _ _) (sum_derived v)

-- ---- and stays within the limits

module _ {A : Type 0} (test : A → Bool) where
  every_derived : {l m : List A} → Permᴰ l m → every test m ≡ every test l
  unfolding every
  every_derived Permᴰ.nil = refl
  every_derived (Permᴰ.cons e d) = ap₂ (λ x y. test x && y) (sym e) (every_derived d)
  every_derived (Permᴰ.swap {a} {b} {a'} {b'} {l} e f) =
      ap₂ (λ x y. test x && (test y && every test l)) (sym f) (sym e) ∙ sym (and_assoc (test b) (test a) (every test l))
      ∙ ap (λ x. x && every test l) (and_comm (test b) (test a)) ∙ and_assoc (test a) (test b) (every test l)
  every_derived (Permᴰ.trans d e) = every_derived e ∙ every_derived d

  -- the first k of a list
  every_take : (k : ℕ) (l : List A) → every test l ≡ true → every test (take k l) ≡ true
  unfolding every
  every_take zero l h = refl
  every_take (suc k) [] h = refl
  every_take (suc k) (x ∷ l) h = and-true (and_left (test x) (every test l) h) (every_take k l (and_right (test x) (every test l) h))

length_derived : {A : Type 0} {l m : List A} → Permᴰ l m → length m ≡ length l
length_derived Permᴰ.nil = refl
length_derived (Permᴰ.cons e d) = ap suc (length_derived d)
length_derived (Permᴰ.swap e f) = refl
length_derived (Permᴰ.trans d e) = length_derived e ∙ length_derived d

within_any_order : (n : ℕ) {ts us : List Term} → Perm ts us → TermsWithin n ts → TermsWithin n us
within_any_order n p h =
    record {
      count = ∥∥₁_elim p le_prop (λ d. rw (length_derived d) h.count);
      each = ∥∥₁_elim p (Bool-set _ _) (every_derived term_within) ∙ h.each;
    }

-- ---- the size of a term

product_size : (es : List ℕ) (v : Vertex) → vertex_within v ≡ true → Size (coordinate_limit ^ exponent_sum es) (powers_product es v)
unfolding exponent_sum powers_product vertex_within every
product_size [] v h = rw pow-zero (size_pos 1)
product_size (e ∷ es) [] h = size_weaken (size_pos 1) (unfold coordinate_limit in one-le-pow (e + exponent_sum es) coordinate_limit (lit< tt))
product_size (e ∷ es) (x ∷ v) h =
    let near : Bool = leb (nat_abs x) coordinate_limit in
    let rest : Bool = every (λ y. leb (nat_abs y) coordinate_limit) v in
    let one : Size coordinate_limit x = record { size = leb-true _ _ (and_left near rest h) } in
    rw pow-add (size_mul (size_power one e) (product_size es v (and_right near rest h)))

term_bound_lem : (v : Vertex) (t : Term) → vertex_within v ≡ true → term_within t ≡ true → Size term_size (value_at v t)
unfolding term_within value_at term_size monomial_limit coordinate_limit
term_bound_lem v t near h =
    let small : Bool = leb (nat_abs t.coefficient) coefficient_limit in
    let low : Bool = leb (exponent_sum t.exponents) degree_limit in
    let degree = leb-true _ _ (and_right small low h) in
    size_mul (record { size = leb-true _ _ (and_left small low h) }) (size_weaken (product_size t.exponents v near) (pow-le-pow_right (lit< tt) degree))

-- ---- the size of a sum

sum_size : (v : Vertex) (ts : List Term) → vertex_within v ≡ true → every term_within ts ≡ true → Size (length ts * term_size) (sum_in_order v ts)
unfolding every
sum_size v [] near h = rw (sum_none v) (record { size = omega arith })
sum_size v (t ∷ ts) near h =
    let head = term_bound_lem v t near (and_left (term_within t) (every term_within ts) h) in
    let tail = sum_size v ts near (and_right (term_within t) (every term_within ts) h) in
    rw (sum_first v t ts) (size_weaken (size_add head tail) (omega arith))

pub partial_size :
    (n : ℕ) (v : Vertex) (ts : List Term) → vertex_within v ≡ true → TermsWithin n ts → (k : ℕ) → Size (partial_sum_limit n) (partial_sum v ts k)
unfolding partial_sum partial_sum_limit
partial_size n v ts near h k =
    let count : length (take k ts) ≤ term_limit n = omega (arith, take_short k ts, h.count) in
    size_weaken (sum_size v (take k ts) near (every_take term_within k ts h.each)) (mul-le-mul count (le_refl term_size))

-- ---- inside 64 bits

-- the bound in numbers, for n = 2, 3 and 4
pub limit_numbers : map partial_sum_limit (2 ∷ 3 ∷ 4 ∷ []) ≡ 15 * 2 ^ 52 ∷ 35 * 2 ^ 52 ∷ 70 * 2 ^ 52 ∷ []
unfolding partial_sum_limit term_limit term_size monomial_limit coefficient_limit coordinate_limit degree_limit
limit_numbers = refl

-- in every dimension
pub limit_most : (n : ℕ) → partial_sum_limit n ≤ 70 * term_size
unfolding partial_sum_limit
limit_most n = mul-le-mul (term_limit_most n) (le_refl term_size)

pub limit_word : (n : ℕ) → partial_sum_limit n ≤ 2 ^ 63 - 1
unfolding term_size monomial_limit coefficient_limit coordinate_limit degree_limit
limit_word n = le_trans (limit_most n) (lit≤ tt)

-- ---- the bound is reached

-- 1,048,576·x⁴, which is a term's size at x = 256
unfoldable pub largest_term : Term
largest_term = record { coefficient = pos coefficient_limit; exponents = degree_limit ∷ [] }

largest_value : (w : Vertex) → value_at (pos coordinate_limit ∷ w) largest_term ≡ pos term_size
unfolding largest_term value_at powers_product power ◌⊗◌ term_size monomial_limit coefficient_limit coordinate_limit degree_limit
largest_value w = refl

term_some : 0 < term_size
unfolding term_size monomial_limit coefficient_limit coordinate_limit degree_limit
term_some = lit< tt

largest_each : (m : ℕ) → every term_within (replicate m largest_term) ≡ true
unfolding every term_within largest_term exponent_sum coefficient_limit degree_limit
largest_each zero = refl
largest_each (suc m) = largest_each m

-- m such terms
pub largest_sum : (m : ℕ) (w : Vertex) → sum_in_order (pos coordinate_limit ∷ w) (replicate m largest_term) ≡ pos (m * term_size)
largest_sum zero w = sum_none (pos coordinate_limit ∷ w) ∙ ap pos (sym (zero-mul term_size))
largest_sum (suc m) w =
    sum_first (pos coordinate_limit ∷ w) largest_term (replicate m largest_term)
    ∙ ap₂ (λ x y. x ⊕ y) (largest_value w) (largest_sum m w)
    ∙ ⊕_is (pos term_size) (pos (m * term_size))
    ∙ ap pos (next m term_size)
  where
    next : (m k : ℕ) → k + m * k ≡ suc m * k
    next m k = omega arith

-- as many as a body may hold, at a vertex of a box
pub limit_reached : (n : ℕ) (w : Vertex) → vertex_within w ≡ true → ReachesLimit n (pos coordinate_limit ∷ w) (replicate (term_limit n) largest_term)
unfolding partial_sum_limit vertex_within every coordinate_limit
limit_reached n w h =
    let count : length (replicate (term_limit n) largest_term) ≡ term_limit n = length-replicate (term_limit n) largest_term in
    record {
      terms = record { count = omega (arith, count); each = largest_each (term_limit n) };
      vertex = h;
      sum = largest_sum (term_limit n) w;
    }

-- one more
pub limit_left : (n : ℕ) (w : Vertex) → partial_sum_limit n < nat_abs (sum_in_order (pos coordinate_limit ∷ w) (replicate (term_limit n + 1) largest_term))
unfolding partial_sum_limit
limit_left n w = rw (largest_sum (term_limit n + 1) w) (more (term_limit n) term_size term_some)
  where
    more : (m k : ℕ) → 0 < k → m * k < (m + 1) * k
    more m k h = omega (arith, h)

-- ---- the theorem

pub order_cannot_matter : (n : ℕ) (v : Vertex) (ts : List Term) → vertex_within v ≡ true → TermsWithin n ts → AnyOrder n v ts
order_cannot_matter n v ts near h =
    record {
      same_sum = λ us p. any_order v p;
      within_limit = within;
      within_64_bits = λ us p k. size_fits_64 (size_weaken (within us p k) (limit_word n));
    }
  where
    within : (us : List Term) → Perm ts us → (k : ℕ) → Size (partial_sum_limit n) (partial_sum v us k)
    within us p = partial_size n v us near (within_any_order n p h)
