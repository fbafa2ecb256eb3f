-- A polynomial summed from its last term to its first: the running sum after k terms is the sum of the last k, both directions give the sum of
-- the polynomial, and so does every other order, at every vertex of the box.
use mathlib.Core.Path.{◌≡◌, refl, sym, ap, ap₂, subst, ◌∙◌}
use mathlib.Core.Bool.{Bool, true, ◌&&◌}
use mathlib.Core.List.Perm
use mathlib.Core.List.{List, [], ◌∷◌, ◌++◌, map, reverse, reverse-append, reverse_perm}
use Prim.Native.Nat.{ℕ, suc, zero, ◌+◌, ◌-◌, ◌≤◌, ◌<◌}
use native.Mathlib.Omega.{arith}
use native.Mathlib.Nat.{le_trans}
use lib.IntN.{ℤ}
use lib.ListN.{length, take, drop, take-append-drop, length-drop, length-reverse}
use lib.Dec.{lit<}
use lib.Seq.{take_at}
use lib.Signed.{le_z}
use borrow.Author.Tests.{leb-true, le-leb, not-false}
use Rattle.exact.specs.Int.{◌⊕◌, ◌⊗◌, power}
use Rattle.exact.specs.Size.{Size}
use Rattle.exact.specs.Crossed.{count_from}
use Rattle.exact.proofs.AndTests.{and_left, and_right, and-true}
use Rattle.exact.proofs.Ring.{add_comm}
use Rattle.exact.proofs.CountFrom.{length_map_count_from}
use Rattle.curves.specs.Grid.{Vertex}
use Rattle.curves.specs.Step.{every}
use Rattle.paper.specs.Limits.{coordinate_limit, term_limit, degree_limit}
use Rattle.paper.specs.Job.{dimension, body, term_count, coefficient_of, exponent_of, degree, low_end, high_end, box_ok, polynomial_ok, open_refusal}
use Rattle.paper.specs.Values.{monomial, term_value, sum_from, raw_sum, inside_from, field_from, field_of}
use Rattle.paper.specs.RunningSum.{Term, powers_product, value_at, sum_in_order, partial_sum, exponent_sum, term_within, TermsWithin, vertex_within, partial_sum_limit}
use Rattle.paper.specs.RunningSum.{term_of, terms_of, running_sum, sum_of_last, summed_body, summed_vertex, running_sum_refusal, running_summed}
use Rattle.paper.specs.AnyOrder.{AnyOrder, BodyAnyOrder}
use Rattle.paper.specs.Operations.{answered}
use Rattle.paper.proofs.Tests.{every_all}
use Rattle.paper.proofs.Taken.{take_most}
use Rattle.paper.proofs.Terms.{polynomial_term, box_axis, between_size}
use Rattle.paper.proofs.Refusals.{not_refused, neither_refused, unless_answered}
use Rattle.paper.proofs.Opens.{opens, opens_range}
use Rattle.paper.proofs.Bodies.{terms_high}
use Rattle.paper.proofs.AnyOrder.{sum_none, sum_first, any_order, order_cannot_matter}

-- ---- any list of terms

take_reverse : {A : Type 0} (l : List A) (k : ℕ) → k ≤ length l → take k (reverse l) ≡ reverse (drop (length l - k) l)
take_reverse l k h =
    let m : ℕ = length l - k in
    let count : length (reverse (drop m l)) ≡ k = length-reverse (drop m l) ∙ length-drop m l ∙ left (length l) k h in
    let whole : reverse l ≡ reverse (drop m l) ++ reverse (take m l) = ap reverse (sym (take-append-drop m l)) ∙ reverse-append (take m l) (drop m l) in
    ap (take k) whole ∙ take_at (reverse (drop m l)) (reverse (take m l)) k count
  where
    left : (a b : ℕ) → b ≤ a → a - (a - b) ≡ b
    left a b h = omega arith

-- from the last term on, the partial sum after k terms is the sum of the last k
pub last_of_any : (v : Vertex) (ts : List Term) (k : ℕ) → k ≤ length ts → partial_sum v (reverse ts) k ≡ sum_in_order v (drop (length ts - k) ts)
unfolding partial_sum
last_of_any v ts k h = ap (sum_in_order v) (take_reverse ts k h) ∙ sym (any_order v (reverse_perm (drop (length ts - k) ts)))

-- ---- the terms of a body

product_from : (b : List ℕ) (i a m : ℕ) (v : Vertex) → length v ≤ m → powers_product (map (exponent_of b i) (count_from a m)) v ≡ monomial b i a v
unfolding powers_product monomial count_from
product_from b i a zero [] h = refl
product_from b i a (suc m) [] h = refl
product_from b i a zero (x ∷ v) h = absurd (omega arith)
product_from b i a (suc m) (x ∷ v) h = ap (λ y. power x (exponent_of b i a) ⊗ y) (product_from b i (suc a) m v (omega arith))

term_value_is : (b : List ℕ) (v : Vertex) (i : ℕ) → length v ≤ 4 → value_at v (term_of b i) ≡ term_value b v i
unfolding value_at term_of term_value
term_value_is b v i h = ap (λ y. coefficient_of b i ⊗ y) (product_from b i 0 4 v h)

sum_from_is : (b : List ℕ) (v : Vertex) (i m : ℕ) → length v ≤ 4 → sum_in_order v (map (term_of b) (count_from i m)) ≡ sum_from b v i m
unfolding count_from sum_from
sum_from_is b v i zero h = sum_none v
sum_from_is b v i (suc m) h =
    let next : suc i ≡ i + 1 = omega arith in
    sum_first v (term_of b i) (map (term_of b) (count_from (suc i) m))
    ∙ ap₂ (λ x y. x ⊕ y) (term_value_is b v i h) (sum_from_is b v (suc i) m h ∙ ap (λ (j : ℕ). sum_from b v j m) next)

drop_counted : {A : Type 0} (f : ℕ → A) (i m k : ℕ) → drop k (map f (count_from i m)) ≡ map f (count_from (i + k) (m - k))
unfolding count_from
drop_counted f i m zero =
    let from : i ≡ i + 0 = omega arith in
    let count : m ≡ m - 0 = omega arith in
    ap₂ (λ (a c : ℕ). map f (count_from a c)) from count
drop_counted f i zero (suc k) =
    let count : 0 ≡ 0 - suc k = omega arith in
    ap (λ (c : ℕ). map f (count_from (i + suc k) c)) count
drop_counted f i (suc m) (suc k) =
    let from : suc i + k ≡ i + suc k = omega arith in
    let count : m - k ≡ suc m - suc k = omega arith in
    drop_counted f (suc i) m k ∙ ap₂ (λ (a c : ℕ). map f (count_from a c)) from count

terms_counted : (b : List ℕ) → length (terms_of b) ≡ term_count b
unfolding terms_of
terms_counted b = length_map_count_from (term_of b) 0 (term_count b)

sum_dropped : (b : List ℕ) (v : Vertex) (i : ℕ) → length v ≤ 4 → sum_in_order v (drop i (terms_of b)) ≡ sum_from b v i (term_count b - i)
unfolding terms_of
sum_dropped b v i h =
    let from : 0 + i ≡ i = omega arith in
    ap (sum_in_order v) (drop_counted (term_of b) 0 (term_count b) i)
    ∙ sum_from_is b v (0 + i) (term_count b - i) h
    ∙ ap (λ (j : ℕ). sum_from b v j (term_count b - i)) from

-- the running sum after k terms is that of the last k
pub running_sum_is_last : (b : List ℕ) (v : Vertex) (k : ℕ) → length v ≤ 4 → k ≤ term_count b → running_sum b v k ≡ sum_of_last b v k
unfolding running_sum sum_of_last
running_sum_is_last b v k h l =
    let m : ℕ = term_count b - k in
    let count : term_count b - m ≡ k = omega arith in
    last_of_any v (terms_of b) k (subst (λ (c : ℕ). k ≤ c) (sym (terms_counted b)) l)
    ∙ ap (λ (c : ℕ). sum_in_order v (drop (c - k) (terms_of b))) (terms_counted b)
    ∙ sum_dropped b v m h
    ∙ ap (sum_from b v m) count

-- ---- both directions

pub first_to_last : (b : List ℕ) (v : Vertex) → length v ≤ 4 → sum_in_order v (terms_of b) ≡ raw_sum b v
unfolding terms_of raw_sum
first_to_last b v h = sum_from_is b v 0 (term_count b) h

pub last_to_first : (b : List ℕ) (v : Vertex) → length v ≤ 4 → sum_in_order v (reverse (terms_of b)) ≡ raw_sum b v
last_to_first b v h = sym (any_order v (reverse_perm (terms_of b))) ∙ first_to_last b v h

-- the running sum after all terms
pub running_sum_of_all : (b : List ℕ) (v : Vertex) → length v ≤ 4 → running_sum b v (term_count b) ≡ raw_sum b v
unfolding sum_of_last raw_sum
running_sum_of_all b v h =
    let none : term_count b - term_count b ≡ 0 = omega arith in
    running_sum_is_last b v (term_count b) h (omega arith) ∙ ap (λ (i : ℕ). sum_from b v i (term_count b)) none

-- one term more is the one before the last k
pub last_next : (b : List ℕ) (v : Vertex) (k : ℕ) → k < term_count b → sum_of_last b v (k + 1) ≡ sum_of_last b v k ⊕ term_value b v (term_count b - (k + 1))
unfolding sum_of_last sum_from
last_next b v k l =
    let i : ℕ = term_count b - (k + 1) in
    let one : k + 1 ≡ suc k = omega arith in
    let later : i + 1 ≡ term_count b - k = omega arith in
    ap (sum_from b v i) one ∙ add_comm (term_value b v i) (sum_from b v (i + 1) k)
    ∙ ap (λ (j : ℕ). sum_from b v j k ⊕ term_value b v i) later

-- ---- a body's terms are within the limits

pub exponents_sum : (b : List ℕ) (i : ℕ) → exponent_sum (term_of b i).exponents ≡ degree b i
unfolding exponent_sum term_of degree count_from
exponents_sum b i = omega arith

pub terms_within : (n : ℕ) (b : List ℕ) → polynomial_ok n b ≡ true → term_count b ≤ term_limit n → TermsWithin n (terms_of b)
unfolding terms_of term_of
terms_within n b h l =
    record {
      count = subst (λ (c : ℕ). c ≤ term_limit n) (sym (terms_counted b)) l;
      each = every_all term_within (term_of b) (term_count b) each;
    }
  where
    each : (i : ℕ) → i < term_count b → term_within (term_of b i) ≡ true
    each i u =
        let t = polynomial_term n b h i u in
        unfold term_within in and-true (le-leb _ _ t.size) (le-leb _ _ (subst (λ (e : ℕ). e ≤ degree_limit) (sym (exponents_sum b i)) t.sum))

-- ---- a vertex of the box is within the limits

pub inside_within : (n : ℕ) (b : List ℕ) (v : Vertex) → box_ok n b ≡ true → length v ≤ n → inside_from b 0 v ≡ true → vertex_within v ≡ true
unfolding inside_from vertex_within every
inside_within n b v o h = from 0 v (omega arith)
  where
    from : (a : ℕ) (v : Vertex) → a + length v ≤ n → inside_from b a v ≡ true → vertex_within v ≡ true
    from a [] u h = refl
    from a (x ∷ v) u h =
        let lower : Bool = le_z (low_end b a) x in
        let upper : Bool = le_z x (high_end b a) in
        let rest = and_right lower (upper && inside_from b (suc a) v) h in
        let ends = box_axis n b a o (omega arith) in
        let from_low = and_left lower (upper && inside_from b (suc a) v) h in
        let to_high = and_left upper (inside_from b (suc a) v) rest in
        let size = between_size coordinate_limit (low_end b a) (high_end b a) x ends.low from_low to_high ends.high in
        and-true (le-leb _ _ size) (from (suc a) v (omega arith) (and_right upper (inside_from b (suc a) v) rest))

-- ---- every order of a polynomial's terms

module _ (n : ℕ) (b : List ℕ) (v : Vertex) (ok : polynomial_ok n b ≡ true) (count : term_count b ≤ term_limit n) (near : vertex_within v ≡ true) where
  pub body_any_order : AnyOrder n v (terms_of b)
  body_any_order = order_cannot_matter n v (terms_of b) near (terms_within n b ok count)

  -- the sum of the last k terms
  pub last_size : (k : ℕ) → length v ≤ 4 → k ≤ term_count b → Size (partial_sum_limit n) (sum_of_last b v k)
  unfolding running_sum
  last_size k h l =
      subst (Size (partial_sum_limit n)) (running_sum_is_last b v k h l)
      (body_any_order.within_limit (reverse (terms_of b)) (Perm.symm (reverse_perm (terms_of b))) k)

-- every order of the terms of each polynomial of a job that opens, at each vertex of its box
pub job_any_order :
    (s : List ℕ) → open_refusal s ≡ 0 → (k : ℕ) → 0 < k → k < dimension s → (v : Vertex) → length v ≡ dimension s → (field_of s).in_box v ≡ true
    → BodyAnyOrder s k v
unfolding field_of field_from
job_any_order s e k p u v h inside =
    let o = opens s e in
    let four : length v ≤ 4 = omega (arith, (opens_range o).high) in
    let near = inside_within (dimension s) (body s 0) v o.box (omega arith) inside in
    let any = body_any_order (dimension s) (body s k) v (o.polynomial k p u) (terms_high o k p u) near in
    record { any_order = any; sum = λ us q. any.same_sum us q ∙ first_to_last (body s k) v four }

-- ---- the operation

-- what holds if nothing is refused
record SumGiven (s : List ℕ) (p : ℕ) (v : List ℤ) (k : ℕ) : Type 0 where
  terms : k ≤ term_count (summed_body s p)
  short : length (summed_vertex s v) ≤ 4

sum_given : (s : List ℕ) (p : ℕ) (v : List ℤ) (k : ℕ) → running_sum_refusal s p v k ≡ 0 → SumGiven s p v k
unfolding running_sum_refusal summed_vertex
sum_given s p v k h =
    let first = neither_refused (open_refusal s) _ h in
    let index = not_refused _ 12 _ (lit< tt) first.next in
    let count = not_refused _ 12 _ (lit< tt) index.next in
    record {
      terms = leb-true _ _ (not-false _ count.test);
      short = le_trans (take_most (dimension s) v) (opens_range (opens s first.first)).high;
    }

-- the answer is the sum of the last k terms of the polynomial at the vertex
pub summed_is_last :
    (s : List ℕ) (p : ℕ) (v : List ℤ) (k : ℕ) → running_sum_refusal s p v k ≡ 0
    → running_summed s p v k ≡ answered (sum_of_last (summed_body s p) (summed_vertex s v) k)
unfolding running_summed
summed_is_last s p v k h =
    let g = sum_given s p v k h in
    unless_answered (running_sum (summed_body s p) (summed_vertex s v) k) h
    ∙ ap answered (running_sum_is_last (summed_body s p) (summed_vertex s v) k g.short g.terms)

-- and with all of them the sum of the polynomial
pub summed_of_all :
    (s : List ℕ) (p : ℕ) (v : List ℤ) → running_sum_refusal s p v (term_count (summed_body s p)) ≡ 0
    → running_summed s p v (term_count (summed_body s p)) ≡ answered (raw_sum (summed_body s p) (summed_vertex s v))
unfolding running_summed
summed_of_all s p v h =
    let g = sum_given s p v (term_count (summed_body s p)) h in
    unless_answered (running_sum (summed_body s p) (summed_vertex s v) (term_count (summed_body s p))) h
    ∙ ap answered (running_sum_of_all (summed_body s p) (summed_vertex s v) g.short)
