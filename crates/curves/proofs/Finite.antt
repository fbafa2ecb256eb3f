-- The facets with their lowest vertex in a box are finitely many: `box_facets` has each well-formed one and no other, over every dimension.
use Prim.Native.Nat.{ℕ, suc, ◌-◌, ◌^◌, ◌<◌}
use mathlib.Core.Path.{◌≡◌, refl, sym, ap, ◌∙◌, subst}
use mathlib.Core.Bool.{Bool, true, false, not, ◌&&◌, false≢true}
use mathlib.Core.List.Memᴰ
use mathlib.Core.List.{List, [], ◌∷◌}
use native.Mathlib.Omega.{arith}
use lib.IntN.{ℤ, pos, negsuc}
use lib.ListN.{length}
use lib.Dec.{T, eqb, ltb}
use lib.Signed.{le_z, ◌≤ℤ◌}
use borrow.Author.Tests.{eqb-true, eq-eqb}
use Rattle.exact.proofs.AndTests.{and_left, and_right, and-true}
use Rattle.exact.proofs.Linear.{split, linear}
use Rattle.exact.specs.Int.{◌⊕◌, ◌⊖◌, 0ℤ, 1ℤ}
use Rattle.exact.specs.Crossed.{count_from}
use Rattle.curves.specs.Grid.{Vertex, Facet, facet_ok, chain, holds, under}
use Rattle.curves.specs.Box.{lists_under, within, counted, span, between, box_vertices, chains, box_facets}
use Rattle.curves.specs.Curve.{◌∈◌}
use Rattle.curves.proofs.Listed.{count_from_listed, count_from_under, pairs_listed, pairs_member, lists_under_listed, lists_under_length, keep_member, keep_listed}

-- ---- the whole numbers from l to h

-- the test of order as a fact, and back
pub test_le : (x y : ℤ) → le_z x y ≡ true → x ≤ℤ y
test_le x y e = record { le = rw e tt }

pub le_test : (x y : ℤ) → x ≤ℤ y → le_z x y ≡ true
le_test x y h = go (le_z x y) h.le
  where
    go : (b : Bool) → T b → b ≡ true
    go true t = refl
    go false t = absurd t

-- a count is the number itself where that is not negative, and it is not if the count is not 0
counted_is : (z : ℤ) → 0ℤ ≤ℤ z → pos (counted z) ≡ z
unfolding counted
counted_is (pos a) h = refl
counted_is (negsuc a) h = absurd h.le

counted_some : (z : ℤ) (k : ℕ) → k < counted z → pos (counted z) ≡ z
unfolding counted
counted_some (pos a) k h = refl
counted_some (negsuc a) k h = absurd (omega arith)

low_room : (l x : ℤ) → l ≤ℤ x → 0ℤ ≤ℤ x ⊖ l
low_room l x = rw (split l, split x) (simp linear (omega arith))

span_room : (l h x : ℤ) → l ≤ℤ x → x ≤ℤ h → 0ℤ ≤ℤ h ⊕ 1ℤ ⊖ l
span_room l h x = rw (split l, split h, split x) (simp linear (omega arith))

span_above : (l h x : ℤ) (k m : ℕ) → pos k ≡ x ⊖ l → pos m ≡ h ⊕ 1ℤ ⊖ l → x ≤ℤ h → k < m
span_above l h x k m = rw (split l, split h, split x) (simp linear (omega arith))

sum_back : (l x : ℤ) (k : ℕ) → pos k ≡ x ⊖ l → x ≡ l ⊕ pos k
sum_back l x k = rw (split l, split x) (simp linear (omega arith))

above_low : (l : ℤ) (k : ℕ) → l ≤ℤ l ⊕ pos k
above_low l k = rw (split l) (simp linear (omega arith))

below_high : (l h : ℤ) (k m : ℕ) → pos m ≡ h ⊕ 1ℤ ⊖ l → k < m → l ⊕ pos k ≤ℤ h
below_high l h k m = rw (split l, split h) (simp linear (omega arith))

pub between_listed : (l h x : ℤ) → le_z l x ≡ true → le_z x h ≡ true → x ∈ between l h
unfolding between span
between_listed l h x e f =
    let k : ℕ = counted (x ⊖ l) in
    let is : pos k ≡ x ⊖ l = counted_is (x ⊖ l) (low_room l x (test_le l x e)) in
    let top : pos (counted (h ⊕ 1ℤ ⊖ l)) ≡ h ⊕ 1ℤ ⊖ l = counted_is (h ⊕ 1ℤ ⊖ l) (span_room l h x (test_le l x e) (test_le x h f)) in
    Memᴰ.cast (sum_back l x k is)
    (Memᴰ.map (λ k. l ⊕ pos k)
    (count_from_listed 0 (counted (h ⊕ 1ℤ ⊖ l)) k (omega arith) (omega (arith, span_above l h x k (counted (h ⊕ 1ℤ ⊖ l)) is top (test_le x h f)))))

pub between_member : (l h : ℤ) {x : ℤ} → x ∈ between l h → (le_z l x ≡ true) × (le_z x h ≡ true)
unfolding between span
between_member l h {x} m =
    let w = Memᴰ.of_map (λ k. l ⊕ pos k) (count_from 0 (counted (h ⊕ 1ℤ ⊖ l))) m in
    let under : w.0 < counted (h ⊕ 1ℤ ⊖ l) = omega (arith, count_from_under 0 (counted (h ⊕ 1ℤ ⊖ l)) w.1) in
    subst (λ y. (le_z l y ≡ true) × (le_z y h ≡ true)) w.2 (
      le_test l (l ⊕ pos w.0) (above_low l w.0),
      le_test (l ⊕ pos w.0) h (below_high l h w.0 (counted (h ⊕ 1ℤ ⊖ l)) (counted_some (h ⊕ 1ℤ ⊖ l) w.0 under) under),
    )

-- ---- the vertices of a box

pub box_vertices_listed : (ls hs : List ℤ) (v : Vertex) → within ls hs v ≡ true → v ∈ box_vertices ls hs
unfolding within box_vertices
box_vertices_listed [] [] [] e = Memᴰ.head refl
box_vertices_listed [] [] (x ∷ v) e = absurd (false≢true e)
box_vertices_listed [] (h ∷ hs) v e = absurd (false≢true e)
box_vertices_listed (l ∷ ls) [] v e = absurd (false≢true e)
box_vertices_listed (l ∷ ls) (h ∷ hs) [] e = absurd (false≢true e)
box_vertices_listed (l ∷ ls) (h ∷ hs) (x ∷ v) e =
    let r : le_z x h && within ls hs v ≡ true = and_right (le_z l x) (le_z x h && within ls hs v) e in
    pairs_listed (λ x v. x ∷ v) (between l h) (box_vertices ls hs) x v
    (between_listed l h x (and_left (le_z l x) (le_z x h && within ls hs v) e) (and_left (le_z x h) (within ls hs v) r))
    (box_vertices_listed ls hs v (and_right (le_z x h) (within ls hs v) r))

-- where the box has as many low ends as high ends
pub box_vertices_member : (ls hs : List ℤ) → length ls ≡ length hs → {v : Vertex} → v ∈ box_vertices ls hs → within ls hs v ≡ true
unfolding within box_vertices
box_vertices_member [] [] s m = ap (within [] []) (Memᴰ.eq_of_singleton m)
box_vertices_member [] (h ∷ hs) s m = absurd (omega arith)
box_vertices_member (l ∷ ls) [] s m = absurd (omega arith)
box_vertices_member (l ∷ ls) (h ∷ hs) s m =
    let j = pairs_member (λ x v. x ∷ v) (between l h) (box_vertices ls hs) m in
    let ends = between_member l h j.of_first in
    ap (within (l ∷ ls) (h ∷ hs)) (sym j.is)
    ∙ and-true ends.0 (and-true ends.1 (box_vertices_member ls hs (omega arith) j.of_second))

pub within_length : (ls hs : List ℤ) (v : Vertex) → within ls hs v ≡ true → length v ≡ length ls
unfolding within
within_length [] [] [] e = refl
within_length [] [] (x ∷ v) e = absurd (false≢true e)
within_length [] (h ∷ hs) v e = absurd (false≢true e)
within_length (l ∷ ls) [] v e = absurd (false≢true e)
within_length (l ∷ ls) (h ∷ hs) [] e = absurd (false≢true e)
within_length (l ∷ ls) (h ∷ hs) (x ∷ v) e =
    ap suc (within_length ls hs v (and_right (le_z x h) (within ls hs v) (and_right (le_z l x) (le_z x h && within ls hs v) e)))

-- ---- chains of masks

-- the masks of a chain have no bit above n
pub chain_under : (n b : ℕ) (ms : List ℕ) → chain n b ms ≡ true → under (2 ^ n) ms ≡ true
unfolding chain under
chain_under n b [] e = refl
chain_under n b (m ∷ ms) e =
    and-true (and_left (ltb m (2 ^ n)) (holds n m b && (not (eqb m b) && chain n m ms)) e)
    (chain_under n m ms
    (and_right (not (eqb m b)) (chain n m ms)
    (and_right (holds n m b) (not (eqb m b) && chain n m ms)
    (and_right (ltb m (2 ^ n)) (holds n m b && (not (eqb m b) && chain n m ms)) e))))

pub chains_listed : (n : ℕ) (ms : List ℕ) → suc (length ms) ≡ n → chain n 0 ms ≡ true → ms ∈ chains n
unfolding chains
chains_listed n ms l e =
    keep_listed (chain n 0) (lists_under (2 ^ n) (n - 1)) (lists_under_listed (2 ^ n) (n - 1) ms (omega arith) (chain_under n 0 ms e)) e

pub chains_member : (n : ℕ) → 0 < n → {ms : List ℕ} → ms ∈ chains n → (suc (length ms) ≡ n) × (chain n 0 ms ≡ true)
unfolding chains
chains_member n p m =
    let k = keep_member (chain n 0) (lists_under (2 ^ n) (n - 1)) m in
    (omega (arith, lists_under_length (2 ^ n) (n - 1) k.0), k.1)

-- ---- facets

-- each well-formed facet with its lowest vertex in the box stands in the list
pub box_facets_listed : (n : ℕ) (ls hs : List ℤ) (f : Facet) → facet_ok n f ≡ true → within ls hs f.low ≡ true → f ∈ box_facets n ls hs
unfolding box_facets facet_ok
box_facets_listed n ls hs f e w =
    let size : Bool = eqb (suc (length f.masks)) n in
    let rest : Bool = chain n 0 f.masks in
    let r : size && rest ≡ true = and_right (eqb (length f.low) n) (size && rest) e in
    pairs_listed (λ v ms. record { low = v; masks = ms }) (box_vertices ls hs) (chains n) f.low f.masks
    (box_vertices_listed ls hs f.low w)
    (chains_listed n f.masks (eqb-true (suc (length f.masks)) n (and_left size rest r)) (and_right size rest r))

-- and no other does
pub box_facets_member : (n : ℕ) (ls hs : List ℤ) → 0 < n → length ls ≡ n → length hs ≡ n → {f : Facet} → f ∈ box_facets n ls hs
    → (facet_ok n f ≡ true) × (within ls hs f.low ≡ true)
unfolding box_facets facet_ok
box_facets_member n ls hs p a b {f} m =
    let j = pairs_member (λ v ms. record { low = v; masks = ms }) (box_vertices ls hs) (chains n) m in
    let w : within ls hs j.one ≡ true = box_vertices_member ls hs (a ∙ sym b) j.of_first in
    let c = chains_member n p j.of_second in
    subst (λ g. (facet_ok n g ≡ true) × (within ls hs g.low ≡ true)) j.is
    (and-true (eq-eqb (length j.one) n (within_length ls hs j.one w ∙ a)) (and-true (eq-eqb (suc (length j.other)) n c.0) c.1), w)
