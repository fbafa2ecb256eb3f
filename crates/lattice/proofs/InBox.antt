-- The box, axis by axis: a vertex is inside if each of its coordinates is; and a vertex inside the box of a job that opens has coordinates
-- within the limit of the box's ends.
use Rattle.std.proofs.Common.{ℕ, suc, zero, ◌+◌, ◌≤◌, ◌<◌, ◌≡◌, refl, sym, ap, ◌∙◌, arith, subst, Bool, true, false, ◌&&◌, ◌||◌, ap₂, zero-add, List, [], ◌∷◌, ℤ, length, get_or, IsTrue, ◌↔◌}
use Rattle.std.proofs.lemmas.Bool.Decides.{same_from_decides}
use Rattle.std.proofs.lemmas.List.{length-take, length-take-le, get_or-take, get_or_past}
use lib.Dec.{ltb, leb, lit≤}
use lib.Signed.{le_z}
use mathlib.Core.Bool.{and_assoc}
use borrow.Author.Tests.{ltb-true, ltb-false, lt-leb, leb-false}
use Rattle.exact.proofs.AndTests.{and_left, and_right, and-true}
use Rattle.exact.specs.Int.{0ℤ}
use Rattle.exact.specs.Size.{Size, Is}
use Rattle.exact.proofs.Bits.{back, holds_call}
use Rattle.paper.specs.Limits.{coordinate_limit}
use Rattle.paper.specs.Job.{box_ok, low_end, high_end, all_from}
use Rattle.paper.specs.Values.{inside_from}
use Rattle.paper.proofs.Terms.{box_axis, between_size}
use Rattle.paper.proofs.Tests.{all_at, all_from_lem}
use Rattle.paper.specs.declared.Vertex.{Vertex}
use Rattle.bits.specs.Axes.{Axes}
use Rattle.places.specs.Held.{vertex_as}
use Rattle.lattice.specs.Box.{axis_inside, Near}

-- ---- one axis

-- an end as it is read, in 64 bits
pub end_number : {l r : ℤ} → Is 32768 l r → back r ≡ l
end_number h = (holds_call h (lit≤ tt)).is

module _ (b : List ℕ) (a : ℕ) {x y l : ℤ} (d : y ≡ x) (e : l ≡ low_end b a) where
  pub high_decides : {h : ℤ} → h ≡ high_end b a → le_z l y ≡ true → le_z y h ≡ axis_inside b a x
  unfolding axis_inside
  high_decides f t = rw (← d, ← e, ← f, t)

  pub low_fails : le_z l y ≡ false → le_z l y ≡ axis_inside b a x
  unfolding axis_inside
  low_fails t = rw (← d, ← e, t)

-- ---- all axes

-- what is inside from axis k on, and the test of that axis
inside_cons : (b : List ℕ) (k : ℕ) (x : ℤ) (v : List ℤ) → inside_from b k (x ∷ v) ≡ (axis_inside b (k + 0) x && inside_from b (suc k) v)
unfolding inside_from axis_inside
inside_cons b k x v =
    let here : k + 0 ≡ k = omega arith in
    sym (and_assoc (le_z (low_end b k) x) (le_z x (high_end b k)) (inside_from b (suc k) v))
    ∙ ap (λ j. (le_z (low_end b j) x && le_z x (high_end b j)) && inside_from b (suc k) v) (sym here)

behind : (b : List ℕ) (k a : ℕ) (z : ℤ) → axis_inside b (suc k + a) z ≡ axis_inside b (k + suc a) z
behind b k a z = let same : suc k + a ≡ k + suc a = omega arith in ap (λ j. axis_inside b j z) same

-- a test of every coordinate
each_inside : (b : List ℕ) (k : ℕ) (v : List ℤ) → ((a : ℕ) → a < length v → axis_inside b (k + a) (get_or v a 0ℤ) ≡ true) → inside_from b k v ≡ true
unfolding inside_from
each_inside b k [] h = refl
each_inside b k (x ∷ v) h =
    inside_cons b k x v
    ∙ and-true (h 0 (omega arith)) (each_inside b (suc k) v (λ a l. behind b k a (get_or v a 0ℤ) ∙ h (suc a) (omega arith)))

inside_each : (b : List ℕ) (k : ℕ) (v : List ℤ) → inside_from b k v ≡ true → (a : ℕ) → a < length v → axis_inside b (k + a) (get_or v a 0ℤ) ≡ true
inside_each b k [] h a l = absurd (omega arith)
inside_each b k (x ∷ v) h zero l = and_left (axis_inside b (k + 0) x) (inside_from b (suc k) v) (sym (inside_cons b k x v) ∙ h)
inside_each b k (x ∷ v) h (suc a) l =
    sym (behind b k a (get_or v a 0ℤ))
    ∙ inside_each b (suc k) v (and_right (axis_inside b (k + 0) x) (inside_from b (suc k) v) (sym (inside_cons b k x v) ∙ h)) a (omega arith)

-- a coordinate that counts
number : (b : List ℕ) (n : ℕ) (v : Vertex) (a : ℕ) → a < n
    → axis_inside b (0 + a) (get_or (vertex_as n v) a 0ℤ) ≡ axis_inside b a (get_or v.coordinates a 0ℤ)
unfolding vertex_as
number b n v a l = ap₂ (axis_inside b) (zero-add a) (get_or-take n v.coordinates a 0ℤ l)

module _ (b : List ℕ) (n : ℕ) (v : Vertex) (c : length v.coordinates ≡ 4) (d : n ≤ 4) where
  -- of those that count
  abbrev Each : Type 0
  Each = (a : ℕ) → a < n → axis_inside b a (get_or v.coordinates a 0ℤ) ≡ true

  count : length (vertex_as n v) ≡ n
  unfolding vertex_as
  count = length-take-le n v.coordinates (omega arith)

  from_each : Each → inside_from b 0 (vertex_as n v) ≡ true
  from_each h = each_inside b 0 (vertex_as n v) (λ a l. number b n v a (omega (arith, count)) ∙ h a (omega (arith, count)))

  to_each : inside_from b 0 (vertex_as n v) ≡ true → Each
  to_each h a l = sym (number b n v a l) ∙ inside_each b 0 (vertex_as n v) h a (omega (arith, count))

  -- whatever decides that each axis is inside
  pub all_inside : (r : Bool) → IsTrue r ↔ Each → r ≡ inside_from b 0 (vertex_as n v)
  all_inside r h = same_from_decides r (inside_from b 0 (vertex_as n v)) h (to_each, from_each)

  -- the code tests all four axes, and those from n on pass
  abbrev test : ℕ → Bool
  test a = leb n a || axis_inside b a (get_or v.coordinates a 0ℤ)

  from_tests : all_from test 0 4 ≡ true → Each
  from_tests h a l = rw (lt-leb n a l) at (all_at test 0 4 a h (omega arith) (omega arith))

  to_tests : Each → all_from test 0 4 ≡ true
  to_tests h = all_from_lem test 0 4 (λ a l u. go a (leb n a) refl)
    where
      go : (a : ℕ) (r : Bool) → leb n a ≡ r → test a ≡ true
      go a true e = rw e refl
      go a false e = rw e (h a (leb-false n a e))

  pub all_tested : (r : Bool) → r ≡ all_from test 0 4 → r ≡ inside_from b 0 (vertex_as n v)
  all_tested r e = e ∙ all_inside (all_from test 0 4) (from_tests, to_tests)

-- ---- the box of a job that opens

axis_size : (n : ℕ) (b : List ℕ) (a : ℕ) (x : ℤ) → box_ok n b ≡ true → a < n → axis_inside b a x ≡ true → Size coordinate_limit x
unfolding axis_inside
axis_size n b a x o l h =
    let r = box_axis n b a o l in
    let lower = and_left (le_z (low_end b a) x) (le_z x (high_end b a)) h in
    let upper = and_right (le_z (low_end b a) x) (le_z x (high_end b a)) h in
    record { size = between_size coordinate_limit (low_end b a) (high_end b a) x r.low lower upper r.high }

pub inside_near : (n : ℕ) (b : List ℕ) (v : Vertex) → Axes n → box_ok n b ≡ true → inside_from b 0 (vertex_as n v) ≡ true → Near n v
unfolding vertex_as
inside_near n b v d o h = record { each = λ a l. go a l (ltb a (length v.coordinates)) refl }
  where
    go : (a : ℕ) → a < n → (r : Bool) → ltb a (length v.coordinates) ≡ r → Size coordinate_limit (get_or v.coordinates a 0ℤ)
    go a l true e =
        axis_size n b a (get_or v.coordinates a 0ℤ) o l
        (sym (number b n v a l)
        ∙ inside_each b 0 (vertex_as n v) h a (omega (arith, length-take n v.coordinates, ltb-true a (length v.coordinates) e)))
    -- a coordinate past the end of the list is 0
    go a l false e =
        subst (Size coordinate_limit) (sym (get_or_past v.coordinates a 0ℤ (ltb-false a (length v.coordinates) e))) (record { size = omega arith })
