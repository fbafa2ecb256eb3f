-- What a job has if Open does not refuse it: the eight tests, each as a fact; and its last three tests, of bodies by index.
use mathlib.Core.Path.{◌≡◌, ap}
use mathlib.Core.Bool.{true, not}
use mathlib.Core.List.{List}
use Prim.Native.Nat.{ℕ, ◌+◌, ◌-◌, ◌≤◌, ◌<◌}
use native.Mathlib.Omega.{arith}
use lib.Dec.{lit<}
use lib.ListN.{length}
use borrow.Author.Tests.{ltb-false, eqb-true, not-false}
use Rattle.curves.specs.Grid.{place_ok}
use Rattle.paper.specs.Bytes.{byte}
use Rattle.paper.specs.Limits.{dimension_ok}
use Rattle.paper.specs.Job.{dimension, contents_ok, body, box_ok, all_from, polynomial_ok, decode_place, refuse_if, open_refusal}
use Rattle.paper.proofs.Tests.{all_at, all_same, DimensionRange, dimension_range}
use Rattle.paper.proofs.Refusals.{not_refused}

-- Open's tests behind that of the contents, 6 to 8: box, terms and start, of bodies by index
abbrev pub behind_contents : ℕ → (ℕ → List ℕ) → ℕ
behind_contents n f =
    refuse_if (not (box_ok n (f 0))) 6
    (refuse_if (not (all_from (λ k. polynomial_ok n (f k)) 1 (n - 1))) 7
    (refuse_if (not (place_ok n (decode_place n (f n)))) 8 0))

-- they look at bodies 0 to n
pub behind_same : (n : ℕ) (f g : ℕ → List ℕ) → ((k : ℕ) → k ≤ n → f k ≡ g k) → behind_contents n f ≡ behind_contents n g
behind_same n f g h =
    rw (
      h 0 (omega arith),
      all_same (λ k. polynomial_ok n (f k)) (λ k. polynomial_ok n (g k)) 1 (n - 1) (λ k l u. ap (polynomial_ok n) (h k (omega arith))),
      h n (omega arith),
    )

pub record Opens (s : List ℕ) : Type 0 where
  pub long : 4 ≤ length s
  pub mark : byte s 0 ≡ 1
  pub dimensions : dimension_ok (dimension s) ≡ true
  pub entries : byte s 2 ≡ dimension s + 1
  pub contents : contents_ok (dimension s) s ≡ true
  pub box : box_ok (dimension s) (body s 0) ≡ true
  pub polynomial : (k : ℕ) → 0 < k → k < dimension s → polynomial_ok (dimension s) (body s k) ≡ true
  pub start : place_ok (dimension s) (decode_place (dimension s) (body s (dimension s))) ≡ true

pub opens : (s : List ℕ) → open_refusal s ≡ 0 → Opens s
unfolding open_refusal
opens s h =
    let r1 = not_refused _ _ _ (lit< tt) h in
    let r2 = not_refused _ _ _ (lit< tt) r1.next in
    let r3 = not_refused _ _ _ (lit< tt) r2.next in
    let r4 = not_refused _ _ _ (lit< tt) r3.next in
    let r5 = not_refused _ _ _ (lit< tt) r4.next in
    let r6 = not_refused _ _ _ (lit< tt) r5.next in
    let r7 = not_refused _ _ _ (lit< tt) r6.next in
    let r8 = not_refused _ _ _ (lit< tt) r7.next in
    record {
      long = ltb-false _ _ r1.test;
      mark = eqb-true _ _ (not-false _ r2.test);
      dimensions = not-false _ r3.test;
      entries = eqb-true _ _ (not-false _ r4.test);
      contents = not-false _ r5.test;
      box = not-false _ r6.test;
      polynomial = λ k l u. all_at _ 1 (dimension s - 1) k (not-false _ r7.test) (omega arith) (omega arith);
      start = not-false _ r8.test;
    }

-- the dimension of an opened job is at least 2 and at most 4
pub opens_range : {s : List ℕ} → Opens s → DimensionRange (dimension s)
opens_range {s} o = dimension_range (dimension s) o.dimensions
