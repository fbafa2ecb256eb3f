-- A list is not refused exactly if the job opens, has dimension 2, and the list names places on different loops of it, 6 bytes each.
use Prim.Native.Nat.{ℕ, zero, suc, ◌+◌, ◌*◌, ◌/◌, ◌%◌, ◌≤◌, ◌<◌}
use native.Mathlib.Omega.{arith}
use mathlib.Core.Path.{◌≡◌, refl, sym, ap, ◌∙◌, subst}
use mathlib.Core.Bool.{Bool, true, false, not, ◌||◌, true≢false}
use mathlib.Core.List.Memᴰ
use mathlib.Core.List.{List}
use lib.ListN.{length, take, drop, length-take, length-drop}
use lib.Dec.{eqb}
use borrow.Author.Tests.{eqb-true, eqb-false, eq-eqb, not-false}
use Rattle.exact.specs.Crossed.{count_from}
use Rattle.curves.specs.Grid.{Place}
use Rattle.curves.specs.Joined.{Joined, Traceable}
use Rattle.curves.proofs.Listed.{count_from_listed, count_from_under}
use Rattle.paper.specs.Job.{dimension}
use Rattle.paper.specs.Values.{field_of}
use Rattle.paper.specs.Operations.{answered}
use Rattle.paper.specs.Pen.{place_bytes, place_count}
use Rattle.paper.proofs.Refusals.{not_refused, refuse_later, neither_refused, first_passes, answered_inv, unless_answered}
use Rattle.paper.proofs.Opens.{Opens, opens}
use Rattle.paper.proofs.WithStart.{opens_back}
use Rattle.paper.proofs.PointTakes.{point_traceable, traceable_point}
use Rattle.nesting.specs.Standing.{Standing, some, standing}
use Rattle.nesting.specs.CutOrder.{on_loop, same_loop, loop_inside, listed_at, first_listed, position_refusal, positions_refusal, order_refusal, ordered}
use Rattle.nesting.specs.OrderDemand.{LoopsListed}
use Rattle.nesting.proofs.Standing.{none_member, none_some}
use Rattle.nesting.proofs.JobLoops.{same_loop_joined}

-- ---- one position

-- the place there is one that Point takes, on a loop that none of the earlier is on
record AtPosition (s ps : List ℕ) (k : ℕ) : Type 0 where
  pub traceable : Traceable (dimension s) (field_of s) (listed_at s ps k)
  pub looped : on_loop s (listed_at s ps k) ≡ true
  pub new : (j : ℕ) → j < k → same_loop s (listed_at s ps k) (listed_at s ps j) ≡ false

-- a test of two parts that fails fails in both
or_false_left : (a b : Bool) → (a || b) ≡ false → a ≡ false
or_false_left true b h = h
or_false_left false b h = refl

or_false_right : (a b : Bool) → (a || b) ≡ false → b ≡ false
or_false_right true b h = absurd (true≢false h)
or_false_right false b h = h

-- a position that is not refused has such a place
position_passes : (s ps : List ℕ) (k : ℕ) → position_refusal s ps k ≡ 0 → AtPosition s ps k
unfolding position_refusal listed_at first_listed
position_passes s ps k h =
    let p : Place = listed_at s ps k in
    let earlier : Bool = some (same_loop s p) (first_listed s ps k) in
    let r = neither_refused _ _ h in
    let r18 = not_refused (not (on_loop s p) || earlier) 18 0 (omega arith) r.next in
    record {
      traceable = point_traceable s (place_bytes s ps k) r.first;
      looped = not-false (on_loop s p) (or_false_left (not (on_loop s p)) earlier r18.test);
      new =
          λ j l.
          none_member (same_loop s p) (first_listed s ps k) (or_false_right (not (on_loop s p)) earlier r18.test) (listed_at s ps j)
          (Memᴰ.map (listed_at s ps) (count_from_listed 0 k j (omega arith) (omega arith)));
    }

-- and one with such a place is not refused
passes_position : {s : List ℕ} → Opens s → (ps : List ℕ) (k : ℕ) → length (place_bytes s ps k) ≡ 3 * dimension s → AtPosition s ps k → position_refusal s ps k ≡ 0
unfolding position_refusal listed_at first_listed
passes_position {s} o ps k e a =
    let p : Place = listed_at s ps k in
    let earlier : some (same_loop s p) (first_listed s ps k) ≡ false =
    none_some (same_loop s p) (first_listed s ps k)
    (λ x i.
    let w = Memᴰ.of_map (listed_at s ps) (count_from 0 k) i in
    ap (same_loop s p) (sym w.2) ∙ a.new w.0 (omega (arith, count_from_under 0 k w.1))) in
    first_passes _ (traceable_point o (place_bytes s ps k) e a.traceable)
    ∙ refuse_later 18 0 (rw a.looped earlier)

-- ---- all positions

-- each of the m positions from k on passes if none is refused
positions_pass : (s ps : List ℕ) (k m : ℕ) → positions_refusal s ps k m ≡ 0 → (i : ℕ) → k ≤ i → i < k + m → position_refusal s ps i ≡ 0
unfolding positions_refusal
positions_pass s ps k zero h i l u = absurd (omega arith)
positions_pass s ps k (suc m) h i l u =
    let r = neither_refused _ _ h in
    go (eqb k i) refl r.first (positions_pass s ps (suc k) m r.next i)
  where
    go : (b : Bool) → eqb k i ≡ b → position_refusal s ps k ≡ 0 → (suc k ≤ i → i < suc k + m → position_refusal s ps i ≡ 0) → position_refusal s ps i ≡ 0
    go true e here rest = subst (λ x. position_refusal s ps x ≡ 0) (eqb-true k i e) here
    go false e here rest = rest (omega (arith, eqb-false k i e)) (omega arith)

-- and the other way round
pass_positions : (s ps : List ℕ) (k m : ℕ) → ((i : ℕ) → k ≤ i → i < k + m → position_refusal s ps i ≡ 0) → positions_refusal s ps k m ≡ 0
unfolding positions_refusal
pass_positions s ps k zero h = refl
pass_positions s ps k (suc m) h =
    first_passes _ (h k (omega arith) (omega arith)) ∙ pass_positions s ps (suc k) m (λ i l u. h i (omega arith) (omega arith))

-- ---- the length of the list

-- a length that is a multiple of 6 is 6 bytes for each place
whole_count : (l n : ℕ) → n ≡ 2 → l % (3 * n) ≡ 0 → l ≡ 6 * (l / (3 * n))
whole_count l n e = rw e (λ h. omega arith)

-- and the other way round
count_whole : (l n : ℕ) → n ≡ 2 → l ≡ 6 * (l / (3 * n)) → l % (3 * n) ≡ 0
count_whole l n e = rw e (λ h. omega arith)

-- each place before the last has all its bytes
place_size : (ps : List ℕ) (n k : ℕ) → n ≡ 2 → length ps ≡ 6 * (length ps / (3 * n)) → k < length ps / (3 * n)
    → length (take (3 * n) (drop (3 * n * k) ps)) ≡ 3 * n
place_size ps n k e = rw e (λ h l. simp (length-take, length-drop) (omega arith))

-- ---- the list

-- a list that is not refused is such a list
pub order_passes : (s ps : List ℕ) → order_refusal s ps ≡ 0 → LoopsListed s ps
unfolding order_refusal place_count
order_passes s ps h =
    let r = neither_refused _ _ h in
    let r3 = not_refused _ 3 _ (omega arith) r.next in
    let r13 = not_refused _ 13 _ (omega arith) r3.next in
    let two : dimension s ≡ 2 = eqb-true _ _ (not-false _ r3.test) in
    let whole : length ps % (3 * dimension s) ≡ 0 = eqb-true _ _ (not-false _ r13.test) in
    let at : (k : ℕ) → k < place_count s ps → AtPosition s ps k =
    λ k l. position_passes s ps k (positions_pass s ps 0 (place_count s ps) r13.next k (omega arith) (omega arith)) in
    record {
      opened = opens s r.first;
      two = two;
      size = whole_count (length ps) (dimension s) two whole;
      traceable = λ k l. (at k l).traceable;
      looped = λ k l. (at k l).looped;
      new = λ j k i l. (at k l).new j i;
    }

-- and such a list is not refused
pub passes_order : (s ps : List ℕ) → LoopsListed s ps → order_refusal s ps ≡ 0
unfolding order_refusal place_count place_bytes
passes_order s ps a =
    let whole : length ps % (3 * dimension s) ≡ 0 = count_whole (length ps) (dimension s) a.two a.size in
    first_passes _ (opens_back s a.opened)
    ∙ (refuse_later 3 _ (ap not (eq-eqb (dimension s) 2 a.two))
    ∙ (refuse_later 13 _ (ap not (eq-eqb _ _ whole))
    ∙ pass_positions s ps 0 (place_count s ps)
    (λ k l u.
    passes_position a.opened ps k (place_size ps (dimension s) k a.two a.size (omega (arith, u)))
    (record { traceable = a.traceable k (omega arith); looped = a.looped k (omega arith); new = λ j i. a.new j k i (omega arith) }))))

-- ---- the answer

-- a list that is answered names places on different loops
pub order_loops : (s ps : List ℕ) (r : Standing) → ordered s ps ≡ answered r → LoopsListed s ps
unfolding ordered
order_loops s ps r e = order_passes s ps (answered_inv (order_refusal s ps) (standing (loop_inside s) (first_listed s ps (place_count s ps))) r e).none

-- and the answer says whether they stand
pub order_standing : (s ps : List ℕ) (r : Standing) → ordered s ps ≡ answered r → standing (loop_inside s) (first_listed s ps (place_count s ps)) ≡ r
unfolding ordered
order_standing s ps r e = (answered_inv (order_refusal s ps) (standing (loop_inside s) (first_listed s ps (place_count s ps))) r e).is

-- such a list is answered
pub loops_answered : (s ps : List ℕ) → LoopsListed s ps → ordered s ps ≡ answered (standing (loop_inside s) (first_listed s ps (place_count s ps)))
unfolding ordered
loops_answered s ps a = unless_answered (standing (loop_inside s) (first_listed s ps (place_count s ps))) (passes_order s ps a)

-- the facets of two positions are not joined
pub listed_apart : {s ps : List ℕ} → LoopsListed s ps → (j k : ℕ) → j < k → k < place_count s ps
    → ¬ Joined (dimension s) (field_of s) (listed_at s ps j).facet (listed_at s ps k).facet
listed_apart {s} {ps} a j k h l i =
    let q : Place = listed_at s ps j in
    let same : same_loop s (listed_at s ps k) q ≡ true =
    (same_loop_joined a.opened q (a.traceable j (omega arith)) (a.looped j (omega arith)) (listed_at s ps k)).1 i in
    true≢false (sym same ∙ a.new j k h l)
