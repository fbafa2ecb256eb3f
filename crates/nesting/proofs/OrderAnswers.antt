-- What the answer says in words: the order stands exactly if no listed loop has a later one inside it, and else the position is the first whose loop
-- has; an empty list stands; and what is turned away.
use Prim.Native.Nat.{ℕ, zero, suc, ◌+◌, ◌*◌, ◌/◌, ◌%◌, ◌≤◌, ◌<◌}
use native.Mathlib.Omega.{arith}
use mathlib.Core.Path.{◌≡◌, refl, sym, ap, ◌∙◌}
use mathlib.Core.Bool.{Bool, true, false, not, ◌||◌, or-true}
use mathlib.Core.List.Memᴰ
use mathlib.Core.List.{List, []}
use lib.ListN.{length}
use lib.Dec.{eqb}
use borrow.Author.Tests.{eqb-true, eqb-false, eq-eqb, ne_eqb}
use Rattle.curves.proofs.Listed.{count_from_listed}
use Rattle.paper.specs.Job.{dimension, open_refusal}
use Rattle.paper.specs.Operations.{refused, answered, first_refusal, point_refusal}
use Rattle.paper.specs.Pen.{place_bytes, place_count}
use Rattle.paper.proofs.Refusals.{refuse_here, refuse_later, first_refuses, first_passes, unless_refused}
use Rattle.paper.proofs.Opens.{Opens}
use Rattle.paper.proofs.WithStart.{opens_back}
use Rattle.nesting.specs.Standing.{stands, broken_at, some, standing}
use Rattle.nesting.specs.CutOrder.{on_loop, same_loop, loop_inside, listed_at, first_listed, position_refusal, positions_refusal, order_refusal, ordered}
use Rattle.nesting.specs.OrderDemand.{LoopsListed, BrokenNumber}
use Rattle.nesting.proofs.Standing.{member_some, stands_apart, apart_stands}
use Rattle.nesting.proofs.Positions.{apart_at, at_apart, broken_number}
use Rattle.nesting.proofs.OrderLoops.{order_standing, loops_answered}

-- ---- answered

-- an order stands: no loop has a later one inside it
pub order_stands : (s ps : List ℕ) → ordered s ps ≡ answered stands
    → (j k : ℕ) → j < k → k < place_count s ps → loop_inside s (listed_at s ps k) (listed_at s ps j) ≡ false
unfolding first_listed
order_stands s ps e j k h u =
    apart_at (listed_at s ps) 0 (place_count s ps) (stands_apart (loop_inside s) (first_listed s ps (place_count s ps)) (order_standing s ps stands e))
    j k (omega arith) h (omega arith)

-- and the other way round, of a list of places on different loops
pub stands_order : (s ps : List ℕ) → LoopsListed s ps
    → ((j k : ℕ) → j < k → k < place_count s ps → loop_inside s (listed_at s ps k) (listed_at s ps j) ≡ false) → ordered s ps ≡ answered stands
unfolding first_listed
stands_order s ps a h =
    loops_answered s ps a
    ∙ ap answered
    (apart_stands (loop_inside s) (first_listed s ps (place_count s ps))
    (at_apart (listed_at s ps) 0 (place_count s ps) (λ j k l i u. h j k i (omega arith))))

-- it does not: the position is the first whose loop has a later one inside it
pub order_broken : (s ps : List ℕ) (k : ℕ) → ordered s ps ≡ answered (broken_at k) → BrokenNumber (loop_inside s) (listed_at s ps) 0 (place_count s ps) k
unfolding first_listed
order_broken s ps k e = broken_number (loop_inside s) (listed_at s ps) (place_count s ps) k (order_standing s ps (broken_at k) e)

-- an empty list stands
pub empty_stands : {s : List ℕ} → Opens s → dimension s ≡ 2 → ordered s [] ≡ answered stands
unfolding place_count
empty_stands {s} o two =
    let nothing : place_count s [] ≡ 0 = ap (λ n. 0 / (3 * n)) two in
    stands_order s []
    (record {
      opened = o;
      two = two;
      size = omega (arith, nothing);
      traceable = λ k h. absurd (omega (arith, nothing));
      looped = λ k h. absurd (omega (arith, nothing));
      new = λ j k h u. absurd (omega (arith, nothing));
    })
    (λ j k h u. absurd (omega (arith, nothing)))

-- ---- turned away

-- by Open
pub order_not_opened : (s ps : List ℕ) → (open_refusal s ≡ 0 → ⊥) → ordered s ps ≡ refused (open_refusal s)
unfolding ordered order_refusal
order_not_opened s ps h =
    let r : order_refusal s ps ≡ open_refusal s = first_refuses _ _ h in
    unless_refused (order_refusal s ps) (standing (loop_inside s) (first_listed s ps (place_count s ps))) (λ e. h (sym r ∙ e)) ∙ ap refused r

-- of the m positions from k on, the first that is turned away tells
first_position : (s ps : List ℕ) (k m i : ℕ) → k ≤ i → i < k + m → ((j : ℕ) → k ≤ j → j < i → position_refusal s ps j ≡ 0)
    → 0 < position_refusal s ps i → positions_refusal s ps k m ≡ position_refusal s ps i
unfolding positions_refusal
first_position s ps k zero i l u h p = absurd (omega arith)
first_position s ps k (suc m) i l u h p = go (eqb k i) refl (first_position s ps (suc k) m i)
  where
    go : (b : Bool) → eqb k i ≡ b
        → (suc k ≤ i → i < suc k + m → ((j : ℕ) → suc k ≤ j → j < i → position_refusal s ps j ≡ 0) → 0 < position_refusal s ps i
        → positions_refusal s ps (suc k) m ≡ position_refusal s ps i)
        → first_refusal (position_refusal s ps k) (positions_refusal s ps (suc k) m) ≡ position_refusal s ps i
    go true e rest =
        let same : k ≡ i = eqb-true k i e in
        let here : position_refusal s ps k ≡ position_refusal s ps i = ap (position_refusal s ps) same in
        first_refuses _ _ (λ z. omega (arith, here, z, p)) ∙ here
    go false e rest =
        let more : k < i = omega (arith, eqb-false k i e) in
        first_passes _ (h k (omega arith) more) ∙ rest more (omega arith) (λ j a b. h j (omega arith) b) p

module _ {s : List ℕ} (o : Opens s) (ps : List ℕ) where
  -- the operation refuses with what its chain of tests says
  refuses : (k : ℕ) → 0 < k → order_refusal s ps ≡ k → ordered s ps ≡ refused k
  unfolding ordered
  refuses k l r = unless_refused (order_refusal s ps) (standing (loop_inside s) (first_listed s ps (place_count s ps))) (λ e. omega (arith, r, e)) ∙ ap refused r

  -- another dimension
  pub order_other_dimension : (dimension s ≡ 2 → ⊥) → ordered s ps ≡ refused 3
  unfolding order_refusal
  order_other_dimension h =
      refuses 3 (omega arith) (first_passes _ (opens_back s o) ∙ refuse_here 3 _ (ap not (ne_eqb (dimension s) 2 h)))

  module _ (two : dimension s ≡ 2) where
    -- a length that is no multiple of 6
    pub order_uneven : (length ps % 6 ≡ 0 → ⊥) → ordered s ps ≡ refused 13
    unfolding order_refusal
    order_uneven h =
        refuses 13 (omega arith)
        (first_passes _ (opens_back s o)
        ∙ (refuse_later 3 _ (ap not (eq-eqb (dimension s) 2 two))
        ∙ refuse_here 13 _ (ap not (ne_eqb (length ps % (3 * dimension s)) 0 (λ e. h (ap (λ n. length ps % (3 * n)) (sym two) ∙ e))))))

    -- else by position: the first that is turned away
    pub order_position : length ps % 6 ≡ 0 → (k : ℕ) → k < place_count s ps → ((j : ℕ) → j < k → position_refusal s ps j ≡ 0)
        → 0 < position_refusal s ps k → ordered s ps ≡ refused (position_refusal s ps k)
    unfolding order_refusal
    order_position whole k u earlier l =
        refuses (position_refusal s ps k) l
        (first_passes _ (opens_back s o)
        ∙ (refuse_later 3 _ (ap not (eq-eqb (dimension s) 2 two))
        ∙ (refuse_later 13 _ (ap not (eq-eqb (length ps % (3 * dimension s)) 0 (ap (λ n. length ps % (3 * n)) two ∙ whole)))
        ∙ first_position s ps 0 (place_count s ps) k (omega arith) (omega arith) (λ j i h. earlier j h) l)))

-- ---- one position

module _ (s ps : List ℕ) (k : ℕ) where
  -- as Judge and Point have it
  pub position_point : 0 < point_refusal s (place_bytes s ps k) → position_refusal s ps k ≡ point_refusal s (place_bytes s ps k)
  unfolding position_refusal
  position_point l = first_refuses _ _ (λ e. omega (arith, l, e))

  module _ (passes : point_refusal s (place_bytes s ps k) ≡ 0) where
    -- its trace is no loop
    pub position_no_loop : on_loop s (listed_at s ps k) ≡ false → position_refusal s ps k ≡ 18
    unfolding position_refusal
    position_no_loop e = first_passes _ passes ∙ refuse_here 18 0 (rw e refl)

    -- its loop already came
    pub position_came : (j : ℕ) → j < k → same_loop s (listed_at s ps k) (listed_at s ps j) ≡ true → position_refusal s ps k ≡ 18
    unfolding position_refusal first_listed
    position_came j h e =
        let came : some (same_loop s (listed_at s ps k)) (first_listed s ps k) ≡ true =
        member_some (same_loop s (listed_at s ps k)) (first_listed s ps k) (Memᴰ.map (listed_at s ps) (count_from_listed 0 k j (omega arith) (omega arith))) e in
        first_passes _ passes ∙ refuse_here 18 0 (ap (λ b. not (on_loop s (listed_at s ps k)) || b) came ∙ or-true (not (on_loop s (listed_at s ps k))))
