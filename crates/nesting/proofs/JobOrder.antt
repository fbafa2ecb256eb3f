-- Places on loops of a job stand in the order of how far their loops reach along axis 1. So each list that is answered has an order that stands.
use Prim.Native.Nat.{ℕ, ◌*◌, ◌<◌}
use native.Mathlib.Omega.{arith}
use mathlib.Core.Path.{◌≡◌, refl, sym, ap, ◌∙◌, subst}
use mathlib.Core.Bool.{Bool, true, false}
use mathlib.Core.List.Memᴰ
use mathlib.Core.List.{List, map}
use lib.IntN.{ℤ}
use lib.ListN.{length}
use Rattle.exact.specs.Crossed.{count_from}
use Rattle.curves.specs.Grid.{Place, under}
use Rattle.curves.specs.Curve.{◌∈◌}
use Rattle.curves.specs.Joined.{Joined, Traceable}
use Rattle.curves.proofs.Listed.{count_from_listed, count_from_under}
use Rattle.curves.proofs.JoinedLaws.{joined_sym}
use Rattle.paper.specs.Job.{dimension}
use Rattle.paper.specs.Values.{field_of}
use Rattle.paper.specs.Operations.{answered, encode_places}
use Rattle.paper.specs.Pen.{place_count}
use Rattle.paper.proofs.Opens.{Opens}
use Rattle.paper.proofs.PlacesWritten.{Writable, traceable_writable}
use Rattle.nesting.specs.Standing.{Standing, stands, standing}
use Rattle.nesting.specs.Loops.{greatest_x, Reordered, Apart}
use Rattle.nesting.specs.CutOrder.{on_loop, loop_of, same_loop, loop_inside, listed_at, first_listed, ordered}
use Rattle.nesting.specs.OrderDemand.{LoopsListed}
use Rattle.nesting.proofs.Positions.{apart_at, at_apart}
use Rattle.nesting.proofs.Sorted.{NotLess, reordered_member, reordered_apart, some_order, rising_stands}
use Rattle.nesting.proofs.JobLoops.{same_loop_joined}
use Rattle.nesting.proofs.JobInside.{job_inside_rank}
use Rattle.nesting.proofs.OrderLoops.{order_loops, loops_answered, listed_apart}
use Rattle.nesting.proofs.ListWritten.{written_size, written_count, written_listed, written_bytes}

-- how far the loop of a place reaches along axis 1
abbrev pub reach_of : List ℕ → Place → ℤ
reach_of s p = greatest_x (loop_of s p)

-- the places are on different curves
abbrev pub OnOthers : List ℕ → Place → Place → Type 0
OnOthers s q p = ¬ Joined (dimension s) (field_of s) q.facet p.facet

-- each of the places is traceable and on a loop
pub record OnLoops (s : List ℕ) (l : List Place) : Type 0 where
  pub traceable : (p : Place) → p ∈ l → Traceable (dimension s) (field_of s) p
  pub looped : (p : Place) → p ∈ l → on_loop s p ≡ true

-- ---- lists of places

-- in another order they are on loops too
reordered_loops : {s : List ℕ} {l m : List Place} → OnLoops s l → Reordered l m → OnLoops s m
reordered_loops a r = record {
  traceable = λ p i. a.traceable p (reordered_member r p i);
  looped = λ p i. a.looped p (reordered_member r p i);
}

-- places on loops, listed so that what their loops reach does not fall, stand
pub job_rising_stands : {s : List ℕ} → Opens s → dimension s ≡ 2 → (l : List Place) → OnLoops s l
    → Apart (NotLess (reach_of s)) l → standing (loop_inside s) l ≡ stands
job_rising_stands {s} o two l a r =
    rising_stands (reach_of s) (loop_inside s) l
    (λ q p i j e. job_inside_rank o two p (a.traceable p j) (a.looped p j) q (a.traceable q i) (a.looped q i) e) r

-- so some order of them stands
pub some_order_stands : {s : List ℕ} → Opens s → dimension s ≡ 2 → (l : List Place) → OnLoops s l
    → (m : List Place) × Reordered l m × (standing (loop_inside s) m ≡ stands)
some_order_stands {s} o two l a =
    let w = some_order (reach_of s) l in
    let b : OnLoops s w.0 = reordered_loops a w.1 in
    (w.0, w.1, job_rising_stands o two w.0 b w.2)

-- ---- lists of bytes

-- the places listed are on loops, all different
listed_loops : {s ps : List ℕ} → LoopsListed s ps → OnLoops s (first_listed s ps (place_count s ps))
unfolding first_listed
listed_loops {s} {ps} a = record {
  traceable = λ p i. let w = Memᴰ.of_map (listed_at s ps) (count_from 0 (place_count s ps)) i in
      subst (Traceable (dimension s) (field_of s)) w.2 (a.traceable w.0 (omega (arith, count_from_under 0 (place_count s ps) w.1)));
  looped = λ p i. let w = Memᴰ.of_map (listed_at s ps) (count_from 0 (place_count s ps)) i in
      subst (λ q. on_loop s q ≡ true) w.2 (a.looped w.0 (omega (arith, count_from_under 0 (place_count s ps) w.1)));
}

-- and on different curves
listed_others : {s ps : List ℕ} → LoopsListed s ps → Apart (OnOthers s) (first_listed s ps (place_count s ps))
unfolding first_listed
listed_others {s} {ps} a = at_apart (listed_at s ps) 0 (place_count s ps) (λ j k l h u. listed_apart a j k h (omega arith))

-- and bytes that list such places are not refused
loops_listed : {s : List ℕ} → Opens s → dimension s ≡ 2 → (ps : List ℕ) → length ps ≡ 6 * place_count s ps
    → OnLoops s (first_listed s ps (place_count s ps)) → Apart (OnOthers s) (first_listed s ps (place_count s ps)) → LoopsListed s ps
unfolding first_listed
loops_listed {s} o two ps size a r =
    record {
      opened = o;
      two = two;
      size = size;
      traceable = λ k h. a.traceable (listed_at s ps k) (listed k h);
      looped = λ k h. a.looped (listed_at s ps k) (listed k h);
      new = λ j k h u. go j k h u (same_loop s (listed_at s ps k) (listed_at s ps j)) refl;
    }
  where
    listed : (k : ℕ) → k < place_count s ps → listed_at s ps k ∈ map (listed_at s ps) (count_from 0 (place_count s ps))
    listed k h = Memᴰ.map (listed_at s ps) (count_from_listed 0 (place_count s ps) k (omega arith) (omega arith))

    go : (j k : ℕ) → j < k → k < place_count s ps → (b : Bool) → same_loop s (listed_at s ps k) (listed_at s ps j) ≡ b
        → same_loop s (listed_at s ps k) (listed_at s ps j) ≡ false
    go j k h u false e = e
    go j k h u true e =
        let i = listed j (omega arith) in
        absurd (apart_at (listed_at s ps) 0 (place_count s ps) r j k (omega arith) h (omega arith)
        ((same_loop_joined o (listed_at s ps j) (a.traceable (listed_at s ps j) i) (a.looped (listed_at s ps j) i) (listed_at s ps k)).0 e))

-- places on different loops, written as bytes, are answered as they stand
pub written_answered : {s : List ℕ} → Opens s → dimension s ≡ 2 → (l : List Place) → OnLoops s l → Apart (OnOthers s) l
    → ordered s (encode_places l) ≡ answered (standing (loop_inside s) l)
written_answered {s} o two l a d =
    let qs : List ℕ = encode_places l in
    let w : (p : Place) → p ∈ l → Writable (dimension s) p = λ p i. traceable_writable o p (a.traceable p i) in
    let is : first_listed s qs (place_count s qs) ≡ l = written_listed s l w two in
    let size : length qs ≡ 6 * place_count s qs = written_size s l w two ∙ ap (λ k. 6 * k) (sym (written_count s l w two)) in
    loops_answered s qs (loops_listed o two qs size (subst (OnLoops s) (sym is) a) (subst (Apart (OnOthers s)) (sym is) d))
    ∙ ap (λ m. answered (standing (loop_inside s) m)) is

-- each list that is answered lists places of which some order, as bytes too, stands
pub order_exists : (s ps : List ℕ) (r : Standing) → ordered s ps ≡ answered r
    → (qs : List ℕ) × (under 256 qs ≡ true) × Reordered (first_listed s ps (place_count s ps)) (first_listed s qs (place_count s qs))
    × (ordered s qs ≡ answered stands)
order_exists s ps r e =
    let a : LoopsListed s ps = order_loops s ps r e in
    let l : List Place = first_listed s ps (place_count s ps) in
    let w = some_order_stands a.opened a.two l (listed_loops a) in
    let b : OnLoops s w.0 = reordered_loops (listed_loops a) w.1 in
    let d : Apart (OnOthers s) w.0 = reordered_apart (λ p q n j. n (joined_sym j)) (listed_others a) w.1 in
    let write : (p : Place) → p ∈ w.0 → Writable (dimension s) p = λ p i. traceable_writable a.opened p (b.traceable p i) in
    let is : first_listed s (encode_places w.0) (place_count s (encode_places w.0)) ≡ w.0 = written_listed s w.0 write a.two in (
      encode_places w.0,
      written_bytes (dimension s) w.0 write,
      subst (Reordered l) (sym is) w.1,
      written_answered a.opened a.two w.0 b d ∙ ap answered w.2,
    )
