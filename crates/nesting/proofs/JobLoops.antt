-- Loops of a job: a place's trace, given space enough, is a loop exactly if its curve closes, and then lists the facets joined to the place's.
use Prim.Native.Nat.{ℕ, ◌<◌}
use native.Mathlib.Omega.{arith}
use mathlib.Core.Path.{◌≡◌, refl, sym, subst}
use mathlib.Core.Bool.{Bool, true, ◌&&◌, false≢true}
use mathlib.Core.Logic.{◌↔◌}
use mathlib.Core.List.{List}
use lib.ListN.{length}
use lib.Signed.{le_z}
use Rattle.exact.proofs.AndTests.{and_left, and_right}
use Rattle.curves.specs.Grid.{Facet, Place}
use Rattle.curves.specs.Walk.{Verdict, loop, stopped, full}
use Rattle.curves.specs.WalkRun.{Traced}
use Rattle.curves.specs.Curve.{◌∈◌}
use Rattle.curves.specs.Step.{Stop, step}
use Rattle.curves.specs.Joined.{Joined, Traceable, Closes}
use Rattle.curves.specs.GridDemand.{facet_of, trace_of, WalksOn}
use Rattle.curves.proofs.WalkJoined.{not_full_traced, traced_joined}
use Rattle.curves.proofs.WalkClosed.{loop_covers}
use Rattle.curves.proofs.GridWalk.{grid_walk}
use Rattle.curves.proofs.Demand.{loop_closed, stopped_open}
use Rattle.paper.specs.Job.{dimension, body, low_end, high_end}
use Rattle.paper.specs.Values.{inside_from, field_from, field_of}
use Rattle.paper.proofs.Opens.{Opens, opens_range}
use Rattle.seamlist.specs.Seams.{OnSeam}
use Rattle.seamlist.specs.JobSeams.{job_facets}
use Rattle.seamlist.specs.WholeTrace.{whole_trace}
use Rattle.seamlist.proofs.Room.{job_room_lem}
use Rattle.seamlist.proofs.SeamList.{on_seam}
use Rattle.nesting.specs.Loops.{IsLoop, EndsAt}
use Rattle.nesting.specs.CutOrder.{is_loop, on_loop, loop_of, same_loop, row_end}
use Rattle.nesting.proofs.LoopBoundary.{among_listed, among_member}

module _ {s : List ℕ} (o : Opens s) (q : Place) (t : Traceable (dimension s) (field_of s) q) where
  -- the dimension is above 0
  large : 0 < dimension s
  large = omega (arith, (opens_range o).low)

  -- the walks over the job's grid
  walk : WalksOn (dimension s) (field_of s)
  walk = grid_walk (dimension s) (field_of s) large

  -- the space that no trace fills
  abbrev room : ℕ
  room = length (job_facets s)

  -- with that space the trace is not full
  not_full : ¬ ((trace_of (dimension s) (field_of s) q room).verdict ≡ full)
  not_full = job_room_lem o q t room (omega arith)

  -- so it lists its places step by step
  traced : Traced facet_of (step (dimension s) (field_of s)) q (trace_of (dimension s) (field_of s) q room)
  traced = not_full_traced walk t room not_full

  -- ---- the verdict

  -- the test of the verdict tells it
  verdict_loop : on_loop s q ≡ true → (trace_of (dimension s) (field_of s) q room).verdict ≡ loop
  unfolding on_loop is_loop whole_trace
  verdict_loop e = go (trace_of (dimension s) (field_of s) q room).verdict refl e
    where
      go : (v : Verdict Stop) → (trace_of (dimension s) (field_of s) q room).verdict ≡ v → is_loop v ≡ true
          → (trace_of (dimension s) (field_of s) q room).verdict ≡ loop
      go loop h k = h
      go (stopped w) h k = absurd (false≢true k)
      go full h k = absurd (false≢true k)

  -- a curve that closes has that verdict: it is not full, and it does not stop
  closes_verdict : Closes (dimension s) (field_of s) q.facet → on_loop s q ≡ true
  unfolding on_loop is_loop whole_trace
  closes_verdict c = go (trace_of (dimension s) (field_of s) q room).verdict refl
    where
      go : (v : Verdict Stop) → (trace_of (dimension s) (field_of s) q room).verdict ≡ v → is_loop v ≡ true
      go loop h = refl
      go (stopped w) h = absurd (stopped_open (dimension s) (field_of s) large q t room w h c)
      go full h = absurd (not_full h)

  -- the trace is a loop exactly if the curve of the place's facet closes
  pub on_loop_closes : (on_loop s q ≡ true) ↔ Closes (dimension s) (field_of s) q.facet
  on_loop_closes = (λ e. loop_closed (dimension s) (field_of s) large q t room (verdict_loop e), closes_verdict)

  -- ---- the facets

  -- a facet of the trace is joined to the place's
  pub loop_joined : (f : Facet) → f ∈ loop_of s q → Joined (dimension s) (field_of s) q.facet f
  unfolding loop_of whole_trace
  loop_joined f i = traced_joined walk t traced i

  -- a loop has every facet that is joined to the place's
  pub joined_loop : on_loop s q ≡ true → (f : Facet) → Joined (dimension s) (field_of s) q.facet f → f ∈ loop_of s q
  unfolding loop_of whole_trace
  joined_loop e f j = loop_covers walk t traced (verdict_loop e) f j

  -- the loop of p is that of q exactly if their facets are joined
  pub same_loop_joined : on_loop s q ≡ true → (p : Place) → (same_loop s p q ≡ true) ↔ Joined (dimension s) (field_of s) q.facet p.facet
  unfolding same_loop
  same_loop_joined e p =
      (λ h. loop_joined p.facet (among_member (loop_of s q) p.facet h), λ j. among_listed (loop_of s q) p.facet (joined_loop e p.facet j))

  -- in dimension 2 these are what the theorems call a loop
  pub job_is_loop : dimension s ≡ 2 → on_loop s q ≡ true → IsLoop (field_of s) q.facet (loop_of s q)
  job_is_loop two e =
      record {
        on = subst (λ n. OnSeam n (field_of s) q.facet) two (on_seam (dimension s) (field_of s) q t);
        closes = subst (λ n. Closes n (field_of s) q.facet) two (on_loop_closes.0 e);
        every = λ g j. joined_loop e g (subst (λ n. Joined n (field_of s) q.facet g) (sym two) j);
        only = λ g i. subst (λ n. Joined n (field_of s) q.facet g) two (loop_joined g i);
      }

-- ---- the high end

-- no vertex in the box lies behind the high end of axis 1
pub job_ends_at : (s : List ℕ) → EndsAt (field_of s) (row_end s)
unfolding field_of field_from inside_from row_end
job_ends_at s x y e =
    let b : List ℕ = body s 0 in
    let rest : Bool = le_z (low_end b 1) y && (le_z y (high_end b 1) && true) in
    and_left (le_z x (high_end b 0)) rest (and_right (le_z (low_end b 0) x) (le_z x (high_end b 0) && rest) e)
