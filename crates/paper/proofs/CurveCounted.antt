-- The curve of a job's start has a number of facets, since the box is finite; and it closes or it does not.
use Prim.Native.Nat.{ℕ, suc, ◌<◌}
use native.Mathlib.Omega.{arith}
use mathlib.Core.Path.{◌≡◌, refl, subst}
use mathlib.Core.Bool.{Bool, true, ◌&&◌}
use mathlib.Core.List.{List, [], ◌∷◌, map}
use lib.IntN.{ℤ}
use lib.ListN.{length}
use lib.Signed.{le_z}
use Rattle.exact.proofs.AndTests.{and_left, and_right, and-true}
use Rattle.exact.specs.Crossed.{count_from}
use Rattle.curves.specs.Grid.{Vertex, Place}
use Rattle.curves.specs.Walk.{Verdict, loop, stopped, full}
use Rattle.curves.specs.Step.{Stop, Field}
use Rattle.curves.specs.Joined.{Traceable, Closes}
use Rattle.curves.specs.GridDemand.{trace_of}
use Rattle.curves.specs.Box.{within}
use Rattle.curves.proofs.Demand.{grid_demand3, curve_finite, loop_closed, stopped_open}
use Rattle.paper.specs.Job.{dimension, body, low_end, high_end}
use Rattle.paper.specs.Values.{inside_from, field_from, field_of}
use Rattle.paper.specs.Operations.{start_of, trace_refusal}
use Rattle.paper.specs.Demand3.{CurveHas, CurveCloses}
use Rattle.paper.proofs.Opens.{opens_range}
use Rattle.paper.proofs.StartTraceable.{trace_opens, start_traceable}

-- the low and high ends of m axes from axis a on
lows : List ℕ → ℕ → ℕ → List ℤ
lows b a m = map (low_end b) (count_from a m)

highs : List ℕ → ℕ → ℕ → List ℤ
highs b a m = map (high_end b) (count_from a m)

inside_within : (b : List ℕ) (a : ℕ) (v : Vertex) → inside_from b a v ≡ true → within (lows b a (length v)) (highs b a (length v)) v ≡ true
unfolding inside_from within lows highs count_from
inside_within b a [] h = refl
inside_within b a (x ∷ v) h =
    let rest : Bool = inside_from b (suc a) v in
    let later = and_right (le_z (low_end b a) x) (le_z x (high_end b a) && rest) h in
    and-true (and_left (le_z (low_end b a) x) (le_z x (high_end b a) && rest) h)
    (and-true (and_left (le_z x (high_end b a)) rest later) (inside_within b (suc a) v (and_right (le_z x (high_end b a)) rest later)))

-- the vertices of n coordinates that lie in the box lie between its ends
pub box_within : (s : List ℕ) (v : Vertex) → length v ≡ dimension s → (field_of s).in_box v ≡ true
    → within (map (low_end (body s 0)) (count_from 0 (dimension s))) (map (high_end (body s 0)) (count_from 0 (dimension s))) v ≡ true
unfolding field_from field_of lows highs
box_within s v l h =
    subst (λ m. within (lows (body s 0) 0 m) (highs (body s 0) 0 m) v ≡ true) l (inside_within (body s 0) 0 v h)

pub curve_counted : (s : List ℕ) → trace_refusal s ≡ 0 → (k : ℕ) × CurveHas s k
curve_counted s h =
    curve_finite (dimension s) (field_of s) (omega (arith, (opens_range (trace_opens s h)).low)) (map (low_end (body s 0)) (count_from 0 (dimension s)))
    (map (high_end (body s 0)) (count_from 0 (dimension s))) (box_within s) (start_of s) (start_traceable s h)

-- the verdict of a trace with space for the whole curve decides
closes_by_verdict : (n : ℕ) (φ : Field) (pos : 0 < n) (p : Place) → Traceable n φ p → (k : ℕ) → ¬ ((trace_of n φ p k).verdict ≡ full)
    → Dec (Closes n φ p.facet)
closes_by_verdict n φ pos p t k room = go (trace_of n φ p k).verdict refl
  where
    go : (v : Verdict Stop) → (trace_of n φ p k).verdict ≡ v → Dec (Closes n φ p.facet)
    go loop e = yes (loop_closed n φ pos p t k e)
    go (stopped w) e = no (stopped_open n φ pos p t k w e)
    go full e = absurd (room e)

pub curve_closes_or_not : (s : List ℕ) → trace_refusal s ≡ 0 → Dec (CurveCloses s)
curve_closes_or_not s h =
    let pos : 0 < dimension s = omega (arith, (opens_range (trace_opens s h)).low) in
    let k = curve_counted s h in
    let d = grid_demand3 (dimension s) (field_of s) pos (start_of s) (start_traceable s h) k.0 k.0 in
    closes_by_verdict (dimension s) (field_of s) pos (start_of s) (start_traceable s h) k.0 (d.first_enough k.0 k.1 (omega arith))
