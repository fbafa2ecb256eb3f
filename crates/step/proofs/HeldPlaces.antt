-- A held place is well-formed and its bytes can name it; a place that a step leads to has coordinates of the same size.
use Prim.Native.Nat.{ℕ}
use mathlib.Core.Path.{◌≡◌, sym, subst, ◌∙◌}
use mathlib.Core.Bool.{true}
use mathlib.Core.List.{List}
use lib.IntN.{ℤ}
use lib.ListN.{length, drop}
use lib.Dec.{lit≤}
use Rattle.exact.specs.Size.{Size}
use Rattle.curves.specs.Grid.{place_ok}
use Rattle.curves.specs.Step.{every}
use Rattle.curves.specs.Joined.{Traceable}
use Rattle.curves.proofs.GridStep.{accepted}
use Rattle.paper.proofs.ShortPlaces.{short, short_place}
use Rattle.paper.specs.Values.{field_of}
use Rattle.paper.proofs.Opens.{opens}
use Rattle.paper.proofs.StartTraceable.{traceable_short}
use Rattle.bits.specs.Axes.{Axes}
use Rattle.places.specs.Held.{vertex_as, facet_as, place_as, VertexSize}
use Rattle.places.specs.PlaceBytes.{FitsBytes}
use Rattle.paper.specs.declared.Vertex.{Vertex}
use Rattle.paper.specs.declared.HeldPlace.{HeldPlace}
use Rattle.places.proofs.WordBytes.{short_size}
use Rattle.places.proofs.PlaceStored.{coordinate_short}
use Rattle.job.specs.OpenJob.{JobOf}
use Rattle.lattice.specs.Moves.{move_limit}
use Rattle.lattice.proofs.Moves.{vertex_wider}
use Rattle.job.proofs.Opened.{job_axes}
use Rattle.table.specs.Table.{InTable, order_at}
use Rattle.sides.specs.Corners.{CornerIs, LowIs}
use Rattle.sides.proofs.MovedCorners.{first_coordinates, corner_rest, low_rest, size_parts}
use Rattle.step.specs.Held.{held_limit, Held}

-- ---- the form and the bytes

-- the coordinates that count fit 16 bits
short_low : {s : List ℕ} {n : ℕ} (p : HeldPlace) → JobOf n s → Traceable n (field_of s) (place_as n p) → short_place (place_as n p) ≡ true
short_low {s} {n} p j t =
    traceable_short (opens s j.opens) (place_as n p) (subst (λ k. Traceable k (field_of s) (place_as n p)) j.dimension t)

module _ {s : List ℕ} {n : ℕ} {p : HeldPlace} (h : Held s n p) where
  pub held_form : place_ok n (place_as n p) ≡ true
  held_form = (accepted n (field_of s) (place_as n p) h.traceable).form

  pub held_fits : FitsBytes n p
  held_fits = record { axes = job_axes h.job; form = held_form; short = short_low p h.job h.traceable }

-- ---- sizes

held_size : (x : ℤ) → short x ≡ true → Size held_limit x
unfolding held_limit
held_size x h = record { size = short_size x h }

-- the coordinates are within the limit if those that count fit 16 bits and the others are those of a vertex within it
low_sized : (n : ℕ) (v u : Vertex) → Axes n → length u.coordinates ≡ 4 → every short (vertex_as n u) ≡ true → drop n (vertex_as 4 u) ≡ drop n (vertex_as 4 v)
    → VertexSize held_limit v → VertexSize held_limit u
unfolding vertex_as
low_sized n v u a four h e s =
    size_parts n held_limit v u four e s
    (λ k l. subst (Size held_limit) (sym (first_coordinates n u k l)) (held_size _ (coordinate_short n u h k l)))

module _ {s : List ℕ} {n : ℕ} {p : HeldPlace} (h : Held s n p) where
  pub low_moves : VertexSize move_limit p.low
  unfolding held_limit move_limit
  low_moves = vertex_wider h.size (lit≤ tt)

  module _ {o : List ℕ} {out : ℕ} {corner : Vertex} (c : CornerIs p.low o out corner) where
    pub corner_moves : VertexSize move_limit corner
    unfolding held_limit move_limit
    corner_moves = vertex_wider (c.size held_limit h.size) (lit≤ tt)

  -- the place that a step leads to
  pub next_held : {row out way : ℕ} {corner : Vertex} {q : HeldPlace} → InTable n row → CornerIs p.low (order_at n row) out corner
      → LowIs corner (order_at n row) way q.low → Traceable n (field_of s) (place_as n q) → Held s n q
  unfolding short_place place_as facet_as
  next_held {row} {out} {way} {corner} {q} t c l y = record {
    job = h.job;
    traceable = y;
    size =
        low_sized n p.low q.low (job_axes h.job) (l.size _ (c.size _ h.size)).count (short_low q h.job y)
        (low_rest n row t corner way q.low l ∙ corner_rest n row t p.low out corner c) h.size;
  }
