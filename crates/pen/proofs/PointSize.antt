-- A point that is not refused is small: its facet lies in the box, and each coordinate is at most one unit above the lowest vertex's, so it is at
-- most 1024 · 257 steps in size. Over any number of axes.
use Prim.Native.Nat.{ℕ, suc, zero, ◌+◌, ◌*◌, ◌<◌}
use native.Mathlib.Omega.{arith}
use mathlib.Core.Path.{◌≡◌, refl, ap, ◌∙◌}
use mathlib.Core.Bool.{true}
use mathlib.Core.List.{List, [], ◌∷◌, map}
use lib.IntN.{ℤ, nat_abs}
use lib.ListN.{length, get_or, length-map}
use borrow.Author.Tests.{leb-true}
use Rattle.exact.proofs.AndTests.{and_left, and_right}
use Rattle.exact.specs.Int.{0ℤ, 1ℤ}
use Rattle.exact.specs.Size.{Size}
use Rattle.exact.specs.Det.{Column, determinant}
use Rattle.exact.proofs.SizeLaws.{size_pos, size_add, size_mul}
use Rattle.curves.specs.Grid.{Vertex, Facet, Place, facet_vertices, plus}
use Rattle.curves.specs.Step.{Field, column, columns, every, crossed_facet}
use Rattle.curves.proofs.GridStep.{Accepted, accepted_traceable}
use Rattle.curves.proofs.IncidenceOf.{place_formed, place_dimension}
use Rattle.paper.specs.Limits.{coordinate_limit, steps_per_unit}
use Rattle.paper.specs.Job.{dimension, decode_place}
use Rattle.paper.proofs.ShortPlaces.{limited}
use Rattle.paper.specs.Values.{field_of, weight_sum, coordinate_steps, point_from, point_of}
use Rattle.paper.specs.Operations.{facet_of, point_refusal}
use Rattle.paper.specs.Answers.{padded}
use Rattle.paper.proofs.StartTraceable.{traceable_limited}
use Rattle.paper.proofs.PointTakes.{point_opens, point_accepted}
use Rattle.points.specs.Shares.{Share}
use Rattle.points.proofs.Shares.{crossed_share}
use Rattle.points.proofs.Rounded.{share_size}

-- ---- one coordinate

-- the most steps of a coordinate
unfoldable pub step_limit : ℕ
step_limit = steps_per_unit * coordinate_limit + steps_per_unit

coordinate_size : (low num d : ℤ) → Size coordinate_limit low → Share num d → Size step_limit (coordinate_steps low num d)
unfolding coordinate_steps step_limit
coordinate_size low num d s h = size_add (size_mul (size_pos steps_per_unit) s) (share_size num d h)

-- ---- a list of coordinates

zero_size : (m : ℕ) → Size m 0ℤ
zero_size m = record { size = omega arith }

limited_size : (v : Vertex) → every limited v ≡ true → (i : ℕ) → Size coordinate_limit (get_or v i 0ℤ)
unfolding every limited
limited_size [] h i = zero_size coordinate_limit
limited_size (x ∷ v) h zero =
    record { size = leb-true (nat_abs x) coordinate_limit (and_left (limited x) (every limited v) h) }
limited_size (x ∷ v) h (suc i) = limited_size v (and_right (limited x) (every limited v) h) i

point_from_size :
    (n : ℕ) (cs : List Column) (ms : List ℕ) → ((a : ℕ) → Share (weight_sum n cs 1 ms a) (determinant n cs))
    → (a : ℕ) (v : Vertex) → ((i : ℕ) → Size coordinate_limit (get_or v i 0ℤ)) → (i : ℕ) → Size step_limit (get_or (point_from n cs ms a v) i 0ℤ)
unfolding point_from
point_from_size n cs ms share a [] h i = zero_size step_limit
point_from_size n cs ms share a (x ∷ v) h zero =
    coordinate_size x (weight_sum n cs 1 ms a) (determinant n cs) (h zero) (share a)
point_from_size n cs ms share a (x ∷ v) h (suc i) = point_from_size n cs ms share (suc a) v (λ k. h (suc k)) i

padded_size : {m : ℕ} (k : ℕ) (l : List ℤ) → ((i : ℕ) → Size m (get_or l i 0ℤ)) → (i : ℕ) → Size m (get_or (padded 0ℤ k l) i 0ℤ)
unfolding padded
padded_size zero l h i = zero_size _
padded_size (suc k) [] h zero = zero_size _
padded_size (suc k) [] h (suc i) = padded_size k [] h i
padded_size (suc k) (x ∷ l) h zero = h zero
padded_size (suc k) (x ∷ l) h (suc i) = padded_size k l (λ j. h (suc j)) i

-- ---- the columns of a facet

column_top : (φ : Field) (vs : List Vertex) (i : ℕ) → i < length vs → get_or (get_or (columns φ vs) i []) 0 0ℤ ≡ 1ℤ
unfolding columns column
column_top φ [] i h = absurd (omega arith)
column_top φ (v ∷ vs) zero h = refl
column_top φ (v ∷ vs) (suc i) h = column_top φ vs i (omega arith)

columns_length : (φ : Field) (f : Facet) → length (columns φ (facet_vertices f)) ≡ suc (length f.masks)
unfolding columns facet_vertices
columns_length φ f = length-map (f.low ∷ map (plus f.low) f.masks) (column φ) ∙ ap suc (length-map f.masks (plus f.low))

vertices_length : (f : Facet) → length (facet_vertices f) ≡ suc (length f.masks)
unfolding facet_vertices
vertices_length f = ap suc (length-map f.masks (plus f.low))

facet_share :
    (n : ℕ) (φ : Field) (p : Place) → Accepted n φ p
    → (a : ℕ) → Share (weight_sum n (columns φ (facet_vertices p.facet)) 1 p.facet.masks a) (determinant n (columns φ (facet_vertices p.facet)))
unfolding crossed_facet
facet_share n φ p t a =
    let form = place_formed n p t.form in
    crossed_share n (columns φ (facet_vertices p.facet)) (place_dimension n p t.form)
    (columns_length φ p.facet ∙ form.masks_length)
    (λ i h. column_top φ (facet_vertices p.facet) i (omega (arith, vertices_length p.facet, form.masks_length)))
    t.crosses p.facet.masks (omega (arith, form.masks_length)) a

-- ---- the theorem

pub point_size :
    (s p : List ℕ) → point_refusal s p ≡ 0
    → (i : ℕ) → Size step_limit (get_or (padded 0ℤ 4 (point_of (dimension s) (field_of s) (facet_of s p))) i 0ℤ)
unfolding point_of facet_of
point_size s p h =
    let place : Place = decode_place (dimension s) p in
    let t = point_accepted s p h in
    let low = traceable_limited (point_opens s p h) place (accepted_traceable (dimension s) (field_of s) place t) in
    padded_size 4 _
    (point_from_size (dimension s) (columns (field_of s) (facet_vertices place.facet)) place.facet.masks
    (facet_share (dimension s) (field_of s) place t) 0 place.facet.low (limited_size place.facet.low low))
