-- The vertices of a facet and of a simplex as the code names them are the definition's, and what was found of them is the facet's refusal and
-- the columns of both.
use mathlib.Core.Path.{◌≡◌, refl, sym, ap, ◌∙◌}
use mathlib.Core.List.{List, [], ◌∷◌, map}
use Rattle.std.proofs.Common.{Result, Ok, Err, IsErr, IsErrAnd}
use Rattle.std.proofs.lemmas.List.{length-take-le}
use Prim.Native.Nat.{ℕ, suc, zero, ◌+◌, ◌≤◌}
use native.Mathlib.Omega.{arith}
use lib.IntN.{ℤ}
use lib.ListN.{length, get_or, take, replicate}
use Rattle.exact.specs.Int.{0ℤ}
use Rattle.exact.specs.Crossed.{count_from}
use Rattle.exact.proofs.SizeLaws.{size_pos, size_weaken}
use Rattle.curves.specs.Grid.{Facet, facet_vertices}
use Rattle.curves.specs.Grid as Grid
use Rattle.curves.specs.Step.{Field, columns}
use Rattle.curves.proofs.Vertices.{plus_zero}
use Rattle.paper.specs.Job.{refuse_if}
use Rattle.paper.specs.Values.{field_of}
use Rattle.paper.specs.Operations.{facet_refusal}
use Rattle.bits.specs.Axes.{Axes}
use Rattle.bits.proofs.EachDimension.{each_axes}
use Rattle.paper.specs.declared.Vertex.{Vertex}
use Rattle.paper.specs.declared.HeldPlace.{HeldPlace}
use Rattle.places.specs.Held.{masks_as, facet_as}
use Rattle.determinants.specs.Cells.{column_at, simplex_columns, facet_columns, Cells}
use Rattle.paper.specs.declared.Refusal.{Refusal}
use Rattle.paper.specs.declared.Stop.{Stop}
use Rattle.paper.specs.declared.Stop.TheVariants.{Edge, Limit}
use Rattle.paper.specs.Refusals.{refusal_number}
use Rattle.paper.specs.Stops.{refusal_of}
use Rattle.columns.specs.Vertices.{vertex_list, simplex_vertices}
use Rattle.columns.specs.Found.{StoppedOr, ColumnsFound, FacetFound, SimplexFound}
use Rattle.columns.proofs.PutColumns.{vertices_count}
use Rattle.field.proofs.Counted.{remove_last}

-- ---- the cells before any value is put in

pub nought : (m i : ℕ) → get_or (replicate m 0ℤ) i 0ℤ ≡ 0ℤ
nought zero i = refl
nought (suc m) zero = refl
nought (suc m) (suc i) = nought m i

pub zero_cells : {n : ℕ} → Axes n → Cells n (replicate 15 0ℤ)
zero_cells a = record { axes = a; count = refl; entries = λ k. rw nought (size_weaken (size_pos 0) (omega arith)) }

-- ---- the vertices

pub facet_list : (n : ℕ) → Axes n → (p : HeldPlace) → vertex_list n p.low (take n (0 ∷ p.masks)) ≡ facet_vertices (facet_as n p)
unfolding vertex_list facet_vertices facet_as masks_as
facet_list n a p =
    each_axes (λ d. vertex_list d p.low (take d (0 ∷ p.masks)) ≡ facet_vertices (facet_as d p)) (rw plus_zero) (rw plus_zero) (rw plus_zero) n a

four : (l : List ℕ) → length l ≡ 4 → get_or l 0 0 ∷ get_or l 1 0 ∷ get_or l 2 0 ∷ get_or l 3 0 ∷ [] ≡ l
four [] e = absurd (omega arith)
four (a ∷ []) e = absurd (omega arith)
four (a ∷ b ∷ []) e = absurd (omega arith)
four (a ∷ b ∷ c ∷ []) e = absurd (omega arith)
four (a ∷ b ∷ c ∷ d ∷ []) e = refl
four (a ∷ b ∷ c ∷ d ∷ x ∷ l) e = absurd (omega arith)

pub simplex_list : (n : ℕ) (corner : Vertex) (ms : List ℕ) → length ms ≡ 4
    → vertex_list n corner (take (n + 1) (0 ∷ get_or ms 0 0 ∷ get_or ms 1 0 ∷ get_or ms 2 0 ∷ get_or ms 3 0 ∷ [])) ≡ simplex_vertices n corner ms
unfolding simplex_vertices
simplex_list n corner ms e =
    let next : n + 1 ≡ suc n = omega arith in
    ap (λ l. vertex_list n corner (take (n + 1) (0 ∷ l))) (four ms e) ∙ ap (λ (m : ℕ). vertex_list n corner (take m (0 ∷ ms))) next

-- as many as the masks that are taken
pub taken_count : (n : ℕ) (base : Vertex) (k : ℕ) (ms : List ℕ) → k ≤ length ms → length (vertex_list n base (take k ms)) ≡ k
taken_count n base k ms l = vertices_count n base (take k ms) ∙ length-take-le k ms l

-- ---- the columns

pub facet_columns_lem : (n : ℕ) (cells : List ℤ) → facet_columns n cells n ≡ map (column_at n cells) (count_from 0 n)
unfolding facet_columns simplex_columns
facet_columns_lem n cells = remove_last (column_at n cells) 0 n

simplex_columns_lem : (n : ℕ) (cells : List ℤ) → simplex_columns n cells ≡ map (column_at n cells) (count_from 0 (n + 1))
unfolding simplex_columns
simplex_columns_lem n cells =
    let e : suc n ≡ n + 1 = omega arith in
    ap (λ (m : ℕ). map (column_at n cells) (count_from 0 m)) e

-- ---- what was found

stopped_more : {T : Type 0} (φ : Field) {vs ws : List Grid.Vertex} {P Q : Type 0} (r : Result T Stop) → vs ≡ ws → (P → Q) → StoppedOr φ vs P r
    → StoppedOr φ ws Q r
stopped_more φ (Ok x) e f h = rw (← e) (h.0, (h.1.0, f h.1.1))
stopped_more φ (Err Edge) e f h = rw (← e) h
stopped_more φ (Err Limit) e f h = rw (← e) h

pub simplex_found : {s : List ℕ} {n : ℕ} {vs ws : List Grid.Vertex} {before after : List ℤ} {T : Type 0} {r : Result T Stop}
    → ColumnsFound s n vs before r after → vs ≡ ws → length vs ≡ n + 1 → SimplexFound s n ws r after
simplex_found {s} {n} {vs} {after = after} {r = r} h e count =
    record {
      found =
          stopped_more (field_of s) r e
          (λ c.
          simplex_columns_lem n after ∙ ap (λ (m : ℕ). map (column_at n after) (count_from 0 m)) (sym count) ∙ c
          ∙ ap (columns (field_of s)) e)
          h.found;
      cells = h.cells;
    }

module _ {s : List ℕ} {n : ℕ} {vs : List Grid.Vertex} {before after : List ℤ} (f : Facet) (e : vs ≡ facet_vertices f) where
  pub facet_found : {T : Type 0} {x y : T} → length vs ≡ n → ColumnsFound s n vs before (Ok x) after → FacetFound s n f {T = T} (Ok y) after
  unfolding facet_refusal refuse_if
  facet_found count h =
      record {
        found = (
          rw (← e, h.found.0, h.found.1.0),
          facet_columns_lem n after ∙ ap (λ (m : ℕ). map (column_at n after) (count_from 0 m)) (sym count) ∙ h.found.1.1
              ∙ ap (columns (field_of s)) e,
        );
        cells = h.cells;
      }

  pub facet_refused : {T U : Type 0} (w : Stop) (r : Result U Refusal) → ColumnsFound s n vs {T = T} before (Err w) after
      → IsErr r × IsErrAnd r (λ k. k ≡ refusal_of w) → FacetFound s n f r after
  unfolding facet_refusal refuse_if refusal_number
  facet_refused Edge (Ok x) h g = absurd g.1
  facet_refused Limit (Ok x) h g = absurd g.1
  facet_refused Edge (Err k) h g = record { found = rw (g.1, ← e, h.found); cells = h.cells }
  facet_refused Limit (Err k) h g = record { found = rw (g.1, ← e, h.found.0, h.found.1); cells = h.cells }
