-- The cells while columns are put in, one vertex after the other, and what stops it.
use mathlib.Core.Path.{◌≡◌, refl, sym, ap, ◌∙◌}
use mathlib.Core.Bool.{Bool, true, false, ◌&&◌, false≢true}
use mathlib.Core.List.{List, [], ◌∷◌, map}
use Prim.Native.Nat.{ℕ, ◌+◌, ◌*◌, ◌-◌, ◌≤◌, ◌<◌}
use native.Mathlib.Omega.{arith}
use lib.IntN.{ℤ}
use lib.ListN.{length, length-map, get_or}
use Rattle.std.proofs.Common.{Ok, Err}
use Rattle.std.specs.List.{list_all}
use borrow.Author.Count.{below_none, below_more}
use Rattle.exact.specs.Int.{0ℤ}
use Rattle.exact.specs.Crossed.{count_from}
use Rattle.exact.proofs.CountFrom.{map_count_from_suc}
use Rattle.curves.specs.Grid.{Vertex, plus}
use Rattle.curves.specs.Step.{column, columns, every}
use Rattle.paper.specs.Values.{field_of}
use Rattle.paper.proofs.Tests.{every_all}
use Rattle.determinants.specs.Cells.{column_at, Cells}
use Rattle.field.specs.Put.{ValuesPut}
use Rattle.paper.specs.declared.Stop.TheVariants.{Edge, Limit}
use Rattle.paper.specs.declared.Vertex as Vertex
use Rattle.places.specs.Held.{vertex_as}
use Rattle.columns.specs.Vertices.{vertex_list}
use Rattle.columns.specs.Found.{ColumnsPut, ColumnsFound}
use Rattle.field.proofs.Counted.{every_fails, every_at, same_each, map_map}

-- a list by its index
masks_at_index : (ms : List ℕ) → map (λ q. get_or ms q 0) (count_from 0 (length ms)) ≡ ms
unfolding count_from
masks_at_index [] = refl
masks_at_index (m ∷ ms) = ap (λ l. m ∷ l) (map_count_from_suc (λ q. get_or (m ∷ ms) q 0) 0 (length ms) ∙ masks_at_index ms)

-- the vertices, by their index
abbrev pub vertex_of : ℕ → Vertex.Vertex → List ℕ → ℕ → Vertex
vertex_of n base ms q = plus (vertex_as n base) (get_or ms q 0)

pub by_index : (n : ℕ) (base : Vertex.Vertex) (ms : List ℕ) → map (vertex_of n base ms) (count_from 0 (length ms)) ≡ vertex_list n base ms
unfolding vertex_list
by_index n base ms =
    sym (map_map (plus (vertex_as n base)) (λ q. get_or ms q 0) (count_from 0 (length ms))) ∙ ap (map (plus (vertex_as n base))) (masks_at_index ms)

pub vertices_count : (n : ℕ) (base : Vertex.Vertex) (ms : List ℕ) → length (vertex_list n base ms) ≡ length ms
unfolding vertex_list
vertices_count n base ms = length-map ms (plus (vertex_as n base))

pub vertices_are : (n : ℕ) (base : Vertex.Vertex) (ms : List ℕ)
    → map (vertex_of n base ms) (count_from 0 (length (vertex_list n base ms))) ≡ vertex_list n base ms
vertices_are n base ms = ap (λ (m : ℕ). map (vertex_of n base ms) (count_from 0 m)) (vertices_count n base ms) ∙ by_index n base ms

-- a test of all vertices is one of each
pub each_vertex : (t : Vertex → Bool) (n : ℕ) (base : Vertex.Vertex) (ms : List ℕ) → every t (vertex_list n base ms) ≡ true
    → (q : ℕ) → q < length ms → t (vertex_of n base ms q) ≡ true
each_vertex t n base ms h q l = every_at t (vertex_of n base ms) (length ms) q (ap (every t) (by_index n base ms) ∙ h) l

-- the library's test of every mask is that of every vertex
pub every_mask : (t : Vertex → Bool) (n : ℕ) (base : Vertex.Vertex) (ms : List ℕ)
    → list_all (λ m. t (plus (vertex_as n base) m)) ms ≡ every t (vertex_list n base ms)
unfolding every vertex_list
every_mask t n base [] = refl
every_mask t n base (m ∷ ms) = ap (λ b. t (plus (vertex_as n base) m) && b) (every_mask t n base ms)

-- what is put in for a vertex, under another name for it
pub put_vertex : {s : List ℕ} {n k : ℕ} {u v : Vertex} {before after : List ℤ} {r : Bool} → u ≡ v → ValuesPut s n u k before r after
    → ValuesPut s n v k before r after
put_vertex e h = rw (← e) h

-- the columns of the vertices f q for q < k are in, and their values are readable
pub record Filling (s : List ℕ) (n : ℕ) (f : ℕ → Vertex) (before : List ℤ) (k : ℕ) (here : List ℤ) : Type 0 where
  pub cells : Cells n here
  pub tests : (q : ℕ) → q < k → (field_of s).readable (f q) ≡ true
  pub columns : (q : ℕ) → q < k → column_at n here q ≡ column (field_of s) (f q)
  pub upper : (q : ℕ) → 3 * k ≤ q → get_or here q 0ℤ ≡ get_or before q 0ℤ

pub filling_none : (s : List ℕ) {n : ℕ} (f : ℕ → Vertex) {before : List ℤ} → Cells n before → Filling s n f before 0 before
filling_none s f c = record { cells = c; tests = below_none _; columns = below_none _; upper = λ q l. refl }

-- a column under vertex k stays
column_kept : {n : ℕ} (cells after : List ℤ) (k q : ℕ) → n ≤ 4 → q < k → ((p : ℕ) → p < 3 * k → get_or after p 0ℤ ≡ get_or cells p 0ℤ)
    → column_at n after q ≡ column_at n cells q
unfolding column_at
column_kept {n} cells after k q d l h =
    let same = same_each (λ p. get_or after (3 * q + p) 0ℤ) (λ p. get_or cells (3 * q + p) 0ℤ) (n - 1) (λ p u. h (3 * q + p) (omega arith)) in
    rw same

module _ {s : List ℕ} {n : ℕ} (f : ℕ → Vertex) {before cells : List ℤ} (k : ℕ) (g : Filling s n f before k cells) where
  pub filling_next : {r : Bool} {after : List ℤ} → ValuesPut s n (f k) k cells r after → r ≡ true → Filling s n f before (k + 1) after
  filling_next h e =
      let high = h.cells.axes.high in
      record {
        cells = h.cells;
        tests = below_more _ k g.tests (sym h.test ∙ e);
        columns = below_more _ k (λ q l. column_kept _ _ k q high l h.lower ∙ g.columns q l) (h.column e);
        upper = λ q l. h.upper q (omega arith) ∙ g.upper q (omega arith);
      }

  -- a vertex whose values are not readable
  pub filling_fails : {r : Bool} {after : List ℤ} (vs : List Vertex) → map f (count_from 0 (length vs)) ≡ vs → k < length vs
      → ValuesPut s n (f k) k cells r after → r ≡ false → ColumnsPut s n vs before false after
  filling_fails vs d l h e =
      let high = h.cells.axes.high in
      record {
        test = sym (every_fails (field_of s).readable f (length vs) k l (sym h.test ∙ e)) ∙ ap (every (field_of s).readable) d;
        cells = h.cells;
        columns = λ z. absurd (false≢true z);
        upper = λ q u. h.upper q (omega arith) ∙ g.upper q (omega arith);
      }

  -- all columns are in
  pub filling_all : (vs : List Vertex) → map f (count_from 0 (length vs)) ≡ vs → length vs ≡ k → ColumnsPut s n vs before true cells
  unfolding columns
  filling_all vs d e =
      record {
        test = sym (every_all (field_of s).readable f (length vs) (λ q l. g.tests q (omega arith))) ∙ ap (every (field_of s).readable) d;
        cells = g.cells;
        columns = λ z.
            same_each (column_at n cells) (λ q. column (field_of s) (f q)) (length vs) (λ q l. g.columns q (omega arith))
            ∙ sym (map_map (column (field_of s)) f (count_from 0 (length vs)))
            ∙ ap (columns (field_of s)) d;
        upper = λ q l. g.upper q (omega arith);
      }

-- ---- what stops

pub found_edge : (s : List ℕ) {n : ℕ} (vs : List Vertex) {before : List ℤ} {T : Type 0} → Cells n before → every (field_of s).in_box vs ≡ false
    → ColumnsFound s n vs {T = T} before (Err Edge) before
found_edge s vs c h = record { found = h; cells = c; upper = λ q l. refl }

module _ {s : List ℕ} {n : ℕ} {vs : List Vertex} {before after : List ℤ} {r : Bool} (b : every (field_of s).in_box vs ≡ true)
    (h : ColumnsPut s n vs before r after) where
  pub found_limit : {T : Type 0} → r ≡ false → ColumnsFound s n vs {T = T} before (Err Limit) after
  found_limit e = record { found = (b, sym h.test ∙ e); cells = h.cells; upper = h.upper }

  pub found_all : {T : Type 0} (x : T) → r ≡ true → ColumnsFound s n vs before (Ok x) after
  found_all x e = record { found = (b, (sym h.test ∙ e, h.columns e)); cells = h.cells; upper = h.upper }
