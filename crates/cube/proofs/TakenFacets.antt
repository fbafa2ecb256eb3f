-- A facet taken from the cube above its lowest vertex: corner after corner, up to the first that is not known.
use mathlib.Core.Path.{◌≡◌, refl, sym, ap, ◌∙◌}
use mathlib.Core.Bool.{Bool, true, false, ◌&&◌, false≢true}
use mathlib.Core.List.{List, [], ◌∷◌, map}
use Prim.Native.Nat.{ℕ, zero, suc, ◌+◌, ◌^◌, ◌≤◌, ◌<◌}
use native.Mathlib.Omega.{arith}
use lib.IntN.{ℤ}
use lib.Dec.{lit≤}
use lib.ListN.{get_or, take}
use Rattle.std.proofs.lemmas.List.{get_or-take, length-take-le}
use borrow.Author.Count.{below_none, below_more}
use Rattle.exact.specs.Crossed.{count_from}
use Rattle.curves.specs.Grid.{plus, facet_vertices}
use Rattle.curves.specs.Grid as Grid
use Rattle.curves.specs.Step.{Field, column, columns, every, readable_all}
use Rattle.paper.specs.Values.{field_of}
use Rattle.paper.proofs.Tests.{every_all}
use Rattle.bits.specs.Axes.{Axes}
use Rattle.bits.proofs.EachDimension.{each_axes}
use Rattle.paper.specs.declared.HeldPlace.{HeldPlace}
use Rattle.places.specs.Held.{vertex_as, facet_as}
use Rattle.determinants.specs.Cells.{column_at, Cells}
use Rattle.columns.proofs.PutColumns.{vertex_of, by_index}
use Rattle.field.proofs.Counted.{every_fails, same_each, map_map}
use Rattle.columns.proofs.FacetColumns.{facet_columns_lem, facet_list}
use Rattle.cube.specs.Cube.{ValuesCopied, known_at, Cube, MasksUnder, FacetTaken}
use Rattle.cube.proofs.Corners.{column_kept}

-- the mask of vertex k
abbrev pub mask_of : HeldPlace → ℕ → ℕ
mask_of p k = get_or (0 ∷ p.masks) k 0

pub mask_under : {n : ℕ} {p : HeldPlace} → Axes n → MasksUnder n p → (k : ℕ) → mask_of p k < 2 ^ n
mask_under {n} a h zero = each_axes (λ n. 0 < 2 ^ n) (lit≤ tt) (lit≤ tt) (lit≤ tt) n a
mask_under a h (suc k) = h.each k

-- the columns of the first k vertices are taken
pub record Taking (n : ℕ) (p : HeldPlace) (values : List ℤ) (known : List Bool) (k : ℕ) (cells : List ℤ) : Type 0 where
  pub within : Cells n cells
  pub tests : (q : ℕ) → q < k → get_or known (mask_of p q) false ≡ true
  pub taken : (q : ℕ) → q < k → column_at n cells q ≡ column_at n values (mask_of p q)

pub taking_none : {n : ℕ} {p : HeldPlace} {values : List ℤ} {known : List Bool} {cells : List ℤ} → Cells n cells → Taking n p values known 0 cells
taking_none c = record { within = c; tests = below_none _; taken = below_none _ }

pub taking_next : {n : ℕ} {p : HeldPlace} {values : List ℤ} {known : List Bool} {cells after : List ℤ} (k : ℕ) {m : ℕ} → m ≡ mask_of p k
    → get_or known m false ≡ true → Taking n p values known k cells → ValuesCopied n values m cells k after → Taking n p values known (k + 1) after
taking_next {n} {p} {values} {known} {cells} {after} k e h g d = record {
  within = record { axes = g.within.axes; count = d.count ∙ g.within.count; entries = d.within.entries };
  tests = below_more _ k g.tests (ap (λ m. get_or known m false) (sym e) ∙ h);
  taken =
      below_more _ k (λ q l. column_kept cells after k q g.within.axes.high l d.lower ∙ g.taken q l)
      (d.copied ∙ ap (column_at n values) e);
}

-- ---- readable

-- both tests of all vertices are one test of each
every_both : (φ : Field) (vs : List Grid.Vertex) → every (λ u. φ.in_box u && φ.readable u) vs ≡ readable_all φ vs
unfolding readable_all every
every_both φ [] = refl
every_both φ (u ∷ vs) =
    ap (λ b. (φ.in_box u && φ.readable u) && b) (every_both φ vs)
    ∙ regroup (φ.in_box u) (φ.readable u) (every φ.in_box vs) (every φ.readable vs)
  where
    regroup : (a b c d : Bool) → ((a && b) && (c && d)) ≡ ((a && c) && (b && d))
    regroup true true c d = refl
    regroup true false true d = refl
    regroup true false false d = refl
    regroup false b c d = refl

module _ {s : List ℕ} {n : ℕ} {p : HeldPlace} {values : List ℤ} {known : List Bool} {one : List ℤ} (a : Axes n) (u : MasksUnder n p)
    (c : Cube s n (vertex_as n p.low) values known one) where
  -- vertex k of the facet
  abbrev pub vertex : ℕ → Grid.Vertex
  vertex k = plus (vertex_as n p.low) (mask_of p k)

  pub known_is : (k : ℕ) → get_or known (mask_of p k) false ≡ known_at s (vertex k)
  known_is k = (c.corner (mask_of p k) (mask_under a u k)).test

  -- the vertices by their index
  pub of_facet : map vertex (count_from 0 n) ≡ facet_vertices (facet_as n p)
  of_facet =
      let ms = take n (0 ∷ p.masks) in
      same_each vertex (vertex_of n p.low ms) n (λ q l. ap (plus (vertex_as n p.low)) (sym (get_or-take n (0 ∷ p.masks) q 0 l)))
      ∙ ap (λ (m : ℕ). map (vertex_of n p.low ms) (count_from 0 m)) (sym (length-take-le n (0 ∷ p.masks) (omega (arith, u.count, a.high))))
      ∙ by_index n p.low ms ∙ facet_list n a p

  pub all_known : every (known_at s) (map vertex (count_from 0 n)) ≡ readable_all (field_of s) (facet_vertices (facet_as n p))
  unfolding known_at
  all_known = ap (every (known_at s)) of_facet ∙ every_both (field_of s) (facet_vertices (facet_as n p))

  pub taking_fails : {cells : List ℤ} (k : ℕ) {m : ℕ} → k < n → m ≡ mask_of p k → get_or known m false ≡ false → Taking n p values known k cells
      → FacetTaken s n (facet_as n p) false cells
  taking_fails k l e h g = record {
    test = sym (every_fails (known_at s) vertex n k l (sym (known_is k) ∙ ap (λ m. get_or known m false) (sym e) ∙ h)) ∙ all_known;
    within = g.within;
    columns = λ z. absurd (false≢true z);
  }

  pub taking_all : {cells : List ℤ} (k : ℕ) → n ≤ k → k ≤ n → Taking n p values known k cells → FacetTaken s n (facet_as n p) true cells
  unfolding columns
  taking_all {cells} k l m g = record {
    test = sym (every_all (known_at s) vertex n (λ q b. sym (known_is q) ∙ g.tests q (omega arith))) ∙ all_known;
    within = g.within;
    columns = λ z.
        facet_columns_lem n cells
        ∙ same_each (column_at n cells) (λ q. column (field_of s) (vertex q)) n
        (λ q b. g.taken q (omega arith) ∙ (c.corner (mask_of p q) (mask_under a u q)).column (g.tests q (omega arith)))
        ∙ sym (map_map (column (field_of s)) vertex (count_from 0 n))
        ∙ ap (columns (field_of s)) of_facet;
  }
