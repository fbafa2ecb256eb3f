-- The corners of a cube, one after the other: outside the box, not readable, or put in.
use mathlib.Core.Path.{◌≡◌, refl, sym, ap, subst, ◌∙◌}
use mathlib.Core.Bool.{Bool, true, false, ◌&&◌, and-false, false≢true}
use mathlib.Core.List.{List, ◌∷◌}
use Prim.Native.Nat.{ℕ, ◌+◌, ◌*◌, ◌-◌, ◌^◌, ◌%◌, ◌≤◌, ◌<◌}
use native.Mathlib.Omega.{arith}
use lib.IntN.{ℤ}
use lib.Dec.{lit≤}
use lib.ListN.{length, get_or, set, replicate, length-set}
use lib.Seq.{get_or-set_same, get_or-set_other}
use borrow.Author.Count.{below_none, below_more}
use Rattle.exact.specs.Int.{0ℤ, 1ℤ}
use Rattle.exact.proofs.SizeLaws.{size_pos, size_weaken}
use Rattle.exact.proofs.CountFrom.{map_count_from_ext}
use Rattle.curves.specs.Grid.{Vertex, plus}
use Rattle.curves.specs.Step.{column}
use Rattle.paper.specs.Values.{field_of}
use Rattle.bits.specs.Axes.{Axes}
use Rattle.bits.proofs.EachDimension.{each_axes}
use Rattle.determinants.specs.Cells.{column_at, Cells}
use Rattle.field.specs.Put.{ValuesPut}
use Rattle.columns.proofs.FacetColumns.{nought}
use Rattle.cube.specs.Cube.{Within, ValuesCopied, known_at, Corner, CornerPut, Cube}

-- ---- one corner

module _ (s : List ℕ) (n : ℕ) (v : Vertex) (m : ℕ) {u : Vertex} (e : u ≡ plus v m) {before : List ℤ} (w : Within n before) where
  -- nothing is put in
  kept : {one : List ℤ} → Cells n one → known_at s u ≡ false → CornerPut s n v m before false before one
  kept c h = record {
    count = refl;
    within = w;
    corner = record { test = sym h ∙ ap (known_at s) e; column = λ z. absurd (false≢true z) };
    lower = λ q l. refl;
    left = c;
  }

  pub corner_outside : {one : List ℤ} → Cells n one → (field_of s).in_box u ≡ false → CornerPut s n v m before false before one
  unfolding known_at
  corner_outside c h = kept c (rw h)

  pub corner_unread : {one after : List ℤ} {r : Bool} → ValuesPut s n u 0 one r after → r ≡ false → CornerPut s n v m before false before after
  unfolding known_at
  corner_unread p h =
      let read : (field_of s).readable u ≡ false = sym p.test ∙ h in
      kept p.cells (ap (λ b. (field_of s).in_box u && b) read ∙ and-false ((field_of s).in_box u))

  pub corner_put : {one other after : List ℤ} {r : Bool} → (field_of s).in_box u ≡ true → ValuesPut s n u 0 one r other → r ≡ true
      → ValuesCopied n other 0 before m after → CornerPut s n v m before true after other
  unfolding known_at
  corner_put i p h d =
      let read : (field_of s).readable u ≡ true = sym p.test ∙ h in
      let test : true ≡ known_at s u = sym (rw (i, read)) in
      record {
        count = d.count;
        within = d.within;
        corner = record { test = test ∙ ap (known_at s) e; column = λ z. d.copied ∙ p.column h ∙ ap (column (field_of s)) e };
        lower = d.lower;
        left = p.cells;
      }

-- ---- the corners under m

pub record Corners (s : List ℕ) (n : ℕ) (v : Vertex) (m : ℕ) (values : List ℤ) (known : List Bool) (one : List ℤ) : Type 0 where
  pub room : length values ≡ 48
  pub tests : length known ≡ 16
  pub within : Within n values
  pub corner : (q : ℕ) → q < m → Corner s n v q values (get_or known q false)
  pub left : Cells n one

pub corners_none : {s : List ℕ} {n : ℕ} {v : Vertex} {values : List ℤ} {known : List Bool} {one : List ℤ} → length values ≡ 48 → length known ≡ 16
    → Within n values → Cells n one → Corners s n v 0 values known one
corners_none l k w c = record { room = l; tests = k; within = w; corner = below_none _; left = c }

-- a column under m stays
pub column_kept : {n : ℕ} (values after : List ℤ) (m q : ℕ) → n ≤ 4 → q < m → ((p : ℕ) → p < 3 * m → get_or after p 0ℤ ≡ get_or values p 0ℤ)
    → column_at n after q ≡ column_at n values q
unfolding column_at
column_kept {n} values after m q d l h =
    ap (λ l. 1ℤ ∷ l)
    (map_count_from_ext (λ p. get_or after (3 * q + p) 0ℤ) (λ p. get_or values (3 * q + p) 0ℤ) 0 (n - 1) (λ p a b. h (3 * q + p) (omega arith)))

pub corners_next : {s : List ℕ} {n : ℕ} {v : Vertex} {values after : List ℤ} {known : List Bool} {one other : List ℤ} (m : ℕ) {r : Bool} → m < 16
    → Corners s n v m values known one → CornerPut s n v m values r after other → Corners s n v (m + 1) after (set known m r) other
corners_next {s} {n} {v} {values} {after} {known} m {r} l g p = record {
  room = p.count ∙ g.room;
  tests = length-set known m r ∙ g.tests;
  within = p.within;
  corner =
      below_more _ m
      (λ q u.
      subst (Corner s n v q after) (sym (get_or-set_other known m q r false (λ e. omega arith)))
      (record {
        test = (g.corner q u).test;
        column = λ z. column_kept values after m q p.left.axes.high u p.lower ∙ (g.corner q u).column z;
      }))
      (subst (Corner s n v m after) (sym (get_or-set_same known m r false (omega (arith, g.tests)))) p.corner);
  left = p.left;
}

-- ---- all corners

-- 2 to the n, as the code shifts it
pub corner_count : (n : ℕ) → Axes n → 1 * 2 ^ n % 18446744073709551616 ≡ 2 ^ n
corner_count = each_axes (λ n. 1 * 2 ^ n % 18446744073709551616 ≡ 2 ^ n) refl refl refl

pub corners_few : (n : ℕ) → Axes n → 2 ^ n ≤ 16
corners_few = each_axes (λ n. 2 ^ n ≤ 16) (lit≤ tt) (lit≤ tt) (lit≤ tt)

pub corners_all : {s : List ℕ} {n : ℕ} {v : Vertex} {values : List ℤ} {known : List Bool} {one : List ℤ} (m : ℕ) → 2 ^ n ≤ m
    → Corners s n v m values known one → Cube s n v values known one
corners_all m l g = record { room = g.room; tests = g.tests; within = g.within; corner = λ q u. g.corner q (omega arith); left = g.left }

-- ---- before any value is put in

pub zeros_within : (n m : ℕ) → Within n (replicate m 0ℤ)
zeros_within n m = record { entries = λ k. rw nought (size_weaken (size_pos 0) (omega arith)) }
