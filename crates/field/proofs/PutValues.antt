-- The cells while the values of a vertex are put in, one polynomial after the other.
use mathlib.Core.Path.{◌≡◌, refl, sym, ap, ◌∙◌}
use mathlib.Core.Bool.{Bool, true, false, false≢true}
use mathlib.Core.List.{List, ◌∷◌, map}
use Prim.Native.Nat.{ℕ, suc, ◌+◌, ◌*◌, ◌-◌, ◌≤◌, ◌<◌}
use native.Mathlib.Omega.{arith}
use lib.IntN.{ℤ}
use lib.ListN.{get_or, set, length-set}
use lib.Seq.{get_or-set_same, get_or-set_other}
use lib.Dec.{eqb}
use borrow.Author.Count.{below_none, below_more}
use borrow.Author.Tests.{eqb-true, eqb-false}
use Rattle.exact.specs.Int.{0ℤ, 1ℤ}
use Rattle.exact.specs.Size.{Size}
use Rattle.exact.specs.Crossed.{count_from}
use Rattle.exact.proofs.CountFrom.{map_count_from_suc}
use Rattle.curves.specs.Grid.{Vertex}
use Rattle.curves.specs.Step.{column, every}
use Rattle.paper.specs.Job.{bias, body}
use Rattle.paper.specs.Values.{raw_sum, readable_sum, value_of, sums, field_from, field_of}
use Rattle.paper.proofs.Tests.{every_all}
use Rattle.job.specs.OpenJob.{JobOf}
use Rattle.determinants.specs.Cells.{column_at, entry_limit, Cells}
use Rattle.field.specs.Put.{ValuePut, ValuesPut}
use Rattle.field.proofs.Counted.{every_fails, same_each, map_map}
use Rattle.field.proofs.OpenedJob.{job_value}

-- ---- one cell

-- a cell within the limit is put in
cells_set : {n : ℕ} {cells : List ℤ} (at : ℕ) (z : ℤ) → at < 15 → Cells n cells → Size (entry_limit n) z → Cells n (set cells at z)
cells_set {n} {cells} at z l c s =
    record { axes = c.axes; count = length-set cells at z ∙ c.count; entries = λ k. go k (eqb k at) refl }
  where
    go : (k : ℕ) (b : Bool) → eqb k at ≡ b → Size (entry_limit n) (get_or (set cells at z) k 0ℤ)
    go k true e =
        let same : get_or (set cells at z) at 0ℤ ≡ z = get_or-set_same cells at z 0ℤ (omega (arith, c.count)) in
        rw (eqb-true k at e, same) s
    go k false e = rw (get_or-set_other cells at k z 0ℤ (eqb-false k at e)) (c.entries k)

-- ---- the values under k are in

pub record Putting (s : List ℕ) (n : ℕ) (v : Vertex) (i : ℕ) (before : List ℤ) (k : ℕ) (here : List ℤ) : Type 0 where
  pub cells : Cells n here
  pub tests : (q : ℕ) → q < k → readable_sum n (raw_sum (body s (q + 1)) v) ≡ true
  pub entries : (q : ℕ) → q < k → get_or here (3 * i + q) 0ℤ ≡ value_of (bias s) (raw_sum (body s (q + 1)) v)
  pub lower : (q : ℕ) → q < 3 * i → get_or here q 0ℤ ≡ get_or before q 0ℤ
  pub upper : (q : ℕ) → 3 * i + k ≤ q → get_or here q 0ℤ ≡ get_or before q 0ℤ

pub putting_none : (s : List ℕ) {n : ℕ} (v : Vertex) (i : ℕ) {before : List ℤ} → Cells n before → Putting s n v i before 0 before
putting_none s v i c =
    record { cells = c; tests = below_none _; entries = below_none _; lower = λ q l. refl; upper = λ q l. refl }

module _ {n : ℕ} {s : List ℕ} (j : JobOf n s) {v : Vertex} {i : ℕ} {before cells : List ℤ} (k : ℕ) (l : k + 1 < n) (g : Putting s n v i before k cells)
    {r : Bool} {after : List ℤ} (h : ValuePut s n v (k + 1) (3 * i + k) cells r after) where
  -- one value more
  pub putting_next : i < 5 → r ≡ true → Putting s n v i before (k + 1) after
  putting_next u e =
      let z : ℤ = value_of (bias s) (raw_sum (body s (k + 1)) v) in
      let test : readable_sum n (raw_sum (body s (k + 1)) v) ≡ true = sym h.test ∙ e in
      let inner : 3 * i + k < 15 = omega (arith, g.cells.axes.high) in
      rw (h.put e) (record {
        cells = cells_set (3 * i + k) z inner g.cells (job_value j (raw_sum (body s (k + 1)) v) test);
        tests = below_more _ k g.tests test;
        entries = below_more _ k
            (λ q m. get_or-set_other cells (3 * i + k) (3 * i + q) z 0ℤ (λ d. omega arith) ∙ g.entries q m)
            (get_or-set_same cells (3 * i + k) z 0ℤ (omega (arith, g.cells.count)));
        lower = λ q m. get_or-set_other cells (3 * i + k) q z 0ℤ (λ d. omega arith) ∙ g.lower q m;
        upper = λ q m. get_or-set_other cells (3 * i + k) q z 0ℤ (λ d. omega arith) ∙ g.upper q (omega arith);
      })

-- ---- the sums by their index

module _ {n : ℕ} {s : List ℕ} (j : JobOf n s) (v : Vertex) where
  sum_at : ℕ → ℤ
  sum_at q = raw_sum (body s (q + 1)) v

  sums_are : sums s v ≡ map sum_at (count_from 0 (n - 1))
  unfolding sums sum_at
  sums_are =
      let next : (q : ℕ) → suc q ≡ q + 1 = λ q. omega arith in
      rw (← j.dimension) (
      map_count_from_suc (λ k. raw_sum (body s k) v) 0 (n - 1)
      ∙ same_each (λ q. raw_sum (body s (suc q)) v) sum_at (n - 1) (λ q l. ap (λ (k : ℕ). raw_sum (body s k) v) (next q)))

  readable_are : every (readable_sum n) (map sum_at (count_from 0 (n - 1))) ≡ (field_of s).readable v
  unfolding field_from field_of
  readable_are = rw (← sums_are, j.dimension)

module _ {n : ℕ} {s : List ℕ} (j : JobOf n s) {v : Vertex} {i : ℕ} {before cells : List ℤ} (k : ℕ) (g : Putting s n v i before k cells) where
  -- a sum is not readable
  pub putting_fails : {at : ℕ} {r : Bool} {after : List ℤ} → k + 1 < n → ValuePut s n v (k + 1) at cells r after → r ≡ false
      → ValuesPut s n v i before false after
  unfolding sum_at
  putting_fails l h e =
      rw (h.kept e) (record {
        test = sym (every_fails (readable_sum n) (sum_at j v) (n - 1) k (omega arith) (sym h.test ∙ e)) ∙ readable_are j v;
        cells = g.cells;
        column = λ z. absurd (false≢true z);
        lower = g.lower;
        upper = λ q m. g.upper q (omega arith);
      })

  -- all are in
  pub putting_all : n ≤ k + 1 → k + 1 ≤ n → ValuesPut s n v i before true cells
  unfolding column_at column field_from field_of sum_at
  putting_all l u =
      record {
        test = sym (every_all (readable_sum n) (sum_at j v) (n - 1) (λ q m. g.tests q (omega arith))) ∙ readable_are j v;
        cells = g.cells;
        column = λ z.
            ap (λ l. 1ℤ ∷ l)
            (same_each (λ q. get_or cells (3 * i + q) 0ℤ) (λ q. value_of (bias s) (sum_at j v q)) (n - 1) (λ q m. g.entries q (omega arith))
            ∙ sym (map_map (value_of (bias s)) (sum_at j v) (count_from 0 (n - 1))) ∙ ap (map (value_of (bias s))) (sym (sums_are j v)));
        lower = g.lower;
        upper = λ q m. g.upper q (omega arith);
      }
