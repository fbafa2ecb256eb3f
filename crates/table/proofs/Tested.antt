-- A rule of the table of orders holds at every row and index up to n (`passes`) if one test over the whole table, which antt
-- computes, says so for each number of axes.
use Prim.Native.Nat.{ℕ, suc, ◌≤◌}
use mathlib.Core.Path.{◌≡◌}
use mathlib.Core.Bool.{Bool, true}
use native.Mathlib.Omega.{arith}
use lib.ListN.{length}
use Rattle.curves.specs.Grid.{orders}
use Rattle.paper.specs.Job.{all_from}
use Rattle.paper.proofs.Tests.{all_at}
use Rattle.bits.proofs.EachDimension.{each_axes}
use Rattle.table.specs.Table.{InTable}

-- the test at every row of the table for n axes and every index up to n
abbrev pub everywhere : (ℕ → ℕ → ℕ → Bool) → ℕ → Bool
everywhere t n = all_from (λ row. all_from (t n row) 0 (suc n)) 0 (length (orders n))

pub passes :
    (t : ℕ → ℕ → ℕ → Bool) → everywhere t 2 ≡ true → everywhere t 3 ≡ true → everywhere t 4 ≡ true
    → (n row i : ℕ) → InTable n row → i ≤ n → t n row i ≡ true
passes t two three four n row i h l =
    all_at (t n row) 0 (suc n) i
    (all_at (λ row. all_from (t n row) 0 (suc n)) 0 (length (orders n)) row (each_axes (λ m. everywhere t m ≡ true) two three four n h.axes)
    (omega arith) (omega (arith, h.inside)))
    (omega arith) (omega arith)
