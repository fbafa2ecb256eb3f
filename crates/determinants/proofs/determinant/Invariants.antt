-- `determinants::determinant` meets its contract: before vertex i the sum is that of the first i weights.
use Prim.Native.Nat.{◌*◌, ◌≤◌}
use Rattle.exact.specs.Size.{Is}
use Rattle.exact.specs.Crossed.{coefficient}
use Rattle.exact.specs.Minors.{sum_to}
use Rattle.determinants.specs.Cells.{facet_columns}
use Rattle.determinants.specs.Entries.{coefficient_limit}
use Rattle.determinants.proofs.determinant.Given as goal

abbrev pub invariant-loop-i : goal.invariant-loop-i
invariant-loop-i l =
    (l.i ≤ l.n) × Is (l.i * coefficient_limit) (sum_to l.i (λ k. coefficient l.n (facet_columns l.n l.cells l.out) k 0)) l.sum
