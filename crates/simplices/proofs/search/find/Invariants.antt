-- `simplices::search::find` meets its contract. The loop's invariant: no vertex of a row before `row` matches.
use Prim.Native.Nat.{ℕ, ◌≤◌, ◌<◌}
use mathlib.Core.Path.{◌≡◌}
use mathlib.Core.Bool.{false}
use Rattle.places.specs.Held.{place_as}
use Rattle.simplices.specs.Search.{matches}
use Rattle.simplices.proofs.search.find.Given as goal

abbrev pub invariant-loop-row : goal.invariant-loop-row
invariant-loop-row l = (r : ℕ) → r < l.row → (k : ℕ) → k ≤ l.n → matches l.n r k (place_as l.n l.p) ≡ false
