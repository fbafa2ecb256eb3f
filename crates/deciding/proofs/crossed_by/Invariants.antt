-- `deciding::crossed_by` meets its contract. The invariant: the powers of the vertices before i are put in, and from i on all is 0.
use Rattle.std.proofs.Common.{◌≡◌, ℕ, ◌<◌, ◌≤◌, get_or, length}
use Rattle.grounds.specs.Ground.{deciding_power}
use Rattle.determinants.specs.Cells.{facet_columns}
use Rattle.deciding.proofs.crossed_by.Given as goal

abbrev pub invariant-loop-i : goal.invariant-loop-i
invariant-loop-i l =
    (length l.powers ≡ 4) × ((k : ℕ) → k < l.i → get_or l.powers k 0 ≡ deciding_power l.n (facet_columns l.n l.cells l.n) k)
    × ((k : ℕ) → l.i ≤ k → get_or l.powers k 0 ≡ 0)
