-- `simplices::exits::exit` meets its contract. The loop's invariant: the search goes on from q (`exit_here`, `exit_later`, `exit_end`).
use mathlib.Core.Path.{◌≡◌}
use Rattle.exact.specs.Crossed.{exit}
use Rattle.determinants.specs.Cells.{simplex_columns}
use Rattle.simplices.proofs.ExitSearch.{search_from}
use Rattle.simplices.proofs.exits.exit.Given as goal

abbrev pub invariant-loop-q : goal.invariant-loop-q
invariant-loop-q l = exit l.n (simplex_columns l.n l.cells) l.out ≡ search_from l.n (simplex_columns l.n l.cells) l.out l.q
