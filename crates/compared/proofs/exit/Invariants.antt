-- `compared::exit` meets its contract. The invariant: q is what was kept of the vertices before the k-th.
use Rattle.determinants.specs.Cells.{simplex_columns}
use Rattle.compared.proofs.PairSigns.{Comparing}
use Rattle.compared.proofs.exit.Given as goal

abbrev pub invariant-loop-k : goal.invariant-loop-k
invariant-loop-k l = Comparing l.n (simplex_columns l.n l.cells) l.plus l.out l.q l.k
