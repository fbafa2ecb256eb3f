-- `compared::pair_coefficient` meets its contract: the coefficient is the minor, with the sign of the power.
use lib.Dec.{lit≤}
use Rattle.exact.proofs.Bits.{holds_call, is_size}
use Rattle.compared.proofs.PairSigns.{pair_cofactor}
use Rattle.compared.proofs.pair_coefficient.Goals as goal

pub alternated-requires : goal.alternated-requires
alternated-requires c = is_size (holds_call c.minor.ensures (lit≤ tt))

pub returns : goal.returns
returns c =
    holds_call (pair_cofactor (c.requires.cells, c.requires.q_le_n) (holds_call c.minor.ensures (lit≤ tt)) c.alternated.ensures) (lit≤ tt)
