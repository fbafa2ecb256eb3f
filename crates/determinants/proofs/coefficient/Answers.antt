-- `determinants::coefficient` meets its contract: the coefficient is the cofactor.
use lib.Dec.{lit≤}
use Rattle.exact.proofs.Bits.{holds_call, is_size}
use Rattle.determinants.proofs.FacetMinors.{cofactor}
use Rattle.determinants.proofs.coefficient.Goals as goal

pub alternated-requires : goal.alternated-requires
alternated-requires c = is_size (holds_call c.minor.ensures (lit≤ tt))

pub returns : goal.returns
returns c = holds_call (cofactor (c.requires.cells, c.requires.out_le_n) (holds_call c.minor.ensures (lit≤ tt)) c.alternated.ensures) (lit≤ tt)
