-- `polynomial::sum_at` meets its contract: the last terms are all of them.
use native.Mathlib.Omega.{arith}
use mathlib.Core.Path.{refl}
use Rattle.exact.proofs.Bits.{holds_call}
use Rattle.paper.specs.Job.{term_count}
use Rattle.polynomial.proofs.Limits.{sum_word}
use Rattle.polynomial.proofs.PowerLaws.{tables_vertex}
use Rattle.polynomial.proofs.PartialSums.{raw_sum_is}
use Rattle.polynomial.proofs.sum_at.Goals as goal

pub sum_of_last-requires-clause-polynomial : goal.sum_of_last-requires-clause-polynomial
unfolding term_count
sum_of_last-requires-clause-polynomial c = (c.requires.polynomial, omega arith)

pub returns : goal.returns
unfolding term_count
returns c = holds_call (raw_sum_is c.requires.polynomial (tables_vertex c.requires.tables) refl c.sum_of_last.ensures) sum_word
