-- `terms::exponents` meets its contract.
use Rattle.terms.proofs.TermTest.{exponents_read}
use Rattle.terms.proofs.exponents.Goals as goal

pub returns-clause-is : goal.returns-clause-is
returns-clause-is c = exponents_read _ _ c.byte.ensures.is c.byte-2.ensures.is c.byte-3.ensures.is c.byte-4.ensures.is
