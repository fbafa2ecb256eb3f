-- `terms::coefficient_ok` meets its contract.
use Rattle.terms.proofs.CoefficientBits.{coefficient_zero, coefficient_range}
use Rattle.terms.proofs.coefficient_ok.Goals as goal

pub returns-then-u-ne0 : goal.returns-then-u-ne0
returns-then-u-ne0 c = coefficient_range _ _ c.double_word-u.ensures.is c.if-u-ne0.true c.double_word-u.ensures.small

pub returns-else-u-ne0 : goal.returns-else-u-ne0
returns-else-u-ne0 c = rw c.if-u-ne0.false (coefficient_zero _ _ c.double_word-u.ensures.is c.if-u-ne0.false)
