-- `monomials::code` meets its contract: the array has the weights of the exponents (`code_is`). Answered here so that a wrong entry is refused for
-- its number.
use Rattle.monomials.proofs.Codes.{code_is}
use Rattle.monomials.proofs.code.Goals as goal

pub returns : goal.returns
returns c = code_is c.args.k c.requires
