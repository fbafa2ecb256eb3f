-- The loop's invariant: the product is that of the powers from axis on.
use Rattle.polynomial.proofs.Monomials.{ProductFrom}
use Rattle.polynomial.proofs.monomial.Given as goal

abbrev pub invariant-loop-axis : goal.invariant-loop-axis
invariant-loop-axis l = ProductFrom l.n l.body l.i l.tables l.axis l.product
