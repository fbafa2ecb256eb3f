-- `coefficients::product` meets its contract.
use Rattle.std.proofs.Common.{◌∙◌, sym, ap}
use Rattle.formula.specs.Polynomial.{within, product_of}
use Rattle.coefficients.specs.Result.{result_as}
use Rattle.coefficients.proofs.product.Goals as goal

pub returns-then-not-fits : goal.returns-then-not-fits
unfolding product_of result_as
returns-then-not-fits c = rw (sym c.fits.ensures ∙ c.if-not-fits.true)

pub returns : goal.returns
unfolding product_of
returns c = rw (sym c.fits.ensures ∙ c.if-not-fits.false) (c.within.ensures ∙ ap within c.multiplied.ensures.0)
