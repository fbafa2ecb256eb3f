-- `polynomial::monomial` meets its contract: the factors' exponents together are within the degree's limit, and so is the product within its own.
use native.Mathlib.Omega.{arith}
use Rattle.polynomial.proofs.Monomials.{product_none, product_fits, product_next, product_all}
use Rattle.polynomial.proofs.monomial.Goals as goal

pub loop-axis-init : goal.loop-axis-init
loop-axis-init c = product_none _ _ _ c.requires.tables

pub overflow_mul-product : goal.overflow_mul-product
overflow_mul-product c =
    product_fits _ _ _ c.requires.tables c.requires.polynomial _ (omega arith) (omega arith) c.factor-product.ensures c.loop-axis.invariant

pub loop-axis-preserved : goal.loop-axis-preserved
loop-axis-preserved c =
    product_next _ _ _ c.requires.tables c.requires.polynomial _ (omega arith) (omega arith) c.factor-product.ensures c.loop-axis.invariant

pub returns : goal.returns
returns c = product_all _ _ _ c.requires.tables (omega arith) c.requires.polynomial c.loop-axis.invariant
