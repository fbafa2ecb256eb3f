-- `polynomial::factor` meets its contract: the exponent's byte lies inside the body, and the exponent inside the table.
use Prim.Native.Nat.{◌+◌, ◌*◌, ◌≤◌, ◌<◌}
use lib.ListN.{length}
use native.Mathlib.Omega.{arith}
use Rattle.paper.specs.Limits.{degree_limit}
use Rattle.paper.specs.Job.{exponent_of}
use Rattle.polynomial.proofs.Limits.{degree_limit_lem}
use Rattle.polynomial.proofs.Monomials.{term_inside, exponents, factor_counts, factor_absent}
use Rattle.polynomial.proofs.factor.Goals as goal
use Rattle.polynomial.proofs.factor.Goals.{Start}

exponent-inside : (c : Start) → let given = c.args in 8 * given.i + 4 + given.axis < length given.body.now
exponent-inside c = omega (arith, c.requires.tables.1, term_inside _ _ c.requires.polynomial.1)

exponent-low : (c : Start) → let given = c.args in exponent_of given.body.now given.i given.axis ≤ degree_limit
exponent-low c = (exponents c.requires.polynomial.0 _ c.requires.polynomial.1).each _ c.requires.tables.1

pub overflow_mul-i : goal.overflow_mul-i
overflow_mul-i c = omega (arith, exponent-inside (goal.at.overflow_mul-i c).Start)

pub overflow_add-i : goal.overflow_add-i
overflow_add-i c = omega (arith, exponent-inside (goal.at.overflow_add-i c).Start)

pub overflow_add-i-then-axis-n : goal.overflow_add-i-then-axis-n
overflow_add-i-then-axis-n c = omega (arith, exponent-inside (goal.at.overflow_add-i-then-axis-n c).Start)

pub byte-requires : goal.byte-requires
byte-requires c = omega (arith, exponent-inside (goal.at.byte-requires c).Start)

pub bounds-tables-byte : goal.bounds-tables-byte
unfolding exponent_of
bounds-tables-byte c = omega (arith, c.byte.ensures.is, exponent-low (goal.at.bounds-tables-byte c).Start, degree_limit_lem)

pub returns-then-axis-n : goal.returns-then-axis-n
unfolding exponent_of
returns-then-axis-n c =
    factor_counts _ _ _ _ _ c.if-axis-n.true (c.requires.tables.0.each _ c.requires.tables.1 c.if-axis-n.true) c.byte.ensures.is
    (exponent-low (goal.at.returns-then-axis-n c).Start)

pub returns-else-axis-n : goal.returns-else-axis-n
returns-else-axis-n c = factor_absent _ _ _ _ _ c.if-axis-n.false
