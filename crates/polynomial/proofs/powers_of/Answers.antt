-- `polynomial::powers_of` meets its contract: each power is the one before times the coordinate.
use Rattle.polynomial.proofs.PowerLaws.{square_is, cube_is, fourth_is, powers_of}
use Rattle.polynomial.proofs.powers_of.Goals as goal

pub overflow_mul-square : goal.overflow_mul-square
overflow_mul-square c = (square_is c.requires).0

pub overflow_mul-cube : goal.overflow_mul-cube
overflow_mul-cube c = (cube_is c.requires).0

pub overflow_mul-result : goal.overflow_mul-result
overflow_mul-result c = (fourth_is c.requires).0

pub returns : goal.returns
returns c = powers_of c.requires
