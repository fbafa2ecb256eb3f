-- The numbers behind the names of the limits: the constants of the code are those of the paper, and every product and sum that a job's limits
-- allow stays inside 64 bits.
use mathlib.Core.Path.{◌≡◌, refl}
use Prim.Native.Nat.{ℕ, ◌^◌, ◌-◌, ◌≤◌}
use native.Mathlib.Nat.{le_trans}
use lib.Dec.{lit≤}
use Rattle.paper.specs.Limits.{coordinate_limit, coefficient_limit, degree_limit}
use Rattle.paper.specs.RunningSum.{monomial_limit, term_size, partial_sum_limit}
use Rattle.paper.proofs.AnyOrder.{limit_most}
use Rattle.polynomial.specs.Sums.{sum_limit}

pub degree_limit_lem : degree_limit ≡ 4
unfolding degree_limit
degree_limit_lem = refl

pub monomial_limit_lem : monomial_limit ≡ 2 ^ 32
unfolding monomial_limit coordinate_limit degree_limit
monomial_limit_lem = refl

-- ---- inside 64 bits

pub coordinate_word : coordinate_limit ≤ 2 ^ 63 - 1
unfolding coordinate_limit
coordinate_word = lit≤ tt

pub coefficient_word : coefficient_limit ≤ 2 ^ 63 - 1
unfolding coefficient_limit
coefficient_word = lit≤ tt

pub monomial_word : monomial_limit ≤ 2 ^ 63 - 1
unfolding monomial_limit coordinate_limit degree_limit
monomial_word = lit≤ tt

pub term_word : term_size ≤ 2 ^ 63 - 1
unfolding term_size monomial_limit coefficient_limit coordinate_limit degree_limit
term_word = lit≤ tt

pub sum_word : sum_limit ≤ 2 ^ 63 - 1
unfolding sum_limit
sum_word = lit≤ tt

pub limit_sum : (n : ℕ) → partial_sum_limit n ≤ sum_limit
unfolding sum_limit term_size monomial_limit coefficient_limit coordinate_limit degree_limit
limit_sum n = le_trans (limit_most n) (lit≤ tt)
