-- No polynomial has more than 70 terms, in any dimension.
use mathlib.Core.Bool.{Bool, true, false, cond}
use Prim.Native.Nat.{ℕ, ◌≤◌}
use lib.Dec.{lit≤, eqb}
use Rattle.paper.specs.Limits.{term_limit}

pub term_limit_most : (n : ℕ) → term_limit n ≤ 70
unfolding term_limit
term_limit_most n = go (eqb n 2) (eqb n 3)
  where
    go : (a b : Bool) → cond a 15 (cond b 35 70) ≤ 70
    go true b = lit≤ tt
    go false true = lit≤ tt
    go false false = lit≤ tt
