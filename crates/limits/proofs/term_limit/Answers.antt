-- `limits::term_limit` meets its contract: the array has the limit of each dimension.
use Prim.Native.Nat.{ℕ, ◌-◌}
use mathlib.Core.Path.{◌≡◌, refl}
use mathlib.Core.List.{[], ◌∷◌}
use native.Mathlib.Omega.{arith}
use lib.ListN.{get_or}
use Rattle.paper.specs.Limits.{term_limit}
use Rattle.bits.specs.Axes.{Axes}
use Rattle.bits.proofs.EachDimension.{each_axes}
use Rattle.limits.proofs.term_limit.Goals as goal

limit_is : (n : ℕ) → Axes n → get_or (15 ∷ 35 ∷ 70 ∷ []) (n - 2) 0 ≡ term_limit n
unfolding term_limit
limit_is = each_axes (λ n. get_or (15 ∷ 35 ∷ 70 ∷ []) (n - 2) 0 ≡ term_limit n) refl refl refl

pub overflow_sub-result : goal.overflow_sub-result
overflow_sub-result c = c.requires.low

pub offset_bounds-n : goal.offset_bounds-n
offset_bounds-n c = omega (arith, c.requires.high)

pub returns : goal.returns
returns c = limit_is c.args.n c.requires
