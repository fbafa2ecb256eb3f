-- `all` over a range of numbers is the paper's test of each number from its start on.
use mathlib.Core.Path.{◌≡◌, refl, ap}
use mathlib.Core.Bool.{Bool, ◌&&◌}
use Prim.Native.Nat.{ℕ, suc, zero, ◌+◌}
use Rattle.std.specs.List.{range_with_len, list_all}
use Rattle.paper.specs.Job.{all_from}

pub all_range : (t : ℕ → Bool) (k m : ℕ) → list_all t (range_with_len k m) ≡ all_from t k m
unfolding all_from
all_range t k zero = refl
all_range t k (suc m) = ap (λ r. t k && r) (all_range t (k + 1) m)
