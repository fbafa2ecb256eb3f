-- Point's and Step's structs say the same of an answer and of the answer padded to four axes: a field past the end is 0 either way.
use mathlib.Core.Path.{◌≡◌, refl}
use mathlib.Core.List.{List, [], ◌∷◌}
use Prim.Native.Nat.{ℕ, zero, suc, ◌<◌}
use native.Mathlib.Omega.{arith}
use lib.IntN.{ℤ}
use lib.Dec.{lit<}
use lib.ListN.{get_or}
use Rattle.exact.specs.Int.{0ℤ}
use Rattle.curves.specs.Grid.{Place}
use Rattle.curves.specs.Walk.{Next, stop, go}
use Rattle.curves.specs.Step.{Stop}
use Rattle.paper.specs.Operations.{Answer, refused, answered}
use Rattle.paper.specs.Answers.{padded, padded_point, padded_place, padded_next, padded_step}
use Rattle.pointnumbers.specs.Numbers.{point_numbers}
use Rattle.walknumbers.specs.Numbers.{step_numbers}

pub get_d_padded : {A : Type 0} (d : A) (k i : ℕ) (v : List A) → i < k → get_or (padded d k v) i d ≡ get_or v i d
unfolding padded
get_d_padded d zero i v h = absurd (omega arith)
get_d_padded d (suc k) zero [] h = refl
get_d_padded d (suc k) zero (x ∷ v) h = refl
get_d_padded d (suc k) (suc i) [] h = get_d_padded d k i [] (omega arith)
get_d_padded d (suc k) (suc i) (x ∷ v) h = get_d_padded d k i v (omega arith)

pub point_unpadded : (a : Answer (List ℤ)) → point_numbers (padded_point a) ≡ point_numbers a
unfolding point_numbers padded_point
point_unpadded (refused k) = refl
point_unpadded (answered v) =
    rw (
      get_d_padded 0ℤ 4 0 v (lit< tt),
      get_d_padded 0ℤ 4 1 v (lit< tt),
      get_d_padded 0ℤ 4 2 v (lit< tt),
      get_d_padded 0ℤ 4 3 v (lit< tt),
    )

pub step_unpadded : (a : Answer (Next Place Stop)) → step_numbers (padded_step a) ≡ step_numbers a
unfolding step_numbers padded_step padded_next padded_place
step_unpadded (refused k) = refl
step_unpadded (answered (stop w)) = refl
step_unpadded (answered (go p)) =
    let low = p.facet.low in
    let masks = p.facet.masks in
    rw (
      get_d_padded 0ℤ 4 0 low (lit< tt),
      get_d_padded 0ℤ 4 1 low (lit< tt),
      get_d_padded 0ℤ 4 2 low (lit< tt),
      get_d_padded 0ℤ 4 3 low (lit< tt),
      get_d_padded 0 3 0 masks (lit< tt),
      get_d_padded 0 3 1 masks (lit< tt),
      get_d_padded 0 3 2 masks (lit< tt),
    )
