-- The test of the limit, and the inner result behind it.
use Rattle.std.proofs.Common.{◌≡◌, Bool, ◌&&◌, List, [], ◌∷◌, refl, ap}
use Rattle.std.specs.List.{list_all}
use Rattle.curves.specs.Step.{every}

-- the library's test of each member is the definitions'
pub all_is_every : {A : Type 0} (t : A → Bool) (l : List A) → list_all t l ≡ every t l
unfolding every
all_is_every t [] = refl
all_is_every t (x ∷ l) = ap (λ (b : Bool). t x && b) (all_is_every t l)
