-- The body that stands at an index of the array.
use Prim.Native.Nat.{ℕ, suc, zero}
use mathlib.Core.Path.{◌≡◌, refl}
use mathlib.Core.List.{List, [], ◌∷◌}
use lib.ListN.{get_or}
use denote.Ref.{Bor}
use Rattle.laying.specs.Laid.{body_at}

pub body_read : (bodies : List (Bor (List ℕ))) (k : ℕ) → (get_or bodies k (record { ref_ptr = (0, 0); now = [] })).now ≡ body_at bodies k
unfolding body_at
body_read [] k = refl
body_read (x ∷ xs) zero = refl
body_read (x ∷ xs) (suc k) = body_read xs k
