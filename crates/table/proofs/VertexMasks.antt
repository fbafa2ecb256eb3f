-- The masks of a simplex's vertices rise: each adds the next axis of the order. Behind the last there are none.
use Prim.Native.Nat.{ℕ, suc, zero, ◌+◌, ◌^◌, ◌≤◌, ◌<◌}
use mathlib.Core.Path.{◌≡◌, refl, ap}
use mathlib.Core.List.{List, [], ◌∷◌}
use native.Mathlib.Omega.{arith}
use native.Mathlib.Nat.{not-suc-le-zero}
use lib.ListN.{length, get_or}
use Rattle.curves.specs.Grid.{masks_from}
use Rattle.table.specs.Table.{vertex_mask}

masks_step :
    (m : ℕ) (o : List ℕ) (k : ℕ) → k < length o
    → get_or (m ∷ masks_from m o) (suc k) 0 ≡ get_or (m ∷ masks_from m o) k 0 + 2 ^ get_or o k 0
unfolding masks_from
masks_step m [] k l = absurd (not-suc-le-zero l)
masks_step m (a ∷ o) zero l = refl
masks_step m (a ∷ o) (suc k) l = masks_step (m + 2 ^ a) o k (omega arith)

pub vertex_mask_step : (o : List ℕ) (k : ℕ) → k < length o → vertex_mask o (suc k) ≡ vertex_mask o k + 2 ^ get_or o k 0
unfolding vertex_mask
vertex_mask_step o k l = masks_step 0 o k l

pub vertex_mask_rises : (o : List ℕ) (k d : ℕ) → k + d ≤ length o → vertex_mask o k ≤ vertex_mask o (k + d)
vertex_mask_rises o k zero l = omega (arith, ap (vertex_mask o) (the k))
  where
    the : (k : ℕ) → k + 0 ≡ k
    the k = omega arith
vertex_mask_rises o k (suc d) l =
    omega (arith, vertex_mask_rises o k d (omega arith), vertex_mask_step o (k + d) (omega arith), ap (vertex_mask o) (the k d))
  where
    the : (k d : ℕ) → k + suc d ≡ suc (k + d)
    the k d = omega arith

masks_none : (m : ℕ) (o : List ℕ) (k : ℕ) → length o < k → get_or (m ∷ masks_from m o) k 0 ≡ 0
unfolding masks_from
masks_none m [] zero l = absurd (omega arith)
masks_none m [] (suc k) l = refl
masks_none m (a ∷ o) zero l = absurd (omega arith)
masks_none m (a ∷ o) (suc k) l = masks_none (m + 2 ^ a) o k (omega arith)

pub vertex_mask_none : (o : List ℕ) (k : ℕ) → length o < k → vertex_mask o k ≡ 0
unfolding vertex_mask
vertex_mask_none o k l = masks_none 0 o k l
