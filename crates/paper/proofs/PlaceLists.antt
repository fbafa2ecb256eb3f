-- The places of a list by position: where their bytes lie.
use Prim.Native.Nat.{ℕ, suc, ◌+◌, ◌*◌, ◌-◌, ◌/◌, ◌≤◌, ◌<◌}
use native.Mathlib.Nat.{le-div_iff_mul-le}
use native.Mathlib.Omega.{arith}
use mathlib.Core.Path.{◌≡◌, ap, ◌∙◌}
use mathlib.Core.List.{List}
use lib.ListN.{length, take, drop}
use Rattle.paper.specs.Job.{dimension}
use Rattle.paper.specs.Pen.{place_bytes, place_count}

-- place k of a list of places lies within it
pub place_ends : (size k : ℕ) (ps : List ℕ) → 0 < size → k < length ps / size → size * k + size ≤ length ps
place_ends size k ps p h =
    let product : suc k * size ≤ length ps = (le-div_iff_mul-le p).0 h in
    omega arith

module _ (s ps : List ℕ) {n : ℕ} (e : n ≡ dimension s) where
  pub count_is : length ps / (3 * n) ≡ place_count s ps
  unfolding place_count
  count_is = ap (λ d. length ps / (3 * d)) e

  -- the part cut out for place k
  pub part_is : (k : ℕ) {part : List ℕ} → part ≡ take (3 * n * k + 3 * n - 3 * n * k) (drop (3 * n * k) ps) → part ≡ place_bytes s ps k
  unfolding place_bytes
  part_is k q =
      let whole : 3 * n * k + 3 * n - 3 * n * k ≡ 3 * n = omega arith in
      q ∙ ap (λ l. take l (drop (3 * n * k) ps)) whole ∙ ap (λ d. take (3 * d) (drop (3 * d * k) ps)) e
