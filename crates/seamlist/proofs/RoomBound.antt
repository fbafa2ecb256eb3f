-- How many facets a job's box can have, so that a count of them fits 64 bits: an axis has at most 513 values, and a vertex at most 60 chains.
use Prim.Native.Nat.{ℕ, suc, zero, ◌+◌, ◌*◌, ◌^◌, ◌≤◌}
use native.Mathlib.Omega.{arith}
use native.Mathlib.Nat.{mul-le-mul, le_trans, pow-succ'}
use mathlib.Core.Path.{◌≡◌}
use mathlib.Core.Bool.{true}
use mathlib.Core.List.{List, map}
use lib.IntN.{ℤ, pos, negsuc}
use lib.ListN.{length}
use lib.Dec.{leb→le, lit≤}
use lib.Signed.{◌≤ℤ◌}
use Rattle.exact.specs.Int.{◌⊕◌, ◌⊖◌, neg, 1ℤ}
use Rattle.exact.specs.Crossed.{count_from}
use Rattle.exact.proofs.Linear.{split, linear}
use Rattle.curves.specs.Box.{counted, span, chains}
use Rattle.paper.specs.Limits.{coordinate_limit}
use Rattle.paper.specs.Job.{dimension, body, low_end, high_end, box_ok}
use Rattle.paper.proofs.Tests.{DimensionRange}
use Rattle.paper.proofs.Opens.{Opens, opens_range}
use Rattle.paper.proofs.Terms.{AxisRange, box_axis}
use Rattle.seamlist.specs.BoxIndex.{box_size}
use Rattle.seamlist.specs.JobSeams.{low_ends, high_ends, job_facets}
use Rattle.seamlist.proofs.BoxIndex.{length_box_facets}
use Rattle.seamlist.proofs.Chains.{chains_2, chains_3, chains_4_count}

-- ---- an axis

counted_le : (z : ℤ) (m : ℕ) → z ≤ℤ pos m → counted z ≤ m
unfolding counted
counted_le (pos a) m h = leb→le a m h.le
counted_le (negsuc a) m h = omega arith

width : (m : ℕ) (l h : ℤ) → neg (pos m) ≤ℤ l → h ≤ℤ pos m → h ⊕ 1ℤ ⊖ l ≤ℤ pos (2 * m + 1)
width m l h = rw (split l, split h) (simp linear (omega arith))

axis_size : (b : List ℕ) (a : ℕ) → AxisRange b a → span (low_end b a) (high_end b a) ≤ 513
unfolding span coordinate_limit
axis_size b a r =
    counted_le (high_end b a ⊕ 1ℤ ⊖ low_end b a) 513
    (width 256 (low_end b a) (high_end b a) (record { le = rw r.low tt }) (record { le = rw r.high tt }))

-- ---- the box

-- the axes from a on
box_size_lem : (n : ℕ) (b : List ℕ) → box_ok n b ≡ true → (m a : ℕ) → a + m ≤ n
    → box_size (map (low_end b) (count_from a m)) (map (high_end b) (count_from a m)) ≤ 513 ^ m
unfolding box_size count_from
box_size_lem n b o zero a l = omega arith
box_size_lem n b o (suc m) a l =
    rw pow-succ'
    (mul-le-mul (axis_size b a (box_axis n b a o (omega arith))) (box_size_lem n b o m (suc a) (omega arith)))

-- in each dimension
all_few : (n : ℕ) → DimensionRange n → 513 ^ n * length (chains n) ≤ 2 ^ 43
all_few zero r = absurd (omega (arith, r.low))
all_few (suc zero) r = absurd (omega (arith, r.low))
all_few (suc (suc zero)) r = rw chains_2 (lit≤ tt)
all_few (suc (suc (suc zero))) r = rw chains_3 (lit≤ tt)
all_few (suc (suc (suc (suc zero)))) r = rw chains_4_count (lit≤ tt)
all_few (suc (suc (suc (suc (suc n))))) r = absurd (omega (arith, r.high))

pub job_facets_few : {s : List ℕ} → Opens s → length (job_facets s) ≤ 2 ^ 43
unfolding job_facets low_ends high_ends
job_facets_few {s} o =
    let n = dimension s in
    let most = box_size_lem n (body s 0) o.box n 0 (omega arith) in
    rw (length_box_facets n (low_ends s) (high_ends s)) (le_trans (mul-le-mul most (omega arith)) (all_few n (opens_range o)))
