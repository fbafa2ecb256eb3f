-- The tests of the small cutter's limits: the box between − 64 and 64, and the counts of terms as they were read.
use mathlib.Core.Path.{◌≡◌, refl, sym, ◌∙◌}
use mathlib.Core.Bool.{Bool, true, false, ◌&&◌, false≢true}
use mathlib.Core.List.{List}
use Prim.Native.Nat.{ℕ, ◌-◌, ◌<◌}
use native.Mathlib.Omega.{arith}
use lib.IntN.{ℤ, pos, negsuc, nat_abs}
use lib.Signed.{le_z, lt_z}
use borrow.Author.Tests.{le-leb, ltb-true}
use Rattle.exact.specs.Int.{neg}
use Rattle.exact.proofs.AndTests.{and-false}
use Rattle.paper.specs.Job.{dimension, body, low_end, high_end, all_from, box_ok}
use Rattle.paper.proofs.Tests.{all_same}
use Rattle.paper.proofs.Terms.{between_size, box_axis}
use Rattle.boxes.specs.Between.{axis_between, box_between}
use Rattle.job.specs.OpenJob.{JobOf}
use Rattle.job.proofs.Opened.{job_opens}
use Rattle.small.specs.Small.{small_coordinate_limit, end_small, axis_small, box_small, terms_small, job_small}
use Rattle.small.proofs.TooLarge.{end_test}

-- ---- the ends of an axis

le_self : (x : ℤ) → le_z x x ≡ true
le_self (pos a) = le-leb a a (omega arith)
le_self (negsuc a) = le-leb a a (omega arith)

lt_le : (x y : ℤ) → lt_z x y ≡ true → le_z x y ≡ true
lt_le (pos a) (pos b) h = le-leb a b (omega (arith, ltb-true a b h))
lt_le (pos a) (negsuc b) h = absurd (false≢true h)
lt_le (negsuc a) (pos b) h = refl
lt_le (negsuc a) (negsuc b) h = le-leb b a (omega (arith, ltb-true b a h))

-- of an axis whose low end is under its high one, both ends lie from − 64 to 64 exactly if the low one is not under − 64 and the high one not over 64
ends_between : (low high : ℤ) → lt_z low high ≡ true
    → (le_z (neg (pos small_coordinate_limit)) low && (lt_z low high && le_z high (pos small_coordinate_limit))) ≡ (end_small low && end_small high)
ends_between low high h = go (le_z (neg (pos m)) low) (le_z high (pos m)) refl refl
  where
    m : ℕ
    m = small_coordinate_limit

    size : le_z (neg (pos m)) low ≡ true → le_z high (pos m) ≡ true → (z : ℤ) → le_z low z ≡ true → le_z z high ≡ true → end_small z ≡ true
    size p q z f g = end_test z ∙ le-leb (nat_abs z) m (between_size m low high z p f g q)

    over : le_z high (pos m) ≡ false → end_small high ≡ false
    over q = unfold end_small in and-false (le_z (neg (pos m)) high) q

    go : (p q : Bool) → le_z (neg (pos m)) low ≡ p → le_z high (pos m) ≡ q
        → (le_z (neg (pos m)) low && (lt_z low high && le_z high (pos m))) ≡ (end_small low && end_small high)
    go true true e f = rw (e, f, h, size e f low (le_self low) (lt_le low high h), size e f high (lt_le low high h) (le_self high))
    go true false e f = rw (e, f, h, over f) (sym (and-false (end_small low) refl))
    go false q e f = unfold end_small in rw e

-- a box of the paper: the test with the two limits is that of the small cutter
pub box_decides : (n : ℕ) (b : List ℕ) → box_ok n b ≡ true → box_between (negsuc 63) (pos 64) n b ≡ box_small n b
unfolding box_between box_small
box_decides n b h = all_same (axis_between (negsuc 63) (pos 64) b) (axis_small b) 0 n (λ a l u. axis a (omega arith))
  where
    axis : (a : ℕ) → a < n → axis_between (negsuc 63) (pos 64) b a ≡ axis_small b a
    axis a l = unfold axis_between in unfold axis_small in unfold small_coordinate_limit in unfold neg in
        ends_between (low_end b a) (high_end b a) (box_axis n b a h l).rising

-- ---- the job

-- b is the body of its box
module _ {n : ℕ} {s : List ℕ} (j : JobOf n s) {b : List ℕ} (e : b ≡ body s 0) {p : Bool} (f : p ≡ box_between (negsuc 63) (pos 64) n b) where
  box_is : box_small (dimension s) (body s 0) ≡ p
  box_is =
      let d = j.dimension in
      let same : box_between (negsuc 63) (pos 64) (dimension s) (body s 0) ≡ p = rw (← d, ← e) (sym f) in
      sym (box_decides (dimension s) (body s 0) (job_opens j).box) ∙ same

  pub box_over : p ≡ false → false ≡ job_small s
  unfolding job_small
  box_over h = rw (box_is, h)

  pub polynomials_decide : p ≡ true → {q : Bool} → q ≡ all_from (terms_small s) 1 (n - 1) → q ≡ job_small s
  unfolding job_small
  polynomials_decide h g = let d = j.dimension in rw (box_is, h, ← d) g
