-- The small cutter answers 17 exactly to a job that Open does not refuse and that has a box end larger in size than 64 or a polynomial of over 16
-- terms; it takes exactly the other jobs that Open does not refuse, and answers Open's own number to those that Open refuses.
use mathlib.Core.Path.{◌≡◌, refl, sym, ap, ◌∙◌}
use mathlib.Core.Logic.{◌≢◌, ◌↔◌}
use mathlib.Core.Bool.{Bool, true, false, not, ◌&&◌}
use mathlib.Core.List.{List}
use Prim.Native.Nat.compare
use Prim.Native.Nat.{ℕ, suc, zero, ◌-◌, ◌≤◌, ◌<◌}
use native.Mathlib.Omega.{arith}
use lib.IntN.{ℤ, pos, negsuc, nat_abs}
use lib.Dec.{leb, lit<}
use lib.Signed.{le_z}
use borrow.Author.Tests.{lt-ltb, leb-true, leb-false, le-leb, lt-leb, not-false}
use Rattle.exact.specs.Int.{neg}
use Rattle.exact.proofs.AndTests.{and_left, and_right}
use Rattle.paper.specs.Job.{dimension, body, low_end, high_end, all_from, term_count, refuse_if, open_refusal}
use Rattle.paper.specs.Operations.{polynomial_terms}
use Rattle.paper.proofs.Tests.{all_at, all_failing}
use Rattle.paper.proofs.Refusals.{not_refused, refuse_here, refuse_later, neither_refused, first_refuses, first_passes}
use Rattle.small.specs.Small.{small_coordinate_limit, small_term_limit, end_small, axis_small, box_small, terms_small, job_small, small_refusal, TooLarge, large_low_end, large_high_end, terms}

-- ---- an end

-- a number lies from − m to m exactly if it is at most m in size
within_size : (m : ℕ) (z : ℤ) → (le_z (neg (pos m)) z && le_z z (pos m)) ≡ leb (nat_abs z) m
unfolding neg
within_size zero (pos a) = rw (le-leb 0 a (omega arith))
within_size zero (negsuc a) = rw (lt-leb (suc a) 0 (omega arith))
within_size (suc m) (pos a) = refl
within_size (suc m) (negsuc a) = rw compare.suc-suc (and_same (leb a m))
  where
    and_same : (p : Bool) → (p && true) ≡ p
    and_same true = refl
    and_same false = refl

pub end_test : (z : ℤ) → end_small z ≡ leb (nat_abs z) small_coordinate_limit
unfolding end_small
end_test z = within_size small_coordinate_limit z

end_size : (z : ℤ) → end_small z ≡ true → nat_abs z ≤ small_coordinate_limit
end_size z e = leb-true (nat_abs z) small_coordinate_limit (sym (end_test z) ∙ e)

end_outside : (z : ℤ) → end_small z ≡ false → small_coordinate_limit < nat_abs z
end_outside z e = leb-false (nat_abs z) small_coordinate_limit (sym (end_test z) ∙ e)

-- ---- the tests, as facts

module _ (s : List ℕ) (h : job_small s ≡ true) where
  -- both ends of each axis pass
  pub ends_small : (a : ℕ) → a < dimension s → axis_small (body s 0) a ≡ true
  unfolding job_small box_small
  ends_small a l =
      all_at (axis_small (body s 0)) 0 (dimension s) a
      (and_left (box_small (dimension s) (body s 0)) (all_from (terms_small s) 1 (dimension s - 1)) h) (omega arith) (omega arith)

  counts_small : (k : ℕ) → 0 < k → k < dimension s → terms_small s k ≡ true
  unfolding job_small
  counts_small k p l =
      all_at (terms_small s) 1 (dimension s - 1) k
      (and_right (box_small (dimension s) (body s 0)) (all_from (terms_small s) 1 (dimension s - 1)) h) (omega arith) (omega arith)

  -- a job that passes is not too large, by whatever reason
  pub small_not_large : TooLarge s → ⊥
  unfolding axis_small terms_small polynomial_terms
  small_not_large (large_low_end a l x) =
      let low : ℤ = low_end (body s 0) a in
      omega (arith, x, end_size low (and_left (end_small low) (end_small (high_end (body s 0) a)) (ends_small a l)))
  small_not_large (large_high_end a l x) =
      let high : ℤ = high_end (body s 0) a in
      omega (arith, x, end_size high (and_right (end_small (low_end (body s 0) a)) (end_small high) (ends_small a l)))
  small_not_large (terms k p l x) =
      let most : term_count (body s k) ≤ small_term_limit = leb-true _ _ (rw (lt-ltb k (dimension s) l) at (counts_small k p l)) in
      omega (arith, x, most)

-- and one that does not pass is too large
pub fails_large : (s : List ℕ) → job_small s ≡ false → TooLarge s
unfolding job_small box_small axis_small terms_small polynomial_terms
fails_large s h = go (box_small n (body s 0)) refl
  where
    n : ℕ
    n = dimension s

    by_end : (a : ℕ) → a < n → axis_small (body s 0) a ≡ false → (p : Bool) → end_small (low_end (body s 0) a) ≡ p → TooLarge s
    by_end a l e false f = large_low_end a l (end_outside (low_end (body s 0) a) f)
    by_end a l e true f = large_high_end a l (end_outside (high_end (body s 0) a) (rw f at e))

    go : (p : Bool) → box_small n (body s 0) ≡ p → TooLarge s
    go false e =
        let x = all_failing (axis_small (body s 0)) 0 n e in
        by_end x.at (omega (arith, x.under)) x.fails (end_small (low_end (body s 0) x.at)) refl
    go true e =
        let f : all_from (terms_small s) 1 (n - 1) ≡ false = rw e at h in
        let x = all_failing (terms_small s) 1 (n - 1) f in
        let l : x.at < n = omega (arith, x.from, x.under) in
        terms x.at (omega (arith, x.from)) l (leb-false _ _ (rw (lt-ltb x.at n l) at x.fails))

-- ---- the refusals of the small Open

module _ (s : List ℕ) where
  -- Open's refusals keep their numbers
  pub refused_alike : open_refusal s ≢ 0 → small_refusal s ≡ open_refusal s
  unfolding small_refusal
  refused_alike h = first_refuses (open_refusal s) (refuse_if (not (job_small s)) 17 0) h

  -- behind them stands 17 alone
  pub behind_open : open_refusal s ≡ 0 → small_refusal s ≡ refuse_if (not (job_small s)) 17 0
  unfolding small_refusal
  behind_open h = first_passes (refuse_if (not (job_small s)) 17 0) h

  pub refuses_large : open_refusal s ≡ 0 → TooLarge s → small_refusal s ≡ 17
  refuses_large h x = behind_open h ∙ go (job_small s) refl
    where
      go : (p : Bool) → job_small s ≡ p → refuse_if (not (job_small s)) 17 0 ≡ 17
      go true e = absurd (small_not_large s e x)
      go false e = refuse_here 17 0 (ap not e)

  -- what the small cutter takes, Open takes
  pub taken_opens : small_refusal s ≡ 0 → open_refusal s ≡ 0
  unfolding small_refusal
  taken_opens h = (neither_refused (open_refusal s) (refuse_if (not (job_small s)) 17 0) h).first

  pub taken_small : small_refusal s ≡ 0 → job_small s ≡ true
  unfolding small_refusal
  taken_small h =
      not-false _ (not_refused (not (job_small s)) 17 0 (lit< tt) (neither_refused (open_refusal s) (refuse_if (not (job_small s)) 17 0) h).next).test

  -- and it takes exactly those of them that are not too large
  pub takes : (small_refusal s ≡ 0) ↔ ((open_refusal s ≡ 0) × (TooLarge s → ⊥))
  takes = (λ h. (taken_opens h, small_not_large s (taken_small h)), λ h. behind_open h.0 ∙ go h.1 (job_small s) refl)
    where
      go : (TooLarge s → ⊥) → (p : Bool) → job_small s ≡ p → refuse_if (not (job_small s)) 17 0 ≡ 0
      go f true e = refuse_later 17 0 (ap not e)
      go f false e = absurd (f (fails_large s e))
