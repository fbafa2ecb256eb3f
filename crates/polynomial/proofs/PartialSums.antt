-- The running sum from the last term on, as the code adds: when the terms from i on are summed, the sum is that of the last ones, as many as
-- they are. With the term before them it is again such a sum, which is within the bound of a partial sum and so inside 64 bits.
use mathlib.Core.Path.{◌≡◌, refl, sym, ap, ap₂, subst, ◌∙◌}
use mathlib.Core.List.{List}
use Prim.Native.Nat.{ℕ, ◌+◌, ◌^◌, ◌-◌, ◌≤◌, ◌<◌}
use native.Mathlib.Omega.{arith}
use lib.IntN.{ℤ, pos, ◌+ℤ◌}
use mir.Syntax.{w64}
use mir.Val.{SFits}
use mir.ValLaws.{to_z-of_z}
use Rattle.exact.specs.Int.{◌⊕◌}
use Rattle.exact.specs.Size.{Size, Is}
use Rattle.exact.proofs.Ring.{⊕_is}
use Rattle.exact.proofs.SizeLaws.{size_weaken, size_fits_64}
use Rattle.exact.proofs.Bits.{holds_call, back}
use Rattle.paper.specs.Job.{term_count}
use Rattle.paper.specs.Values.{term_value, sum_from, raw_sum}
use Rattle.paper.specs.RunningSum.{term_size, partial_sum_limit, running_sum, sum_of_last}
use Rattle.paper.proofs.AnyOrder.{limit_word}
use Rattle.paper.proofs.SumFromTop.{last_next, last_size, running_sum_is_last, running_sum_of_all}
use Rattle.polynomial.specs.Sums.{sum_limit, Polynomial}
use Rattle.polynomial.proofs.Limits.{term_word, limit_sum}
use Rattle.polynomial.proofs.PowerLaws.{BoxVertex}

-- r is the sum of the last k terms, within the bound of a partial sum
abbrev pub IsSumOfLast : ℕ → List ℕ → List ℤ → ℕ → ℤ → Type 0
IsSumOfLast n b v k r = Is (partial_sum_limit n) (sum_of_last b v k) r

module _ {n : ℕ} {b : List ℕ} (p : Polynomial n b) {v : List ℤ} (x : BoxVertex v) where
  size_of_last : (k : ℕ) → k ≤ term_count b → Size (partial_sum_limit n) (sum_of_last b v k)
  size_of_last k l = last_size n b v p.terms p.count x.near k x.short l

  -- before the first turn
  pub last_none : (k : ℕ) → k ≡ 0 → IsSumOfLast n b v k (pos 0)
  unfolding sum_of_last sum_from
  last_none k e = rw e (record { is = refl; size = size_of_last 0 (omega arith) })

  -- a turn: the term before the last k, which are summed
  module _ (k i : ℕ) {r t : ℤ} (l : k < term_count b) (e : i ≡ term_count b - (k + 1)) (h : IsSumOfLast n b v k r)
      (j : Is term_size (term_value b v i) t) where
    more_size : Size (2 ^ 63 - 1) (sum_of_last b v (k + 1))
    more_size = size_weaken (size_of_last (k + 1) (omega arith)) (limit_word n)

    -- the sum as the code makes it
    more_is : r +ℤ back t ≡ sum_of_last b v (k + 1)
    more_is =
        ap₂ (λ y z. y +ℤ z) h.is (holds_call j term_word).is
        ∙ sym (⊕_is (sum_of_last b v k) (term_value b v i))
        ∙ ap (λ (m : ℕ). sum_of_last b v k ⊕ term_value b v m) e
        ∙ sym (last_next b v k (omega arith))

    pub last_fits : SFits w64 (r +ℤ back t)
    last_fits = subst (SFits w64) (sym more_is) (size_fits_64 more_size)

    pub last_more : {m : ℕ} → m ≡ k + 1 → IsSumOfLast n b v m (back (r +ℤ back t))
    last_more same =
        rw same (record { is = to_z-of_z w64 (r +ℤ back t) last_fits ∙ more_is; size = size_of_last (k + 1) (omega arith) })

  -- the running sum after so many terms
  pub running_is : (k : ℕ) {r : ℤ} → k ≤ term_count b → IsSumOfLast n b v k r → Is (partial_sum_limit n) (running_sum b v k) r
  running_is k l h = rw (running_sum_is_last b v k x.short l) h

  -- after all terms it is the sum
  pub raw_sum_is : {k : ℕ} {r : ℤ} → k ≡ term_count b → Is (partial_sum_limit n) (running_sum b v k) r → Is sum_limit (raw_sum b v) r
  raw_sum_is all h =
      let i = rw all at h in
      rw (← running_sum_of_all b v x.short) (record { is = i.is; size = size_weaken i.size (limit_sum n) })

-- a running sum that is returned from its bits, at another name for the vertex
pub running_at :
    (n : ℕ) (b : List ℕ) {u v : List ℤ} (k : ℕ) {r : ℤ} → u ≡ v → Is (partial_sum_limit n) (running_sum b u k) r
    → Is (partial_sum_limit n) (running_sum b v k) (back r)
running_at n b k e i = rw (← e) (holds_call i (limit_word n))
