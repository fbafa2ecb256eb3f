-- The exit by comparisons (specs/Compared) is the exit, and the sign of the determinant of its facet follows from that of the facet without p.
-- Idea: every vertex of the exit's facet has the sign opposite to that of p's facet. This decides each comparison in which the exit takes part:
-- it stays against every later vertex, and takes the place of any earlier one. How the other comparisons come out does not matter.
use Prim.Native.Nat.{ℕ, suc, zero, ◌+◌, ◌-◌, ◌≤◌, ◌<◌}
use native.Mathlib.Omega.{arith}
use native.Mathlib.Decide.{ℕ_discrete}
use mathlib.Core.Path.{◌≡◌, sym, ap, ◌∙◌}
use mathlib.Core.Bool.{Bool, true, false, cond}
use mathlib.Core.Logic.{◌≢◌, ◌⊎◌, inl, inr}
use mathlib.Core.List.{List}
use Rattle.exact.specs.Sign.{sign}
use Rattle.exact.specs.Det.{Column, determinant}
use Rattle.exact.specs.Crossed.{remove, exit}
use Rattle.exact.specs.Minors.{position, skip}
use Rattle.exact.specs.Simplex.{IsSimplex, FacetCrossed, OnlyOther}
use Rattle.exact.specs.Compared.{sign_of, stays, kept_from, compared_exit, plus_across}
use Rattle.exact.proofs.SignLaws.{opposite}
use Rattle.exact.proofs.Position.{skip_position, skip_le, position_lt}
use Rattle.exact.proofs.LexSign.{opposite_opposite}
use Rattle.exact.proofs.OnlyOtherSign.{SimplexSigns, CrossedSigns, other_opposite}
use Rattle.exact.proofs.FacetSigns.{alternate_sign, facet_sign, vertex_sign, facet_sign_is, crossed→crossed_signs, simplex_signs}
use Rattle.exact.proofs.Simplex.{exit_only_other}
use Rattle.exact.proofs.PairSigns.{alternate_sign_add, alternate_sign_opposite, alternate_sign_twice, opposite_odd, stays_true, stays_false}

-- ---- what is kept

-- the vertices other than p, in rising order
pub skip_next : (p k : ℕ) → skip p k < skip p (suc k)
unfolding skip
skip_next zero k = omega arith
skip_next (suc p) zero = omega arith
skip_next (suc p) (suc k) = omega (arith, skip_next p k)

-- what holds of two numbers holds of the one that a test picks
pub cond_holds : (P : ℕ → Type 0) (b : Bool) (q r : ℕ) → P q → P r → P (cond b q r)
cond_holds P true q r h k = h
cond_holds P false q r h k = k

-- a vertex e that stays against every later one, and against which no earlier one stays, is kept at the end
module _ (n : ℕ) (us : List Column) (plus : Bool) (p e : ℕ) (p≤ : p ≤ n) (e≤ : e ≤ n) (p≢e : p ≢ e)
    (later : (r : ℕ) → r ≤ n → e < r → stays n us plus p e r ≡ true) (earlier : (q : ℕ) → q < e → stays n us plus p q e ≡ false) where
  -- the k-th vertex other than p is e, or e comes later, if it does not come earlier
  here_or_later : (k : ℕ) → k ≤ position p e → (skip p k ≡ e) ⊎ (suc k ≤ position p e)
  here_or_later k l = go (ℕ_discrete k (position p e))
    where
      go : Dec (k ≡ position p e) → (skip p k ≡ e) ⊎ (suc k ≤ position p e)
      go (yes h) = inl (ap (skip p) h ∙ skip_position p e p≢e)
      go (no d) = inr (omega arith)

  -- of q and the k-th vertex other than p the one that is kept
  abbrev kept : ℕ → ℕ → ℕ
  kept q k = cond (stays n us plus p q (skip p k)) q (skip p k)

  -- after a comparison e is kept, or comes later, if this was so before
  kept_next : (k q : ℕ) → k < n → q < skip p k → (q ≡ e) ⊎ (k ≤ position p e) → (kept q k ≡ e) ⊎ (suc k ≤ position p e)
  kept_next k q l low (inl h) =
      let stay = later (skip p k) (skip_le n p k p≤ l) (omega arith) in
      inl (ap (λ b. cond b q (skip p k)) (ap (λ x. stays n us plus p x (skip p k)) h ∙ stay) ∙ h)
  kept_next k q l low (inr le) = go (here_or_later k le)
    where
      go : (skip p k ≡ e) ⊎ (suc k ≤ position p e) → (kept q k ≡ e) ⊎ (suc k ≤ position p e)
      go (inl h) = inl (ap (λ b. cond b q (skip p k)) (ap (stays n us plus p q) h ∙ earlier q (omega arith)) ∙ h)
      go (inr le') = inr le'

  -- at the end e is kept, if it is kept or comes later
  kept_last : (m k q : ℕ) → k + m ≡ n → q < skip p k → (q ≡ e) ⊎ (k ≤ position p e) → kept_from n us plus p q k m ≡ e
  unfolding kept_from
  kept_last zero k q size low (inl h) = h
  kept_last zero k q size low (inr l) = absurd (omega (arith, position_lt n p e p≤ e≤ p≢e))
  kept_last (suc m) k q size low known =
      kept_last m (suc k) (kept q k) (omega arith)
      (cond_holds (λ x. x < skip p (suc k)) (stays n us plus p q (skip p k)) q (skip p k) (omega (arith, skip_next p k)) (skip_next p k))
      (kept_next k q (omega arith) low known)

  -- so the exit by comparisons is e
  kept_exit : 0 < n → compared_exit n us plus p ≡ e
  unfolding compared_exit
  kept_exit large = kept_last (n - 1) 1 (skip p 0) (omega arith) (skip_next p 0) (here_or_later 0 (omega arith))

-- ---- the exit

module _ (n : ℕ) (us : List Column) (plus : Bool) (p : ℕ) (s : IsSimplex n us) (p≤ : p ≤ n) (h : FacetCrossed n us p)
    (d : sign (determinant n (remove p us)) ≡ sign_of plus) where
  -- the exit's facet is the only other crossed one
  found : OnlyOther n (FacetCrossed n us) p (exit n us p)
  found = exit_only_other n us s p p≤ h

  -- what is known of the signs of the simplex
  facts : SimplexSigns n (facet_sign n us) (vertex_sign n us)
  facts = simplex_signs n us s.size s.large s.ones

  -- the signs of the exit's facet agree
  across : CrossedSigns n (facet_sign n us) (vertex_sign n us) (exit n us p)
  across = crossed→crossed_signs n us (exit n us p) found.low found.crosses

  -- the sign of the exit's facet
  exit_sign : facet_sign n us (exit n us p) ≡ opposite (alternate_sign p (sign_of plus))
  exit_sign =
      other_opposite facts p p≤ (crossed→crossed_signs n us p p≤ h) (exit n us p) found.low found.other across
      ∙ ap opposite (facet_sign_is n us p ∙ ap (alternate_sign p) d)

  -- the exit stays against every later vertex
  exit_stays : (r : ℕ) → r ≤ n → exit n us p < r → stays n us plus p (exit n us p) r ≡ true
  exit_stays r r≤ l =
      stays_true n us plus p (exit n us p) r s.size l r≤ (across.agree r r≤ (λ e. omega arith) ∙ exit_sign)

  -- no earlier vertex stays against the exit
  none_stays : (q : ℕ) → q < exit n us p → stays n us plus p q (exit n us p) ≡ false
  none_stays q l =
      stays_false n us plus p q (exit n us p) s.size l found.low
      (facts.antisymmetric (exit n us p) q found.low q≤ other ∙ ap opposite (across.agree q q≤ other ∙ exit_sign) ∙ opposite_opposite _)
    where
      q≤ : q ≤ n
      q≤ = omega (arith, found.low)

      other : exit n us p ≢ q
      other e = omega arith

  -- what is kept at the end of the comparisons is the exit
  pub exit_compared : compared_exit n us plus p ≡ exit n us p
  exit_compared = kept_exit n us plus p (exit n us p) p≤ found.low found.other exit_stays none_stays s.large

  -- the sign of the determinant of the exit's facet
  pub exit_determinant : sign (determinant n (remove (exit n us p) us)) ≡ sign_of (plus_across plus p (exit n us p))
  unfolding plus_across
  exit_determinant =
      sym (alternate_sign_twice e _)
      ∙ ap (alternate_sign e) (sym (facet_sign_is n us e) ∙ exit_sign)
      ∙ alternate_sign_opposite e (alternate_sign p (sign_of plus))
      ∙ ap opposite (alternate_sign_add e p (sign_of plus) ∙ ap (λ k. alternate_sign k (sign_of plus)) sum)
      ∙ opposite_odd plus (p + e)
    where
      e : ℕ
      e = exit n us p

      sum : e + p ≡ p + e
      sum = omega arith
