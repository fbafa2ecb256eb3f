-- The value of a sum under a bias: 0 exactly if the sum is no larger in size than the bias, and else the sum itself. It is above 0
-- exactly if the sum is above the bias, since a zero goes low.
use Prim.Native.Nat.{ℕ, suc, zero, ◌≤◌, ◌<◌}
use native.Mathlib.Omega.{arith}
use native.Mathlib.Nat.{le_trans}
use mathlib.Core.Path.{◌≡◌, refl, sym, ap, subst, ◌∙◌}
use mathlib.Core.Bool.{Bool, true, false, not}
use mathlib.Core.Logic.{◌↔◌}
use mathlib.Core.List.{List, [], ◌∷◌, map}
use lib.IntN.{ℤ, pos, negsuc, nat_abs}
use lib.Dec.{T, leb, lt→ltb, ltb→lt}
use lib.Signed.{◌≤ℤ◌, ◌<ℤ◌, lt_z, lt_z_no, clash_ℤ}
use borrow.Author.Tests.{leb-true, leb-false, le-leb, lt-leb}
use Rattle.exact.specs.Int.{0ℤ}
use Rattle.exact.specs.Size.{Size}
use Rattle.curves.specs.Step.{every}
use Rattle.paper.specs.Values.{readable_sum, value_of}
use Rattle.paper.specs.Limits.{readable_limit}

pub value_small : (b : ℕ) (z : ℤ) → nat_abs z ≤ b → value_of b z ≡ 0ℤ
unfolding value_of
value_small b z h = rw (le-leb (nat_abs z) b h)

pub value_large : (b : ℕ) (z : ℤ) → b < nat_abs z → value_of b z ≡ z
unfolding value_of
value_large b z h = rw (lt-leb (nat_abs z) b h)

-- a sum counts as 0 exactly if it is no larger in size than the bias
pub value_zero : (b : ℕ) (z : ℤ) → (value_of b z ≡ 0ℤ) ↔ (nat_abs z ≤ b)
value_zero b z = (λ h. go h (leb (nat_abs z) b) refl, value_small b z)
  where
    go : value_of b z ≡ 0ℤ → (t : Bool) → leb (nat_abs z) b ≡ t → nat_abs z ≤ b
    go h true e = leb-true _ _ e
    go h false e = let zero : nat_abs z ≡ 0 = ap nat_abs (sym (value_large b z (leb-false _ _ e)) ∙ h) in omega arith

-- without a bias the value is the sum
pub value_without_bias : (z : ℤ) → value_of 0 z ≡ z
value_without_bias (pos zero) = value_small 0 (pos 0) (omega arith)
value_without_bias (pos (suc a)) = value_large 0 (pos (suc a)) (omega arith)
value_without_bias (negsuc a) = value_large 0 (negsuc a) (omega arith)

-- the value is no larger than the sum
pub value_size : {m : ℕ} (b : ℕ) (z : ℤ) → Size m z → Size m (value_of b z)
value_size {m} b z s = go (leb (nat_abs z) b) refl
  where
    go : (t : Bool) → leb (nat_abs z) b ≡ t → Size m (value_of b z)
    go true e = rw (value_small b z (leb-true _ _ e)) (record { size = omega arith })
    go false e = rw (value_large b z (leb-false _ _ e)) s

-- ---- above 0

pub value_above : (b : ℕ) (z : ℤ) → (0ℤ <ℤ value_of b z) ↔ (pos b <ℤ z)
value_above b z = go z (leb (nat_abs z) b) refl
  where
    go : (z : ℤ) (t : Bool) → leb (nat_abs z) b ≡ t → (0ℤ <ℤ value_of b z) ↔ (pos b <ℤ z)
    go (pos a) true e =
        rw (value_small b (pos a) (leb-true _ _ e))
        (λ h. absurd h.lt, λ h. absurd (omega (arith, ltb→lt b a h.lt, leb-true a b e)))
    go (pos a) false e =
        rw (value_large b (pos a) (leb-false _ _ e))
        (λ h. record { lt = lt→ltb b a (leb-false a b e) }, λ h. record { lt = lt→ltb 0 a (omega (arith, leb-false a b e)) })
    go (negsuc a) true e = rw (value_small b (negsuc a) (leb-true _ _ e)) (λ h. absurd h.lt, λ h. absurd h.lt)
    go (negsuc a) false e = rw (value_large b (negsuc a) (leb-false _ _ e)) (λ h. absurd h.lt, λ h. absurd h.lt)

pub value_not_above : (b : ℕ) (z : ℤ) → (value_of b z ≤ℤ 0ℤ) ↔ (z ≤ℤ pos b)
value_not_above b z = (λ h. not_below (λ l. clash_ℤ ((value_above b z).1 l) h), λ h. not_below (λ l. clash_ℤ ((value_above b z).0 l) h))
  where
    not_below : {x y : ℤ} → (x <ℤ y → ⊥) → y ≤ℤ x
    not_below {x} {y} h = test (lt_z x y) refl
      where
        test : (t : Bool) → lt_z x y ≡ t → y ≤ℤ x
        test true e = absurd (h (record { lt = subst T (sym e) tt }))
        test false e = lt_z_no (subst (λ t. T (not t)) (sym e) tt)

-- ---- readable

-- a bias within the readable limit makes no sum readable, and none unreadable: the order of the two tests cannot be told
readable_value : (n b : ℕ) (z : ℤ) → b ≤ readable_limit n → readable_sum n (value_of b z) ≡ readable_sum n z
readable_value n b z h = go (leb (nat_abs z) b) refl
  where
    small : nat_abs z ≤ b → readable_sum n 0ℤ ≡ readable_sum n z
    small l = unfold readable_sum in
        le-leb 0 (readable_limit n) (omega arith) ∙ sym (le-leb (nat_abs z) (readable_limit n) (le_trans l h))

    go : (t : Bool) → leb (nat_abs z) b ≡ t → readable_sum n (value_of b z) ≡ readable_sum n z
    go true e = ap (readable_sum n) (value_small b z (leb-true _ _ e)) ∙ small (leb-true _ _ e)
    go false e = ap (readable_sum n) (value_large b z (leb-false _ _ e))

pub readable_values : (n b : ℕ) → b ≤ readable_limit n → (zs : List ℤ) → every (readable_sum n) (map (value_of b) zs) ≡ every (readable_sum n) zs
unfolding every
readable_values n b h [] = refl
readable_values n b h (z ∷ zs) = rw (readable_value n b z h, readable_values n b h zs)
