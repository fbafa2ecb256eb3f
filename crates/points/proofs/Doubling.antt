-- The ten doublings of the rounding: after k of them 2 to the k times num is quotient times den plus a rest of at most den. Behind them the quotient and
-- the rest say which number of steps is nearest.
use Prim.Native.Nat.{ℕ, suc, ◌+◌, ◌*◌, ◌-◌, ◌%◌, ◌^◌, ◌≤◌, ◌<◌}
use mathlib.Core.Path.{◌≡◌, sym, ap, ◌∙◌}
use native.Mathlib.Omega.{arith}
use native.Mathlib.Nat.{pow-succ', pow-le-pow_right}
use native.Mathlib.Numerals.{add-one}
use lib.IntN.{pos}
use Rattle.paper.specs.Limits.{steps_per_unit}
use Rattle.paper.specs.Values.{share_steps}
use Rattle.paper.proofs.Rounding.{less_nearest, more_nearest, half_nearest, share_only}

pub record Doubled (k num den steps rest : ℕ) : Type 0 where
  pub product : 2 ^ k * num ≡ steps * den + rest
  pub small : rest ≤ den
  pub few : steps < 2 ^ k

-- two to the next power
twice : (k : ℕ) → 2 ^ (k + 1) ≡ 2 ^ k + 2 ^ k
twice k = rw (add-one k) (pow-succ' 2 k ∙ omega arith)

pub doubled_begin : (num den : ℕ) → num ≤ den → Doubled 0 num den 0 num
doubled_begin num den h = record { product = omega arith; small = h; few = omega arith }

module _ (k num den steps rest : ℕ) (d : Doubled k num den steps rest) where
  pub doubled_low : 2 * rest < den → Doubled (k + 1) num den (2 * steps) (2 * rest)
  doubled_low h = record { product = rw (twice k) (omega arith); small = omega arith; few = rw (twice k) (omega arith) }

  pub doubled_high : den ≤ 2 * rest → Doubled (k + 1) num den (2 * steps + 1) (2 * rest - den)
  doubled_high h = record { product = rw (twice k) (omega arith); small = omega arith; few = rw (twice k) (omega arith) }

-- the quotient stays below 1024
pub doubled_few : (k num den steps rest : ℕ) → Doubled k num den steps rest → k ≤ 10 → steps < 1024
doubled_few k num den steps rest d h = let most : 2 ^ k ≤ 2 ^ 10 = pow-le-pow_right (omega arith) h in omega arith

-- after ten doublings
module _ (k num den steps rest : ℕ) (e : k ≡ 10) (p : 0 < den) (d : Doubled k num den steps rest) where
  ten : den * steps + rest ≡ steps_per_unit * num
  unfolding steps_per_unit
  ten = let whole : 1024 * num ≡ steps * den + rest = ap (λ j. 2 ^ j * num) (sym e) ∙ d.product in omega (arith, whole)

  pub steps_down : 2 * rest < den → pos steps ≡ share_steps (pos num) (pos den)
  steps_down h = share_only num den (pos steps) p (less_nearest (steps_per_unit * num) den steps rest ten d.small h)

  pub steps_up : den < 2 * rest → pos (steps + 1) ≡ share_steps (pos num) (pos den)
  steps_up h =
      let next : suc steps ≡ steps + 1 = omega arith in
      sym (ap pos next) ∙ share_only num den (pos (suc steps)) p (more_nearest (steps_per_unit * num) den steps rest ten d.small h)

  pub steps_half : den ≡ 2 * rest → pos (steps + steps % 2) ≡ share_steps (pos num) (pos den)
  steps_half h = share_only num den (pos (steps + steps % 2)) p (half_nearest (steps_per_unit * num) den steps rest ten d.small (sym h))
