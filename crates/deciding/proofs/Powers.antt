-- What the searches over powers and over vertices find: the power that decides a vertex, and the first vertex against D; and the ground that each
-- answer is.
use Prim.Native.Nat.{ℕ, suc, zero, ◌+◌, ◌≤◌, ◌<◌}
use native.Mathlib.Omega.{arith}
use mathlib.Core.Path.{◌≡◌, refl, sym, ap, ap₂, subst, ◌∙◌}
use mathlib.Core.Logic.{◌≢◌}
use mathlib.Core.List.{List, [], ◌∷◌, map}
use Rattle.std.proofs.Common.{Option, Some, None, MatchOption, ℤ, Bool, false, IsTrue, ◌↔◌, ◌==◌, length, get_or, take, replicate}
use Rattle.std.specs.Option.{unwrap_or}
use Rattle.std.specs.Ordering.{ordering_index}
use Rattle.std.specs.declared.cmp.Ordering.{Ordering}
use Rattle.std.specs.declared.cmp.Ordering.TheVariants.{Less, Equal, Greater}
use Rattle.exact.specs.Int.{0ℤ}
use Rattle.exact.specs.Sign.{Sign, nought, sign, same_sign}
use Rattle.exact.specs.Det.{Column, determinant}
use Rattle.exact.specs.Crossed.{count_from, coefficient}
use Rattle.exact.proofs.SignLaws.{sign_nought}
use Rattle.exact.proofs.CountFrom.{length_map_count_from}
use Rattle.grounds.specs.Ground.{zero_determinant, vertex_against, all_with, deciding_power, ground, HoldsOf, NamesFirstOf, Holds, NamesFirst}
use Rattle.grounds.proofs.Deciding.{decides_only, decides_none, power_to_name}
use Rattle.grounds.proofs.Ground.{power_at, ground_only}
use Rattle.facets.specs.Signs.{sign_as}
use Rattle.deciding.specs.Against.{WithBefore, FirstAgainst}

-- a number whose sign is not nought
pub not_zero : (x : ℤ) → same_sign (sign x) nought ≡ false → x ≢ 0ℤ
unfolding same_sign sign
not_zero x h z = let e : same_sign (sign 0ℤ) nought ≡ false = ap (λ y. same_sign (sign y) nought) (sym z) ∙ h in cc

-- two signs as the code holds them are the same exactly if the signs are
pub signs_same : {b : Bool} {t : Sign} (a side : Ordering) → sign_as a ≡ t → b ≡ (ordering_index a == ordering_index side)
    → IsTrue b ↔ (t ≡ sign_as side)
signs_same {b} {t} a side h e =
    subst (λ s. IsTrue b ↔ (s ≡ sign_as side)) h (subst (λ x. IsTrue x ↔ (sign_as a ≡ sign_as side)) (sym e) (same a side))
  where
    same : (a side : Ordering) → IsTrue (ordering_index a == ordering_index side) ↔ (sign_as a ≡ sign_as side)
    same Less Less = unfold sign_as in (λ _. refl, λ _. refl)
    same Less Equal = unfold sign_as in (λ h. cc, λ h. cc)
    same Less Greater = unfold sign_as in (λ h. cc, λ h. cc)
    same Equal Less = unfold sign_as in (λ h. cc, λ h. cc)
    same Equal Equal = unfold sign_as in (λ _. refl, λ _. refl)
    same Equal Greater = unfold sign_as in (λ h. cc, λ h. cc)
    same Greater Less = unfold sign_as in (λ h. cc, λ h. cc)
    same Greater Equal = unfold sign_as in (λ h. cc, λ h. cc)
    same Greater Greater = unfold sign_as in (λ _. refl, λ _. refl)

-- an array of zeros is 0 everywhere, also behind its end
pub zeros : (n k : ℕ) → get_or {A = ℕ} (replicate n 0) k 0 ≡ 0
zeros zero k = refl
zeros (suc n) zero = refl
zeros (suc n) (suc k) = zeros n k

-- the first n members of a list, from number k on those of f
pub taken : (f : ℕ → ℕ) (k n : ℕ) (xs : List ℕ) → n ≤ length xs → ((i : ℕ) → i < n → get_or xs i 0 ≡ f (k + i)) → take n xs ≡ map f (count_from k n)
unfolding count_from
taken f k zero xs l h = refl
taken f k (suc n) [] l h = absurd (omega arith)
taken f k (suc n) (x ∷ xs) l h =
    let here : k + 0 ≡ k = omega arith in
    ap₂ (λ y l. y ∷ l) (h 0 (omega arith) ∙ ap f here)
    (taken f (suc k) n xs (omega arith) (λ i u. let next : k + suc i ≡ suc k + i = omega arith in h (suc i) (omega arith) ∙ ap f next))

module _ (n : ℕ) (cs : List Column) where
  -- ---- the powers of a vertex

  -- the first power whose coefficient is not 0, or none
  pub power_found : (i : ℕ) (r : Option ℕ)
      → MatchOption r ((k : ℕ) → 0 ≤ k → k < n → coefficient n cs i k ≡ 0ℤ)
      (λ j. (0 ≤ j) × (j < n) × (coefficient n cs i j ≢ 0ℤ) × ((k : ℕ) → 0 ≤ k → k < j → coefficient n cs i k ≡ 0ℤ))
      → unwrap_or r n ≡ deciding_power n cs i
  power_found i None h = sym (decides_none n cs i (λ k u. h k (omega arith) u))
  power_found i (Some j) h = sym (decides_only n cs i (record { power = h.1; lower = λ k u. h.3 k (omega arith) u; itself = h.2 }))

  -- ---- the vertices

  module _ (d : determinant n cs ≢ 0ℤ) {side : Sign} (is : sign (determinant n cs) ≡ side) where
    abbrev agree : ℕ → Type 0
    agree i = sign (coefficient n cs i (deciding_power n cs i)) ≡ side

    before : (i : ℕ) → i ≤ n → ((k : ℕ) → 0 ≤ k → k < i → agree k) → WithBefore n cs i
    before i l h = record { each = λ k u. record { decides = power_to_name n cs k d (omega arith); agrees = h k (omega arith) u ∙ sym is } }

    -- the first vertex against D, or none
    pub vertex_found : (r : Option ℕ)
        → MatchOption r ((k : ℕ) → 0 ≤ k → k < n → agree k)
        (λ i. (0 ≤ i) × (i < n) × (agree i → ⊥) × ((k : ℕ) → 0 ≤ k → k < i → agree k))
        → FirstAgainst n cs r
    vertex_found None h = before n (omega arith) h
    vertex_found (Some i) h = (
      before i (omega arith) h.3,
      record { determined = d; vertex = h.1; decides = power_to_name n cs i d h.1; differs = λ e. h.2 (e ∙ is) },
    )

  -- ---- the ground, by what it is known by

  pub zero_ground : sign (determinant n cs) ≡ nought → zero_determinant ≡ ground n cs
  unfolding Holds HoldsOf NamesFirst NamesFirstOf
  zero_ground h = sym (ground_only n cs zero_determinant (sign_nought (determinant n cs) h) tt)

  pub against_ground : {i j : ℕ} → FirstAgainst n cs (Some i) → j ≡ deciding_power n cs i → vertex_against i j ≡ ground n cs
  unfolding Holds HoldsOf NamesFirst NamesFirstOf
  against_ground {i} w e =
      ap (vertex_against i) e
      ∙ sym (ground_only n cs (vertex_against i (deciding_power n cs i)) w.1 (λ k u. (deciding_power n cs k, w.0.each k u)))

  pub with_ground : determinant n cs ≢ 0ℤ → FirstAgainst n cs None → all_with (map (deciding_power n cs) (count_from 0 n)) ≡ ground n cs
  unfolding Holds HoldsOf NamesFirst NamesFirstOf
  with_ground d w =
      sym
      (ground_only n cs (all_with (map (deciding_power n cs) (count_from 0 n)))
      (record {
        determined = d;
        count = length_map_count_from (deciding_power n cs) 0 n;
        each = λ k u. rw (power_at n cs k u) (w.each k u);
      }) tt)
