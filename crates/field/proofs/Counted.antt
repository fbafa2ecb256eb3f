-- Lists of the values of a function at 0, 1, .., m − 1: a test of every member, and equality, go by the index.
use mathlib.Core.Path.{◌≡◌, refl, sym, ap, ◌∙◌}
use mathlib.Core.Bool.{Bool, true, false, ◌&&◌}
use mathlib.Core.List.{List, [], ◌∷◌, map}
use Prim.Native.Nat.{ℕ, suc, zero, ◌+◌, ◌≤◌, ◌<◌}
use native.Mathlib.Omega.{arith}
use lib.Dec.{eqb}
use borrow.Author.Tests.{eqb-true, eqb-false}
use Rattle.exact.specs.Crossed.{count_from, remove}
use Rattle.exact.proofs.AndTests.{and-false}
use Rattle.exact.proofs.CountFrom.{map_count_from_ext}
use Rattle.curves.specs.Step.{every}

module _ {A : Type 0} (t : A → Bool) (f : ℕ → A) where
  fails_from : (k m i : ℕ) → k ≤ i → i < k + m → t (f i) ≡ false → every t (map f (count_from k m)) ≡ false
  unfolding every count_from
  fails_from k zero i l u h = absurd (omega arith)
  fails_from k (suc m) i l u h = go (fails_from (suc k) m i) (eqb k i) refl
    where
      go : (suc k ≤ i → i < suc k + m → t (f i) ≡ false → every t (map f (count_from (suc k) m)) ≡ false) → (b : Bool) → eqb k i ≡ b
          → (t (f k) && every t (map f (count_from (suc k) m))) ≡ false
      go later true e = rw (eqb-true k i e, h)
      go later false e =
          and-false (t (f k)) (later (omega (arith, eqb-false k i e)) (omega arith) h)

  pub every_fails : (m i : ℕ) → i < m → t (f i) ≡ false → every t (map f (count_from 0 m)) ≡ false
  every_fails m i l h = fails_from 0 m i (omega arith) (omega arith) h

  pub every_at : (m i : ℕ) → every t (map f (count_from 0 m)) ≡ true → i < m → t (f i) ≡ true
  every_at m i h l = go (t (f i)) refl
    where
      go : (b : Bool) → t (f i) ≡ b → b ≡ true
      go true e = refl
      go false e = sym (every_fails m i l e) ∙ h

pub same_each : {A : Type 0} (f g : ℕ → A) (m : ℕ) → ((i : ℕ) → i < m → f i ≡ g i) → map f (count_from 0 m) ≡ map g (count_from 0 m)
same_each f g m h = map_count_from_ext f g 0 m (λ i l u. h i (omega arith))

-- two maps, one after the other
pub map_map : {A B : Type 0} (g : A → B) (f : ℕ → A) (ks : List ℕ) → map g (map f ks) ≡ map (λ k. g (f k)) ks
map_map g f [] = refl
map_map g f (k ∷ ks) = ap (λ l. g (f k) ∷ l) (map_map g f ks)

module _ {A : Type 0} (f : ℕ → A) where
  -- without the last
  pub remove_last : (k m : ℕ) → remove m (map f (count_from k (suc m))) ≡ map f (count_from k m)
  unfolding count_from remove
  remove_last k zero = refl
  remove_last k (suc m) = ap (λ l. f k ∷ l) (remove_last (suc k) m)
