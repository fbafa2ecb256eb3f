-- Lists by their positions: the values of a function at the m numbers from k on. When each is apart from the later ones, and what the answer about an
-- order says of them.
use Prim.Native.Nat.{ℕ, zero, suc, ◌+◌, ◌≤◌, ◌<◌}
use native.Mathlib.Omega.{arith}
use mathlib.Core.Path.{◌≡◌, refl, sym, ap, ◌∙◌, subst}
use mathlib.Core.Bool.{Bool, true, false, cond}
use mathlib.Core.List.Memᴰ
use mathlib.Core.List.{map}
use lib.Dec.{eqb}
use borrow.Author.Tests.{eqb-true, eqb-false}
use Rattle.exact.specs.Crossed.{count_from}
use Rattle.curves.proofs.Listed.{count_from_listed, count_from_from, count_from_under}
use Rattle.nesting.specs.Standing.{broken_at, some, standing_from, standing}
use Rattle.nesting.specs.Loops.{Apart}
use Rattle.nesting.specs.Loops.Apart.{none, more}
use Rattle.nesting.specs.OrderDemand.{BrokenNumber}
use Rattle.nesting.proofs.Standing.{some_member, none_member}

-- ---- apart

module _ {A : Type 0} {Different : A → A → Type 0} (f : ℕ → A) where
  -- the values of a function at the m numbers from k on are apart exactly if each is different from the later ones
  pub apart_at : (k m : ℕ) → Apart Different (map f (count_from k m)) → (i j : ℕ) → k ≤ i → i < j → j < k + m → Different (f i) (f j)
  unfolding count_from
  apart_at k zero a i j l h u = absurd (omega arith)
  apart_at k (suc m) (more d a) i j l h u = go (eqb k i) refl (apart_at (suc k) m a i j)
    where
      go : (b : Bool) → eqb k i ≡ b → (suc k ≤ i → i < j → j < suc k + m → Different (f i) (f j)) → Different (f i) (f j)
      go true e rest =
          let same : k ≡ i = eqb-true k i e in
          subst (λ x. Different (f x) (f j)) same (d (f j) (Memᴰ.map f (count_from_listed (suc k) m j (omega arith) (omega arith))))
      go false e rest = rest (omega (arith, eqb-false k i e)) h (omega arith)

  -- and the other way round
  pub at_apart : (k m : ℕ) → ((i j : ℕ) → k ≤ i → i < j → j < k + m → Different (f i) (f j)) → Apart Different (map f (count_from k m))
  unfolding count_from
  at_apart k zero h = none
  at_apart k (suc m) h =
      more {x = f k} {l = map f (count_from (suc k) m)}
      (λ y i.
      let w = Memᴰ.of_map f (count_from (suc k) m) i in
      let low : suc k ≤ w.0 = count_from_from (suc k) m w.1 in
      let high : w.0 < suc k + m = count_from_under (suc k) m w.1 in
      subst (Different (f k)) w.2 (h k w.0 (omega arith) (omega arith) (omega arith)))
      (at_apart (suc k) m (λ i j l u v. h i j (omega arith) u (omega arith)))

-- ---- the answer

module _ {A : Type 0} (inner : A → A → Bool) (f : ℕ → A) where
  -- a value behind k is inside that at k
  abbrev inside_later : ℕ → ℕ → Bool
  inside_later k m = some (λ p. inner p (f k)) (map f (count_from (suc k) m))

  -- the first number is it
  number_here : (k m at : ℕ) → inside_later k m ≡ true → k ≡ at → BrokenNumber inner f k (suc m) at
  number_here k m at h same =
      let w = some_member (λ p. inner p (f k)) (map f (count_from (suc k) m)) h in
      let v = Memᴰ.of_map f (count_from (suc k) m) w.1 in
      let low : suc k ≤ v.0 = count_from_from (suc k) m v.1 in
      let high : v.0 < suc k + m = count_from_under (suc k) m v.1 in
      record {
        from = omega (arith, same);
        later = v.0;
        after = omega (arith, same);
        under = omega arith;
        inside = ap (inner (f v.0)) (ap f (sym same)) ∙ ap (λ p. inner p (f k)) v.2 ∙ w.2;
        earlier = λ i j l u x y. absurd (omega (arith, same));
      }

  -- a later one is it
  number_further : (k m at : ℕ) → inside_later k m ≡ false → BrokenNumber inner f (suc k) m at → BrokenNumber inner f k (suc m) at
  number_further k m at h w =
      record {
        from = omega (arith, w.from);
        later = w.later;
        after = w.after;
        under = omega (arith, w.under);
        inside = w.inside;
        earlier = λ i j l u x y. first i j (eqb k i) refl l u x y;
      }
    where
      first : (i j : ℕ) (b : Bool) → eqb k i ≡ b → k ≤ i → i < at → i < j → j < k + suc m → inner (f j) (f i) ≡ false
      first i j true q l u x y =
          let same : k ≡ i = eqb-true k i q in
          ap (λ a. inner (f j) (f a)) (sym same)
          ∙ none_member (λ p. inner p (f k)) (map f (count_from (suc k) m)) h (f j)
          (Memᴰ.map f (count_from_listed (suc k) m j (omega arith) (omega arith)))
      first i j false q l u x y = w.earlier i j (omega (arith, eqb-false k i q)) u x (omega arith)

  -- of the m numbers from k on, where the first has position k
  number_from : (k m at : ℕ) → standing_from inner k (map f (count_from k m)) ≡ broken_at at → BrokenNumber inner f k m at
  unfolding standing_from count_from
  number_from k zero at e = absurd (let z : ◌≡◌ {A = ℕ} 0 1 = cc in let bad : ⊥ = omega arith in bad)
  number_from k (suc m) at e = go (inside_later k m) refl e (number_from (suc k) m at)
    where
      go : (b : Bool) → inside_later k m ≡ b → cond b (broken_at k) (standing_from inner (suc k) (map f (count_from (suc k) m))) ≡ broken_at at
          → (standing_from inner (suc k) (map f (count_from (suc k) m)) ≡ broken_at at → BrokenNumber inner f (suc k) m at) → BrokenNumber inner f k (suc m) at
      go true h c rest = number_here k m at h cc
      go false h c rest = number_further k m at h (rest c)

  -- the answer about the values at the first m numbers
  pub broken_number : (m at : ℕ) → standing inner (map f (count_from 0 m)) ≡ broken_at at → BrokenNumber inner f 0 m at
  unfolding standing
  broken_number m at e = number_from 0 m at e
