-- The first position with a later one inside it, when one more is added at the end; and the answer from it.
use Rattle.std.proofs.Common.{◌≡◌, ℕ, suc, ◌≤◌, min, Bool, true, false, cond, ◌||◌, List, [], ◌∷◌, ◌++◌, Option, Some, None, refl, sym, ap, ◌∙◌, arith}
use Rattle.nesting.specs.Standing.{broken_at, some, standing_from, standing}
use Rattle.nesting.specs.Answers.{standing_of}
use Rattle.positions.specs.Positions.{first_from}
use Rattle.cutorder.specs.Ordering.{earlier_of, first_broken}

-- ---- the earlier of two

-- a position, if there is one, is not before i
abbrev pub From : ℕ → Option ℕ → Type 0
From i None = Unit {0}
From i (Some j) = i ≤ j

earlier_left : (i : ℕ) (o : Option ℕ) → From i o → earlier_of (Some i) o ≡ Some i
earlier_left i None h = refl
earlier_left i (Some j) h = let e : min i j ≡ i = omega arith in ap (λ m. Some m) e

earlier_right : (i : ℕ) (o : Option ℕ) → From i o → earlier_of o (Some i) ≡ Some i
earlier_right i None h = refl
earlier_right i (Some j) h = let e : min j i ≡ i = omega arith in ap (λ m. Some m) e

from_later : (i : ℕ) (o : Option ℕ) → From (suc i) o → From i o
from_later i None h = tt
from_later i (Some j) h = omega arith

-- ---- one more at the end

first_above : {A : Type 0} (t : A → Bool) (i : ℕ) (l : List A) → From i (first_from t i l)
unfolding first_from
first_above t i [] = tt
first_above t i (x ∷ l) = go (t x) (first_above t (suc i) l)
  where
    go : (b : Bool) → From (suc i) (first_from t (suc i) l) → From i (cond b (Some i) (first_from t (suc i) l))
    go true h = omega arith
    go false h = from_later i (first_from t (suc i) l) h

some_last : {A : Type 0} (t : A → Bool) (l : List A) (p : A) → some t (l ++ (p ∷ [])) ≡ (some t l || t p)
unfolding some
some_last t [] p = go (t p)
  where
    go : (b : Bool) → (b || false) ≡ b
    go true = refl
    go false = refl
some_last t (x ∷ l) p = go (t x) (some_last t l p)
  where
    go : (b : Bool) → some t (l ++ (p ∷ [])) ≡ (some t l || t p) → (b || some t (l ++ (p ∷ []))) ≡ ((b || some t l) || t p)
    go true h = refl
    go false h = h

module _ {A : Type 0} (inner : A → A → Bool) where
  broken_above : (i : ℕ) (l : List A) → From i (first_broken inner i l)
  unfolding first_broken
  broken_above i [] = tt
  broken_above i (q ∷ l) = go (some (λ p. inner p q) l) (broken_above (suc i) l)
    where
      go : (b : Bool) → From (suc i) (first_broken inner (suc i) l) → From i (cond b (Some i) (first_broken inner (suc i) l))
      go true k = omega arith
      go false k = from_later i (first_broken inner (suc i) l) k

  pub broken_last : (i : ℕ) (l : List A) (p : A) → first_broken inner i (l ++ (p ∷ [])) ≡ earlier_of (first_broken inner i l) (first_from (inner p) i l)
  unfolding first_broken first_from some
  broken_last i [] p = refl
  broken_last i (q ∷ l) p =
      ap (λ b. cond b (Some i) (first_broken inner (suc i) (l ++ (p ∷ [])))) (some_last (λ x. inner x q) l p)
      ∙ go (some (λ x. inner x q) l) (inner p q) (broken_last (suc i) l p)
    where
      later : Option ℕ
      later = first_broken inner (suc i) l

      outer : Option ℕ
      outer = first_from (inner p) (suc i) l

      go : (b c : Bool) → first_broken inner (suc i) (l ++ (p ∷ [])) ≡ earlier_of later outer
          → cond (b || c) (Some i) (first_broken inner (suc i) (l ++ (p ∷ []))) ≡ earlier_of (cond b (Some i) later) (cond c (Some i) outer)
      go true true e = sym (earlier_left i (Some i) (omega arith))
      go true false e = sym (earlier_left i outer (from_later i outer (first_above (inner p) (suc i) l)))
      go false true e = sym (earlier_right i later (from_later i later (broken_above (suc i) l)))
      go false false e = e

  -- the order stands exactly if there is none
  standing_from_lem : (i : ℕ) (l : List A) → standing_of (first_broken inner i l) ≡ standing_from inner i l
  unfolding standing_of standing_from first_broken
  standing_from_lem i [] = refl
  standing_from_lem i (q ∷ l) = go (some (λ p. inner p q) l) (standing_from_lem (suc i) l)
    where
      go : (b : Bool) → standing_of (first_broken inner (suc i) l) ≡ standing_from inner (suc i) l
          → standing_of (cond b (Some i) (first_broken inner (suc i) l)) ≡ cond b (broken_at i) (standing_from inner (suc i) l)
      go true e = refl
      go false e = e

  pub standing_is : (l : List A) → standing_of (first_broken inner 0 l) ≡ standing inner l
  unfolding standing
  standing_is l = standing_from_lem 0 l
