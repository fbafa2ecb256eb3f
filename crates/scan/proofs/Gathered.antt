-- Lists that are met one after another, put together; and that the seams of a box are what is met at each vertex, and there at each chain.
use Prim.Native.Nat.{ℕ, zero, suc, ◌+◌, ◌<◌}
use native.Mathlib.Omega.{arith}
use mathlib.Core.Path.{◌≡◌, refl, sym, ap, ap₂, ◌∙◌}
use mathlib.Core.Bool.{Bool, true, false, cond}
use mathlib.Core.List.{List, [], ◌∷◌, ◌++◌, map, append-nil, append_assoc}
use lib.Dec.{eqb}
use borrow.Author.Tests.{eqb-true, eqb-false}
use Rattle.exact.specs.Crossed.{count_from}
use Rattle.exact.proofs.CountFrom.{map_count_from_last}
use Rattle.curves.specs.Box.{keep, pairs}

module _ {A : Type 0} where
  -- F 0, then F 1, .. up to F (m − 1)
  unfoldable pub gathered : (ℕ → List A) → ℕ → List A
  gathered F zero = []
  gathered F (suc m) = gathered F m ++ F m

  -- what is met before j, at j, and behind it
  pub gathered_split : (F : ℕ → List A) (j m : ℕ) → j < m → (l : List A) × (gathered F m ≡ gathered F j ++ (F j ++ l))
  unfolding gathered
  gathered_split F j zero h = absurd (omega arith)
  gathered_split F j (suc m) h = go (eqb j m) refl (gathered_split F j m)
    where
      go : (b : Bool) → eqb j m ≡ b → (j < m → (l : List A) × (gathered F m ≡ gathered F j ++ (F j ++ l)))
          → (l : List A) × (gathered F m ++ F m ≡ gathered F j ++ (F j ++ l))
      go true e ih = ([], ap (λ k. gathered F k ++ F k) (sym (eqb-true j m e)) ∙ ap (λ l. gathered F j ++ l) (sym (append-nil (F j))))
      go false e ih =
          let r = ih (omega (arith, eqb-false j m e)) in (
            r.0 ++ F m,
            ap (λ l. l ++ F m) r.1
                ∙ append_assoc (gathered F j) (F j ++ r.0) (F m)
                ∙ ap (λ l. gathered F j ++ l) (append_assoc (F j) r.0 (F m)),
          )

  -- nothing is met anywhere
  pub gathered_none : (F : ℕ → List A) (m : ℕ) → ((j : ℕ) → j < m → F j ≡ []) → gathered F m ≡ []
  unfolding gathered
  gathered_none F zero h = refl
  gathered_none F (suc m) h = ap₂ (λ x y. x ++ y) (gathered_none F m (λ j l. h j (omega arith))) (h m (omega arith))

-- ---- lists that are gathered

keep_append : {A : Type 0} (t : A → Bool) (xs ys : List A) → keep t (xs ++ ys) ≡ keep t xs ++ keep t ys
unfolding keep
keep_append t [] ys = refl
keep_append t (x ∷ xs) ys = go (t x) (keep_append t xs ys)
  where
    go : (b : Bool) → keep t (xs ++ ys) ≡ keep t xs ++ keep t ys
        → cond b (x ∷ keep t (xs ++ ys)) (keep t (xs ++ ys)) ≡ cond b (x ∷ keep t xs) (keep t xs) ++ keep t ys
    go true e = ap (λ l. x ∷ l) e
    go false e = e

pairs_append : {A B C : Type 0} (f : A → B → C) (xs ys : List A) (bs : List B) → pairs f (xs ++ ys) bs ≡ pairs f xs bs ++ pairs f ys bs
unfolding pairs
pairs_append f [] ys bs = refl
pairs_append f (x ∷ xs) ys bs = ap (λ l. map (f x) bs ++ l) (pairs_append f xs ys bs) ∙ sym (append_assoc (map (f x) bs) (pairs f xs bs) (pairs f ys bs))

-- the last of the numbers under m + 1
counted_last : {A : Type 0} (g : ℕ → A) (m : ℕ) → map g (count_from 0 (suc m)) ≡ map g (count_from 0 m) ++ (g m ∷ [])
counted_last g m = let e : 0 + m ≡ m = omega arith in map_count_from_last g 0 m ∙ ap (λ j. map g (count_from 0 m) ++ (g j ∷ [])) e

-- the members g 0, g 1, .. that pass a test
pub keep_gathered : {A : Type 0} (t : A → Bool) (g : ℕ → A) (m : ℕ) → keep t (map g (count_from 0 m)) ≡ gathered (λ j. keep t (g j ∷ [])) m
unfolding gathered keep count_from
keep_gathered t g zero = refl
keep_gathered t g (suc m) =
    ap (keep t) (counted_last g m) ∙ keep_append t (map g (count_from 0 m)) (g m ∷ []) ∙ ap (λ l. l ++ keep t (g m ∷ [])) (keep_gathered t g m)

-- the pairs of g 0, g 1, .. with the members of a list, those that pass a test
pub pairs_gathered : {A B C : Type 0} (t : C → Bool) (f : A → B → C) (g : ℕ → A) (bs : List B) (m : ℕ)
    → keep t (pairs f (map g (count_from 0 m)) bs) ≡ gathered (λ i. keep t (map (f (g i)) bs)) m
unfolding gathered keep pairs count_from
pairs_gathered t f g bs zero = refl
pairs_gathered t f g bs (suc m) =
    ap (λ l. keep t (pairs f l bs)) (counted_last g m)
    ∙ ap (keep t) (pairs_append f (map g (count_from 0 m)) (g m ∷ []) bs ∙ ap (λ l. pairs f (map g (count_from 0 m)) bs ++ l) (append-nil (map (f (g m)) bs)))
    ∙ keep_append t (pairs f (map g (count_from 0 m)) bs) (map (f (g m)) bs)
    ∙ ap (λ l. l ++ keep t (map (f (g m)) bs)) (pairs_gathered t f g bs m)
