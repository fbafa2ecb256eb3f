-- Finite lists of all there is of a kind: what stands in the numbers from k on, in the pairs of two lists, in the lists of k numbers under a
-- bound and among the members that pass a test, and nothing else does.
use Prim.Native.Nat.{ℕ, suc, zero, ◌+◌, ◌<◌, ◌≤◌}
use mathlib.Core.Path.{◌≡◌, refl, sym, ap, ◌∙◌}
use mathlib.Core.Bool.{Bool, true, false, cond, false≢true}
use mathlib.Core.List.Memᴰ
use mathlib.Core.List.{List, [], ◌∷◌, map}
use mathlib.Core.Logic.{⊎_elim}
use native.Mathlib.Omega.{arith}
use lib.ListN.{length}
use lib.Dec.{eqb}
use borrow.Author.Tests.{eqb-true, eqb-false}
use Rattle.exact.specs.Crossed.{count_from}
use Rattle.curves.specs.Grid.{under}
use Rattle.curves.specs.Box.{keep, pairs, lists_under}
use Rattle.curves.specs.Curve.{◌∈◌, NoDup, none, more}
use Rattle.curves.proofs.OrderTests.{under_head, under_tail}

-- ---- the numbers from k on

pub count_from_listed : (k m a : ℕ) → k ≤ a → a < k + m → a ∈ count_from k m
unfolding count_from
count_from_listed k zero a h b = absurd (omega arith)
count_from_listed k (suc m) a h b = go (eqb a k) refl (count_from_listed (suc k) m a)
  where
    go : (t : Bool) → eqb a k ≡ t → (suc k ≤ a → a < suc k + m → a ∈ count_from (suc k) m) → a ∈ (k ∷ count_from (suc k) m)
    go true e rest = Memᴰ.head (eqb-true a k e)
    go false e rest = Memᴰ.tail (rest (omega (arith, eqb-false a k e)) (omega arith))

pub count_from_from : (k m : ℕ) {a : ℕ} → a ∈ count_from k m → k ≤ a
unfolding count_from
count_from_from k zero m = absurd (Memᴰ.not-nil m)
count_from_from k (suc m) i = ⊎_elim (λ e. omega (arith, e)) (λ j. omega (arith, count_from_from (suc k) m j)) (Memᴰ.cases_cons i)

pub count_from_under : (k m : ℕ) {a : ℕ} → a ∈ count_from k m → a < k + m
unfolding count_from
count_from_under k zero m = absurd (Memᴰ.not-nil m)
count_from_under k (suc m) i = ⊎_elim (λ e. omega (arith, e)) (λ j. omega (arith, count_from_under (suc k) m j)) (Memᴰ.cases_cons i)

-- ---- pairs

pub pairs_listed : {A B C : Type 0} (f : A → B → C) (xs : List A) (bs : List B) (a : A) (b : B) → a ∈ xs → b ∈ bs → f a b ∈ pairs f xs bs
unfolding pairs
pairs_listed f [] bs a b m k = absurd (Memᴰ.not-nil m)
pairs_listed f (x ∷ xs) bs a b m k =
    ⊎_elim
    (λ e. Memᴰ.append_left (pairs f xs bs) (Memᴰ.cast (ap (λ z. f z b) e) (Memᴰ.map (f x) k)))
    (λ r. Memᴰ.append_right (map (f x) bs) (pairs_listed f xs bs a b r k))
    (Memᴰ.cases_cons m)

-- what stands among the pairs joins an element of each list
pub record Joins {A B C : Type 0} (f : A → B → C) (xs : List A) (bs : List B) (c : C) : Type 0 where
  pub one : A
  pub other : B
  pub of_first : one ∈ xs
  pub of_second : other ∈ bs
  pub is : f one other ≡ c

pub pairs_member : {A B C : Type 0} (f : A → B → C) (xs : List A) (bs : List B) {c : C} → c ∈ pairs f xs bs → Joins f xs bs c
unfolding pairs
pairs_member f [] bs m = absurd (Memᴰ.not-nil m)
pairs_member f (x ∷ xs) bs {c} m = ⊎_elim here (λ j. later (pairs_member f xs bs j)) (Memᴰ.append_cases (map (f x) bs) m)
  where
    here : c ∈ map (f x) bs → Joins f (x ∷ xs) bs c
    here i =
        let w = Memᴰ.of_map (f x) bs i in
        record { one = x; other = w.0; of_first = Memᴰ.head refl; of_second = w.1; is = w.2 }

    later : Joins f xs bs c → Joins f (x ∷ xs) bs c
    later j = record { one = j.one; other = j.other; of_first = Memᴰ.tail j.of_first; of_second = j.of_second; is = j.is }

-- ---- lists of numbers under n

pub lists_under_listed : (n k : ℕ) (l : List ℕ) → length l ≡ k → under n l ≡ true → l ∈ lists_under n k
unfolding lists_under under
lists_under_listed n zero [] e u = Memᴰ.head refl
lists_under_listed n zero (a ∷ l) e u = absurd (omega arith)
lists_under_listed n (suc k) [] e u = absurd (omega arith)
lists_under_listed n (suc k) (a ∷ l) e u =
    pairs_listed (λ a l. a ∷ l) (count_from 0 n) (lists_under n k) a l
    (count_from_listed 0 n a (omega arith) (omega (arith, under_head n a l u)))
    (lists_under_listed n k l (omega arith) (under_tail n a l u))

pub lists_under_length : (n k : ℕ) {l : List ℕ} → l ∈ lists_under n k → length l ≡ k
unfolding lists_under
lists_under_length n zero m = ap length (Memᴰ.eq_of_singleton m)
lists_under_length n (suc k) m =
    let j = pairs_member (λ a l. a ∷ l) (count_from 0 n) (lists_under n k) m in
    omega (arith, ap length j.is, lists_under_length n k j.of_second)

-- ---- the members that pass a test

module _ {A : Type 0} (t : A → Bool) where
  -- such a member stands in the list and passes
  pub keep_member : (l : List A) {y : A} → y ∈ keep t l → (y ∈ l) × (t y ≡ true)
  unfolding keep
  keep_member [] m = absurd (Memᴰ.not-nil m)
  keep_member (x ∷ l) {y} m = go (t x) refl m (keep_member l)
    where
      go :
          (b : Bool) → t x ≡ b → y ∈ cond b (x ∷ keep t l) (keep t l) → (y ∈ keep t l → (y ∈ l) × (t y ≡ true))
          → (y ∈ (x ∷ l)) × (t y ≡ true)
      go true e k rest =
          ⊎_elim (λ q. (Memᴰ.head q, ap t q ∙ e)) (λ r. (Memᴰ.tail (rest r).0, (rest r).1)) (Memᴰ.cases_cons k)
      go false e k rest = (Memᴰ.tail (rest k).0, (rest k).1)

  pub keep_listed : (l : List A) {y : A} → y ∈ l → t y ≡ true → y ∈ keep t l
  unfolding keep
  keep_listed [] m e = absurd (Memᴰ.not-nil m)
  keep_listed (x ∷ l) {y} m e = go (t x) refl (keep_listed l)
    where
      go : (b : Bool) → t x ≡ b → (y ∈ l → t y ≡ true → y ∈ keep t l) → y ∈ cond b (x ∷ keep t l) (keep t l)
      go true q rest = ⊎_elim (λ i. Memᴰ.head i) (λ k. Memᴰ.tail (rest k e)) (Memᴰ.cases_cons m)
      go false q rest = ⊎_elim (λ i. absurd (false≢true (sym q ∙ ap t (sym i) ∙ e))) (λ k. rest k e) (Memᴰ.cases_cons m)

  pub keep_differ : {l : List A} → NoDup l → NoDup (keep t l)
  unfolding keep
  keep_differ none = none
  keep_differ (more {x = x} {l = l} out rest) = go (t x) (keep_differ rest)
    where
      go : (b : Bool) → NoDup (keep t l) → NoDup (cond b (x ∷ keep t l) (keep t l))
      go true d = more (λ m. out (keep_member l m).0) d
      go false d = d
