-- The list k, k + 1, .., k + m − 1 and the list of the values of a function at these numbers: length, elements, the first one, the last one, and one left out.
use Prim.Native.Nat.{ℕ, suc, zero, ◌+◌, ◌-◌, ◌≤◌, ◌<◌}
use native.Mathlib.Omega.{arith}
use mathlib.Core.Path.{◌≡◌, refl, sym, ap, ap₂, ◌∙◌}
use mathlib.Core.List.{[], ◌∷◌, ◌++◌, map}
use mathlib.Core.Option.{none, some}
use lib.ListN.{length, get_or, get_elem?}
use Rattle.exact.specs.Crossed.{count_from, remove}
use Rattle.exact.specs.Minors.{skip}

pub length_count_from : (k m : ℕ) → length (count_from k m) ≡ m
unfolding count_from
length_count_from k zero = refl
length_count_from k (suc m) = ap suc (length_count_from (suc k) m)

-- the first number, where the numbers end before n
pub count_from_next : (k n : ℕ) → k < n → count_from k (n - k) ≡ k ∷ count_from (k + 1) (n - (k + 1))
unfolding count_from
count_from_next k n h =
    let left : n - k ≡ suc (n - (k + 1)) = omega arith in
    let next : suc k ≡ k + 1 = omega arith in
    ap (count_from k) left ∙ ap (λ m. k ∷ count_from m (n - (k + 1))) next

pub count_from_none : (k n : ℕ) → n ≤ k → count_from k (n - k) ≡ []
unfolding count_from
count_from_none k n h = let none : n - k ≡ 0 = omega arith in ap (count_from k) none

module _ {A : Type 0} where
  pub length_map_count_from : (f : ℕ → A) (k m : ℕ) → length (map f (count_from k m)) ≡ m
  unfolding count_from
  length_map_count_from f k zero = refl
  length_map_count_from f k (suc m) = ap suc (length_map_count_from f (suc k) m)

  pub get_d_map_count_from : (f : ℕ → A) (d : A) (k m i : ℕ) → i < m → get_or (map f (count_from k m)) i d ≡ f (k + i)
  unfolding count_from
  get_d_map_count_from f d k zero i h = absurd (omega arith)
  get_d_map_count_from f d k (suc m) zero h = let same : k ≡ k + 0 = omega arith in ap f same
  get_d_map_count_from f d k (suc m) (suc i) h =
      let same : suc k + i ≡ k + suc i = omega arith in get_d_map_count_from f d (suc k) m i (omega arith) ∙ ap f same

  pub get_d_past_count_from : (f : ℕ → A) (d : A) (k m i : ℕ) → m ≤ i → get_or (map f (count_from k m)) i d ≡ d
  unfolding count_from
  get_d_past_count_from f d k zero i h = refl
  get_d_past_count_from f d k (suc m) zero h = absurd (omega arith)
  get_d_past_count_from f d k (suc m) (suc i) h = get_d_past_count_from f d (suc k) m i (omega arith)

  -- the same of the element itself
  pub get_elem_map_count_from : (f : ℕ → A) (k m i : ℕ) → i < m → get_elem? (map f (count_from k m)) i ≡ some (f (k + i))
  unfolding count_from
  get_elem_map_count_from f k zero i h = absurd (omega arith)
  get_elem_map_count_from f k (suc m) zero h = let same : k ≡ k + 0 = omega arith in ap (λ (x : ℕ). some (f x)) same
  get_elem_map_count_from f k (suc m) (suc i) h =
      let same : suc k + i ≡ k + suc i = omega arith in get_elem_map_count_from f (suc k) m i (omega arith) ∙ ap (λ (x : ℕ). some (f x)) same

  pub get_elem_past_count_from : (f : ℕ → A) (k m i : ℕ) → m ≤ i → get_elem? (map f (count_from k m)) i ≡ none
  unfolding count_from
  get_elem_past_count_from f k zero i h = refl
  get_elem_past_count_from f k (suc m) zero h = absurd (omega arith)
  get_elem_past_count_from f k (suc m) (suc i) h = get_elem_past_count_from f (suc k) m i (omega arith)

  pub map_count_from_ext :
      (f g : ℕ → A) (k m : ℕ) → ((i : ℕ) → k ≤ i → i < k + m → f i ≡ g i) → map f (count_from k m) ≡ map g (count_from k m)
  unfolding count_from
  map_count_from_ext f g k zero h = refl
  map_count_from_ext f g k (suc m) h =
      ap₂ (λ x l. x ∷ l) (h k (omega arith) (omega arith)) (map_count_from_ext f g (suc k) m (λ i low high. h i (omega arith) (omega arith)))

  pub map_count_from_suc : (f : ℕ → A) (k m : ℕ) → map f (count_from (suc k) m) ≡ map (λ i. f (suc i)) (count_from k m)
  unfolding count_from
  map_count_from_suc f k zero = refl
  map_count_from_suc f k (suc m) = ap (λ l. f (suc k) ∷ l) (map_count_from_suc f (suc k) m)

  -- the last value
  pub map_count_from_last : (f : ℕ → A) (k m : ℕ) → map f (count_from k (suc m)) ≡ map f (count_from k m) ++ (f (k + m) ∷ [])
  unfolding count_from
  map_count_from_last f k zero = let e : k ≡ k + 0 = omega arith in ap (λ j. f j ∷ []) e
  map_count_from_last f k (suc m) =
      let e : suc k + m ≡ k + suc m = omega arith in
      ap (λ l. f k ∷ l) (map_count_from_last f (suc k) m ∙ ap (λ j. map f (count_from (suc k) m) ++ (f j ∷ [])) e)

  -- without the value at p
  pub remove_map_count_from :
      (f : ℕ → A) (p m : ℕ) → p ≤ m → remove p (map f (count_from 0 (suc m))) ≡ map (λ i. f (skip p i)) (count_from 0 m)
  unfolding count_from remove skip
  remove_map_count_from f zero m h = map_count_from_suc f 0 m
  remove_map_count_from f (suc p) zero h = absurd (omega arith)
  remove_map_count_from f (suc p) (suc m) h =
      ap (λ l. f 0 ∷ l)
      (ap (remove p) (map_count_from_suc f 0 (suc m))
      ∙ remove_map_count_from (λ i. f (suc i)) p m (omega arith)
      ∙ sym (map_count_from_suc (λ i. f (skip (suc p) i)) 0 m))
