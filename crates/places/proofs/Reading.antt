-- Numbers put into an array one after another, and the numbers in a part of a list.
use Rattle.std.proofs.Common.{ℕ, suc, zero, ◌+◌, ◌<◌, ◌≤◌, ◌≡◌, refl, sym, ap, ap₂, ◌∙◌, arith, List, [], ◌∷◌, ◌++◌, map, length, get_or, set, take, drop, replicate, add-one, drop-cons}
use Rattle.std.proofs.lemmas.List.{take_more_set}
use Rattle.exact.specs.Crossed.{count_from}
use Rattle.exact.proofs.CountFrom.{map_count_from_last}

-- one number more
pub reads_on : {A : Type 0} (f : ℕ → A) (l : List A) (k i : ℕ) (x : A) → i < length l → x ≡ f (k + i) → take i l ≡ map f (count_from k i)
    → take (i + 1) (set l i x) ≡ map f (count_from k (i + 1))
reads_on f l k i x h e r =
    take_more_set l i x h
    ∙ ap₂ (λ s y. s ++ (y ∷ [])) r e
    ∙ sym (map_count_from_last f k i)
    ∙ ap (λ m. map f (count_from k m)) (sym (add-one i))

-- what holds of each number of an array, and of one that is put into it; d stands for those past its end
pub each_set : {A : Type 0} (P : A → Type 0) (l : List A) (i : ℕ) (x d : A) → ((k : ℕ) → P (get_or l k d)) → P x
    → (k : ℕ) → P (get_or (set l i x) k d)
each_set P [] i x d h p k = h k
each_set P (y ∷ l) zero x d h p zero = p
each_set P (y ∷ l) zero x d h p (suc k) = h (suc k)
each_set P (y ∷ l) (suc i) x d h p zero = h zero
each_set P (y ∷ l) (suc i) x d h p (suc k) = each_set P l i x d (λ j. h (suc j)) p k

-- the numbers from k on as a part of the list
pub counted_part : {A : Type 0} (l : List A) (d : A) (k m : ℕ) → k + m ≤ length l → map (λ i. get_or l i d) (count_from k m) ≡ take m (drop k l)
unfolding count_from
counted_part l d k zero h = refl
counted_part l d k (suc m) h = rw (drop-cons l k d (omega arith)) (ap (λ t. get_or l k d ∷ t) (counted_part l d (suc k) m (omega arith)))

-- an array of the number that stands for those past its end
pub each_none : {A : Type 0} (P : A → Type 0) (m : ℕ) (d : A) → P d → (k : ℕ) → P (get_or (replicate m d) k d)
each_none P zero d p k = p
each_none P (suc m) d p zero = p
each_none P (suc m) d p (suc k) = each_none P m d p k
