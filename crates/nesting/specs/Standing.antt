-- Whether an order stands, over any things and any test that says of two of them that the first is inside the second: document 02, request 2.14.
use Rattle.std.specs.Prelude.{ℕ, suc, Bool, false, cond, ◌||◌, List, [], ◌∷◌}

-- it stands, or the first position whose loop has a later listed loop inside it
pub data Standing : Type 0 where
  stands : Standing
  broken_at : ℕ → Standing

-- a test holds for a member of a list
unfoldable pub some : {A : Type 0} → (A → Bool) → List A → Bool
some t [] = false
some t (x ∷ l) = t x || some t l

-- each comes after all that are inside it; the first of the list has position k
unfoldable pub standing_from : {A : Type 0} → (A → A → Bool) → ℕ → List A → Standing
standing_from inner k [] = stands
standing_from inner k (q ∷ later) = cond (some (λ p. inner p q) later) (broken_at k) (standing_from inner (suc k) later)

-- positions are counted from 0
unfoldable pub standing : {A : Type 0} → (A → A → Bool) → List A → Standing
standing inner l = standing_from inner 0 l
