-- The list position by position, as the code goes through it: what each position adds to the answer for those before it.
use Rattle.std.specs.Prelude.{ℕ, suc, Bool, cond, List, [], ◌∷◌, Option, Some, None, min}
use Rattle.paper.specs.Operations.{Answer, unless}
use Rattle.paper.specs.Pen.{place_count}
use Rattle.nesting.specs.Standing.{Standing, some, standing}
use Rattle.nesting.specs.CutOrder.{loop_inside, first_listed, positions_refusal}

-- ---- the positions before

-- the earlier of two positions, of which there may be one or none
abbrev pub earlier_of : Option ℕ → Option ℕ → Option ℕ
earlier_of None outer = outer
earlier_of (Some i) None = Some i
earlier_of (Some i) (Some j) = Some (min i j)

-- the first position with a later one inside it, if any has, the list's first having position i
unfoldable pub first_broken : {A : Type 0} → (A → A → Bool) → ℕ → List A → Option ℕ
first_broken inner i [] = None
first_broken inner i (q ∷ later) = cond (some (λ p. inner p q) later) (Some i) (first_broken inner (suc i) later)

-- ---- all positions

unfoldable pub ordered_in : List ℕ → List ℕ → Answer Standing
ordered_in s ps = unless (positions_refusal s ps 0 (place_count s ps)) (standing (loop_inside s) (first_listed s ps (place_count s ps)))
