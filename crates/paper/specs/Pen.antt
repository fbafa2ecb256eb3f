-- Pen: document 01, the last of the operations. A move carries a point in millimetres as three 64-bit floats.
use Rattle.std.specs.Prelude.{ℕ, suc, ◌*◌, ◌-◌, ◌/◌, ◌%◌, Bool, true, false, not, cond, ◌&&◌, List, [], ◌∷◌, map, ℤ, pos, negsuc, length, take, drop, ltb, eqb, Float, Result}
use Rattle.std.specs.Float.Ieee.{odd}
use Rattle.exact.specs.Int.{0ℤ}
use Rattle.paper.specs.declared.Millimetres as Millimetres
use Rattle.paper.specs.declared.PenMove as PenMove
use Rattle.paper.specs.declared.Refusal as Refusal
use Rattle.paper.specs.Job.{dimension, refuse_if, open_refusal}
use Rattle.paper.specs.Operations.{Answer, unless, first_refusal, point_refusal, facet_of}
use Rattle.paper.specs.Values.{field_of, point_of}
use Rattle.paper.specs.Answers.{padded}
use Rattle.paper.specs.Refusals.{answer_by}

-- a number of steps divided by 1024, exactly: the float of that number, its sign and its size over 2 ^ 10. 0 is + 0
unfoldable pub millimetre : ℤ → Float
millimetre (pos a) = odd 54 false a 0 10
millimetre (negsuc a) = odd 54 true (suc a) 0 10

-- the moves of the pen, with the point's three coordinates
pub data Move : Type 0 where
  lift draw : List Float → Move
  close : Move

-- place k of a list of places
unfoldable pub place_bytes : List ℕ → List ℕ → ℕ → List ℕ
place_bytes s ps k = take (3 * dimension s) (drop (3 * dimension s * k) ps)

-- the count of places
unfoldable pub place_count : List ℕ → List ℕ → ℕ
place_count s ps = length ps / (3 * dimension s)

-- k = m with m above 0 and the mark set closes
unfoldable pub closes : List ℕ → List ℕ → Bool → ℕ → Bool
closes s ps mark k = eqb k (place_count s ps) && (ltb 0 (place_count s ps) && mark)

-- 13 if the length is no multiple of 3n; a close looks at no place; 12 past the last; then 13, 9, 10, 11 for place k
unfoldable pub pen_refusal : List ℕ → List ℕ → Bool → ℕ → ℕ
pen_refusal s ps mark k =
    first_refusal (open_refusal s)
    (refuse_if (not (eqb (length ps % (3 * dimension s)) 0)) 13
    (cond (closes s ps mark k) 0
    (refuse_if (not (ltb k (place_count s ps))) 12 (point_refusal s (place_bytes s ps k)))))

-- the point in millimetres, on axes 1 to 3; the third coordinate is 0 for n = 2
unfoldable pub point_millimetres : List ℕ → List ℕ → List Float
point_millimetres s p = map millimetre (padded 0ℤ 3 (point_of (dimension s) (field_of s) (facet_of s p)))

-- k = 0 lifts to a point, 0 < k < m draws to a point
unfoldable pub pen_move : List ℕ → List ℕ → Bool → ℕ → Move
pen_move s ps mark k =
    cond (closes s ps mark k) close
    (cond (eqb k 0) (lift (point_millimetres s (place_bytes s ps k))) (draw (point_millimetres s (place_bytes s ps k))))

unfoldable pub penned : List ℕ → List ℕ → Bool → ℕ → Answer Move
penned s ps mark k = unless (pen_refusal s ps mark k) (pen_move s ps mark k)

-- the code's answers as these
unfoldable pub millimetres_as : Millimetres.Millimetres → List Float
millimetres_as p = p.x ∷ p.y ∷ p.z ∷ []

unfoldable pub move_as : PenMove.PenMove → Move
move_as (PenMove.TheVariants.Lift p) = lift (millimetres_as p)
move_as (PenMove.TheVariants.Draw p) = draw (millimetres_as p)
move_as PenMove.TheVariants.Close = close

unfoldable pub penned_as : Result PenMove.PenMove Refusal.Refusal → Answer Move
penned_as r = answer_by move_as r
