-- What the parts of Pen answer. Pen itself, its refusals and its moves, is defined in crate paper, specs/Pen.
use Rattle.std.specs.Prelude.{ℕ, ◌^◌, Bool, cond, ◌&&◌, List, ltb, eqb, Float, get_or}
use Rattle.exact.specs.Int.{0ℤ}
use Rattle.exact.specs.Size.{Size}
use Rattle.paper.specs.declared.StepPoint.{StepPoint}
use Rattle.paper.specs.Operations.{Answer, unless, point_refusal}
use Rattle.paper.specs.Pen.{Move, lift, draw, point_millimetres}

-- up to this size a 64-bit float holds every whole number
abbrev pub whole_limit : ℕ
whole_limit = 2 ^ 53

-- the numbers of steps of a point can be cast without loss
pub record StepSizes (p : StepPoint) : Type 0 where
  pub each : (a : ℕ) → Size whole_limit (get_or p.steps a 0ℤ)

-- behind the last of m places, with m above 0 and the mark set
unfoldable pub closes_at : ℕ → Bool → ℕ → Bool
closes_at m mark k = eqb k m && (ltb 0 m && mark)

-- the first place is lifted to, each other drawn to
unfoldable pub move_to : ℕ → List Float → Move
move_to k point = cond (eqb k 0) (lift point) (draw point)

-- Pen's answer at place k, whose bytes are p
unfoldable pub moved_to : List ℕ → List ℕ → ℕ → Answer Move
moved_to s p k = unless (point_refusal s p) (move_to k (point_millimetres s p))
