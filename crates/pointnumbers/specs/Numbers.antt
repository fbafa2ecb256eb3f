-- The answers of Point and Pen as the C interface's structs. Refusal 0 is none; beside a refusal every other field is 0, and so are the axes that a
-- lower dimension does not have and the point of a close.
use Rattle.std.specs.Prelude.{ℕ, Bool, not, List, ℤ, eqb, get_or, Float}
use Rattle.std.specs.Float.Ieee.{of_bits}
use Rattle.std.specs.Float.{binary64}
use Rattle.exact.specs.Int.{0ℤ}
use Rattle.paper.specs.Operations.{Answer, refused, answered}
use Rattle.paper.specs.Pen.{Move, lift, draw, close}
use Rattle.pointnumbers.specs.declared.PointAnswer.{PointAnswer}
use Rattle.pointnumbers.specs.declared.PenAnswer.{PenAnswer}

-- the point in steps of 1/1024
unfoldable pub point_numbers : Answer (List ℤ) → PointAnswer
point_numbers (refused k) = record { refusal = k; x = 0ℤ; y = 0ℤ; z = 0ℤ; w = 0ℤ }
point_numbers (answered v) = record { refusal = 0; x = get_or v 0 0ℤ; y = get_or v 1 0ℤ; z = get_or v 2 0ℤ; w = get_or v 3 0ℤ }

-- a mark is set by any number but 0
unfoldable pub is_set : ℕ → Bool
is_set mark = not (eqb mark 0)

-- the float all of whose bits are 0, + 0
abbrev pub zero_float : Float
zero_float = of_bits binary64 0

-- kind 0 lift, 1 draw, 2 close
unfoldable pub without_point : ℕ → ℕ → PenAnswer
without_point refusal kind = record { refusal = refusal; kind = kind; x = zero_float; y = zero_float; z = zero_float }

unfoldable pub with_point : ℕ → List Float → PenAnswer
with_point kind v = record {
  refusal = 0;
  kind = kind;
  x = get_or v 0 zero_float;
  y = get_or v 1 zero_float;
  z = get_or v 2 zero_float;
}

unfoldable pub pen_numbers : Answer Move → PenAnswer
pen_numbers (refused k) = without_point k 0
pen_numbers (answered (lift v)) = with_point 0 v
pen_numbers (answered (draw v)) = with_point 1 v
pen_numbers (answered close) = without_point 0 2
