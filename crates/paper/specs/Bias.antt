-- Request 2.7, a bias toward zero: what its theorems speak of. The bias itself is `bias` in Job (byte 3) and `value_of` in Values. Here
-- stand the same job with another bias, and what document 01 said before the request, so that the two can be compared. No operation uses
-- them.
use Rattle.std.specs.Prelude.{ℕ, not, ◌||◌, List, length, set, ltb, eqb}
use Rattle.curves.specs.Step.{Field, every}
use Rattle.paper.specs.Bytes.{byte}
use Rattle.paper.specs.Job.{dimension, body, refuse_if, open_refusal}
use Rattle.paper.specs.Values.{readable_sum, sums, inside_from, field_from}

-- the same job with another bias
unfoldable pub with_bias : List ℕ → ℕ → List ℕ
with_bias s b = set s 3 b

-- what the curves of a job would be drawn on if its bias were b
unfoldable pub biased_field : List ℕ → ℕ → Field
biased_field s b = field_from (dimension s) b (body s 0) (sums s)

-- ---- before the request

-- a value was the sum
unfoldable pub field_without_bias : List ℕ → Field
field_without_bias s = record {
  value = sums s;
  in_box = inside_from (body s 0) 0;
  readable = λ v. every (readable_sum (dimension s)) (sums s v);
}

-- refusal 2 was for byte 0 or byte 3; the tests before and behind it were those of today
unfoldable pub open_refusal_without_bias : List ℕ → ℕ
open_refusal_without_bias s =
    refuse_if (ltb (length s) 4) 1
    (refuse_if (not (eqb (byte s 0) 1) || not (eqb (byte s 3) 0)) 2
    (open_refusal s))
