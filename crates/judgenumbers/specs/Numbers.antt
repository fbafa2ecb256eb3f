-- The answers of both forms of Judge as the C interface's structs. Refusal 0 is none; beside a refusal every other field is 0, and so are the vertex
-- and the powers that a ground does not name.
use Rattle.std.specs.Prelude.{ℕ, Bool, true, false, cond, eqb, length, get_or}
use Rattle.paper.specs.Operations.{Answer, refused, answered}
use Rattle.grounds.specs.Ground.{Ground, zero_determinant, vertex_against, all_with}
use Rattle.judgenumbers.specs.declared.JudgeAnswer.{JudgeAnswer}
use Rattle.judgenumbers.specs.declared.GroundAnswer.{GroundAnswer}

-- 1 crossed, 0 not
unfoldable pub judge_numbers : Answer Bool → JudgeAnswer
judge_numbers (refused k) = record { refusal = k; crossed = 0 }
judge_numbers (answered true) = record { refusal = 0; crossed = 1 }
judge_numbers (answered false) = record { refusal = 0; crossed = 0 }

-- kind 0 D is 0, 1 a vertex against D, 2 crossed, with n powers
unfoldable pub without_powers : ℕ → ℕ → ℕ → ℕ → GroundAnswer
without_powers refusal kind vertex power = record {
  refusal = refusal;
  kind = kind;
  n = 0;
  vertex = vertex;
  power = power;
  power0 = 0;
  power1 = 0;
  power2 = 0;
  power3 = 0;
}

unfoldable pub with_powers : ℕ → ℕ → ℕ → ℕ → ℕ → GroundAnswer
with_powers n a b c d = record {
  refusal = 0;
  kind = 2;
  n = n;
  vertex = 0;
  power = 0;
  power0 = a;
  power1 = b;
  power2 = c;
  power3 = d;
}

unfoldable pub ground_numbers : Answer Ground → GroundAnswer
ground_numbers (refused k) = without_powers k 0 0 0
ground_numbers (answered zero_determinant) = without_powers 0 0 0 0
ground_numbers (answered (vertex_against i j)) = without_powers 0 1 i j
ground_numbers (answered (all_with js)) = with_powers (length js) (get_or js 0 0) (get_or js 1 0) (get_or js 2 0) (get_or js 3 0)

-- the plain answer, read off the struct with the ground: crossed exactly if kind is 2
unfoldable pub plain_numbers : GroundAnswer → JudgeAnswer
plain_numbers g = record { refusal = g.refusal; crossed = cond (eqb g.kind 2) 1 0 }
