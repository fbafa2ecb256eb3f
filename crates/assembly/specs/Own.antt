-- The loose bodies that a job has itself.
use Rattle.std.specs.Prelude.{ℕ, ◌-◌, List, ◌++◌, map}
use Rattle.exact.specs.Crossed.{count_from}
use Rattle.paper.specs.Job as Job
use Rattle.paper.specs.Job.{dimension, body}
use Rattle.assembly.specs.Assembled.{Loose}

-- dimension, bias, box, polynomials and start of a job, with any further polynomials behind its own
unfoldable pub own_bodies : List ℕ → List (List ℕ) → Loose
own_bodies s more = record {
  n = dimension s;
  bias = Job.bias s;
  box = body s 0;
  polynomials = map (body s) (count_from 1 (dimension s - 1)) ++ more;
  start = body s (dimension s);
}

-- the same with another start
unfoldable pub other_start : Loose → List ℕ → Loose
other_start d b = record { n = d.n; bias = d.bias; box = d.box; polynomials = d.polynomials; start = b }
