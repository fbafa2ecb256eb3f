-- `stored::put_vertex` meets its contract. The invariant: of the coordinates that count the first a are written.
use Rattle.std.proofs.Common.{◌≡◌, take}
use lib.Seq.{sets}
use Rattle.paper.specs.Job.{vertex_bytes}
use Rattle.places.specs.Held.{vertex_as}
use Rattle.stored.proofs.put_vertex.Given as goal

abbrev pub invariant-loop-a : goal.invariant-loop-a
invariant-loop-a l = l.buffer ≡ sets l.initial.buffer l.at (vertex_bytes (take l.a (vertex_as l.n l.v)))
