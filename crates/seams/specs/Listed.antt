-- The answer of the operation that lists seams, with the places that it wrote read back from the buffer.
use Rattle.std.specs.Prelude.{ℕ, List}
use Rattle.paper.specs.Job.{dimension}
use Rattle.paper.specs.Demand3.{read_places}
use Rattle.seamlist.specs.JobSeams.{Seams}
use Rattle.seamlist.specs.Answers.{extent_of}
use Rattle.seamlist.specs.declared.Seamed.{Seamed}

-- an extent, and so many places at the front of the bytes b
abbrev pub listed_seams : List ℕ → List ℕ → Seamed → Seams
listed_seams s b r = record { extent = extent_of r.extent; places = read_places (dimension s) r.count b }
