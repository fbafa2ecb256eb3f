-- Judge in the form that names its ground: document 02, request 2.9. Its refusals are Judge's.
use Rattle.std.specs.Prelude.{ℕ, Bool, List, take, Result}
use Rattle.exact.specs.Det.{Column}
use Rattle.curves.specs.Grid.{facet_vertices}
use Rattle.curves.specs.Step.{columns}
use Rattle.paper.specs.Job.{dimension}
use Rattle.paper.specs.Values.{field_of}
use Rattle.paper.specs.Operations.{Answer, refused, answered, unless, facet_of, judge_refusal}
use Rattle.paper.specs.Refusals.{answer_by}
use Rattle.paper.specs.declared.Refusal as Refusal
use Rattle.grounds.specs.declared.NamedGround as NamedGround
use Rattle.grounds.specs.Ground.{Ground, zero_determinant, vertex_against, all_with, ground, crossed_by}

-- the columns of a place's facet: 1 and the values at each vertex, in chain order
unfoldable pub place_columns : List ℕ → List ℕ → List Column
place_columns s p = columns (field_of s) (facet_vertices (facet_of s p))

unfoldable pub judged_by : List ℕ → List ℕ → Answer Ground
judged_by s p = unless (judge_refusal s p) (ground (dimension s) (place_columns s p))

-- the plain answer that a ground stands for
unfoldable pub plainly : Answer Ground → Answer Bool
plainly (refused k) = refused k
plainly (answered g) = answered (crossed_by g)

-- each case of the code's answer
unfoldable pub named_as : NamedGround.NamedGround → Ground
named_as NamedGround.TheVariants.ZeroDeterminant = zero_determinant
named_as (NamedGround.TheVariants.Against i j) = vertex_against i j
named_as (NamedGround.TheVariants.Crossed p) = all_with (take p.n p.powers)

unfoldable pub judged_by_as : Result NamedGround.NamedGround Refusal.Refusal → Answer Ground
judged_by_as r = answer_by named_as r
