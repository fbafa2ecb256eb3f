-- `carried::new_vertex` meets its contract: each vertex is the corner with its mask added.
use mathlib.Core.Path.{◌∙◌}
use borrow.Author.Rules.{rules}
use Rattle.carried.proofs.NewVertex.{new_vertex_is}
use Rattle.carried.proofs.new_vertex.Goals as goal

pub returns : goal.returns
returns c n row t digits low =
    new_vertex_is n row c.args.out t low (c.digit.ensures ∙ digits.at c.args.out c.requires.0) c.shifted.ensures
