-- `carried::enter` meets its contract: the simplex is the one that the search finds, and the sign of D is that of the facet's columns.
use mathlib.Core.Path.{refl}
use borrow.Author.Rules.{rules}
use Rattle.carried.proofs.EnteredSign.{determinant_tested}
use Rattle.carried.proofs.enter.Goals as goal

pub returns : goal.returns
returns c = record {
  place = refl;
  found = c.find-found.ensures;
  moved = c.make_room.ensures;
  signed = determinant_tested _ _ c.requires.cells.1 c.determinant-plus.ensures;
}
