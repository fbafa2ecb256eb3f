-- `least::search::turned` meets its contract.
use Rattle.std.proofs.Common.{refl}
use Rattle.curves.specs.Grid.{turn}
use Rattle.places.specs.Held.{masks_as, facet_as, place_as}
use Rattle.least.proofs.search.turned.Goals as goal

pub returns : goal.returns
unfolding turn place_as facet_as masks_as
returns c = ((λ n. refl), refl)
