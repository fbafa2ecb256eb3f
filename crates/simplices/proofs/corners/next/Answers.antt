-- `simplices::corners::next` meets its contract: the place of the facet without vertex `out`, turned.
use mathlib.Core.Path.{ap}
use Rattle.curves.specs.Grid.{turn}
use Rattle.places.specs.Held.{masks_as, facet_as, place_as}
use Rattle.simplices.proofs.corners.next.Goals as goal

pub returns : goal.returns
unfolding place_as facet_as masks_as turn
returns c row t digits =
    let e = c.place_at-p.ensures.1 row t digits in
    record { is = ap turn e.is; low = e.low }
