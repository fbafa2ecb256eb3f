-- `places::read_place` meets its contract: the numbers read are those of the place.
use Rattle.paper.specs.Job.{decode_place}
use Rattle.places.specs.Held.{masks_as, facet_as, place_as}
use Rattle.places.proofs.read_place.Goals as goal

pub returns : goal.returns
unfolding decode_place place_as facet_as masks_as
returns c =
    let low = c.read_vertex.ensures in
    let masks = c.read_masks.ensures in
    record {
      is = λ i. record { facet = record { low = low.is i; masks = masks.is i }; side = c.byte.ensures.is i };
      size = low.size;
      mask_count = masks.count;
      masks = masks.each;
      side = c.byte.ensures.small;
    }
