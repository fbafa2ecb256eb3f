-- `stored::write_place` meets its contract: coordinates, masks and side, each behind the one before.
use native.Mathlib.Omega.{arith}
use mathlib.Core.Path.{refl}
use Rattle.places.proofs.PlaceStored.{fits_low, fits_masks, fits_side, place_stored}
use Rattle.stored.proofs.write_place.Goals as goal

pub put_vertex-requires : goal.put_vertex-requires
put_vertex-requires c = (c.requires.0.axes, (fits_low c.requires.0, omega (arith, c.requires.1)))

pub put_masks-requires : goal.put_masks-requires
put_masks-requires c = (
  c.requires.0.axes,
  (fits_masks c.requires.0, omega (arith, c.requires.1, c.requires.0.axes.low, c.put_vertex.auto)),
)

pub put_byte-requires : goal.put_byte-requires
put_byte-requires c = (
  omega (arith, fits_side c.requires.0),
  omega (arith, c.requires.1, c.requires.0.axes.low, c.put_vertex.auto, c.put_masks.auto),
)

pub returns : goal.returns
returns c =
    place_stored c.requires.0 _ _ c.put_vertex.ensures c.put_masks.ensures refl
    c.put_byte.ensures
