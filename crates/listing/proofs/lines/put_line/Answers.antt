-- `listing::lines::put_line` meets its contract: Point does not refuse the place, so its answer is the point.
use native.Mathlib.Nat.{le_refl}
use Rattle.decimals.proofs.WrittenParts.{writes_as}
use Rattle.listing.proofs.PlacesShown.{line_axes}
use Rattle.listing.proofs.PointShown.{line_shown, point_answered}
use Rattle.listing.proofs.lines.put_line.Goals as goal

pub read_place-p-requires : goal.read_place-p-requires
read_place-p-requires c = (line_axes c.requires.0, c.requires.0.whole)

pub unwrap-q-requires : goal.unwrap-q-requires
unwrap-q-requires c = point_answered _ _ c.requires.0.passes _ c.point_in.ensures

pub put_place-requires : goal.put_place-requires
put_place-requires c = (line_axes c.requires.0, c.requires.1)

pub returns : goal.returns
returns c = writes_as (line_shown c.requires.0 c.read_place-p.ensures c.unwrap-q.ensures c.point_in.ensures) (le_refl _) c.put_place.ensures
