-- `points::coordinate` meets its contract: the share lies from 0 to 1, so the rounding leaf may be asked, and what it gives is the definition's.
use borrow.Author.Rules.{rules}
use Rattle.points.proofs.Rounded.{asks_num, asks_d, asks_round, fits_steps, fits_low, fits_coordinate, coordinate_is}
use Rattle.points.proofs.coordinate.Goals as goal

pub size-requires : goal.size-requires
size-requires c = let h = (asks_num c.requires).size in search rules

pub size-requires-2 : goal.size-requires-2
size-requires-2 c = let h = (asks_d c.requires).size in search rules

pub share_steps-steps-requires : goal.share_steps-steps-requires
share_steps-steps-requires c = asks_round c.requires c.size.ensures c.size-2.ensures

pub overflow_mul-result : goal.overflow_mul-result
overflow_mul-result c =
    fits_low c.requires c.size.ensures c.size-2.ensures c.share_steps-steps.ensures

pub overflow_cast-result : goal.overflow_cast-result
overflow_cast-result c =
    fits_steps c.requires c.size.ensures c.size-2.ensures c.share_steps-steps.ensures

pub overflow_add-result : goal.overflow_add-result
overflow_add-result c =
    fits_coordinate c.requires c.size.ensures c.size-2.ensures c.share_steps-steps.ensures

pub returns : goal.returns
returns c =
    coordinate_is c.requires c.size.ensures c.size-2.ensures c.share_steps-steps.ensures
