-- `walks::visit` meets its contract: the place is written, and the step from it decides.
use borrow.Author.Rules.{rules}
use Rattle.step.proofs.HeldPlaces.{held_fits}
use Rattle.walks.proofs.visit.Goals as goal

pub write_place-requires : goal.write_place-requires
write_place-requires c = (held_fits c.requires.1.0.held, c.requires.1.1)

pub returns : goal.returns
returns c = record { buffer = c.write_place.ensures; answer = c.look_ahead.ensures }
