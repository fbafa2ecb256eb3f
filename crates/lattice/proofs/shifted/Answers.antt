-- `lattice::shifted` meets its contract: a step of 1.
use Rattle.lattice.proofs.Moves.{shifted_is}
use Rattle.lattice.proofs.shifted.Goals as goal

pub returns : goal.returns
returns c = shifted_is c.args.mask c.requires.count c.moved.ensures
