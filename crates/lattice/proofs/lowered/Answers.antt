-- `lattice::lowered` meets its contract: a step of − 1.
use Rattle.lattice.proofs.Moves.{lowered_is}
use Rattle.lattice.proofs.lowered.Goals as goal

pub returns : goal.returns
returns c = lowered_is c.args.mask c.requires.count c.moved.ensures
