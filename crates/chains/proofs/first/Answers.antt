-- `chains::first` meets its contract.
use Rattle.std.proofs.Common.{◌≡◌, arith}
use Rattle.chains.specs.Chains.{first_chain}
use Rattle.chains.proofs.first.Goals as goal

pub returns-in-2 : goal.returns-in-2
unfolding first_chain
returns-in-2 c = rw c.in-2.is

pub returns-in-3 : goal.returns-in-3
unfolding first_chain
returns-in-3 c = rw c.in-3.is

pub returns-in_default : goal.returns-in_default
unfolding first_chain
returns-in_default c = let four : c.args.n ≡ 4 = omega (arith, c.requires.low, c.requires.high) in rw four
