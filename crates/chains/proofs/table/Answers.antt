-- `chains::table` meets its contract: the array is the definition's.
use mathlib.Core.Path.{refl}
use Rattle.chains.specs.Chains.{chain_array}
use Rattle.chains.proofs.table.Goals as goal

pub returns : goal.returns
unfolding chain_array
returns c = refl
