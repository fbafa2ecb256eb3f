-- `chains::place_on` meets its contract.
use Rattle.std.proofs.Common.{refl}
use Rattle.places.specs.Held.{masks_as, facet_as}
use Rattle.chains.specs.Chains.{digits, chain_of, facet_on}
use Rattle.chains.proofs.place_on.Goals as goal

pub returns : goal.returns
unfolding facet_as masks_as facet_on chain_of digits
returns c = rw c.from-word.ensures (record { facet = λ n. refl; low = refl; masks = refl; side = refl })
