-- `places::place_ok` meets its contract: chain and side decide.
use Rattle.std.proofs.Common.{◌∙◌}
use Rattle.places.proofs.ChainSteps.{side_decides, chain_decides}
use Rattle.places.proofs.place_ok.Goals as goal

pub returns-then-chain_ok : goal.returns-then-chain_ok
returns-then-chain_ok c = side_decides c.args.n c.args.p.now c.requires.0 c.requires.1 c.if-chain_ok.ensures c.byte.ensures.is

pub returns-else-chain_ok : goal.returns-else-chain_ok
returns-else-chain_ok c = c.chain_ok.ensures ∙ chain_decides c.args.n c.args.p.now c.requires.0 c.requires.1 c.if-chain_ok.ensures
