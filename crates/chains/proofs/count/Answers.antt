-- `chains::count` meets its contract.
use Rattle.std.proofs.Common.{◌≡◌, ◌∙◌, sym, ap, arith}
use Rattle.chains.proofs.ChainTable.{chain_count, chains_counted}
use Rattle.chains.proofs.count.Goals as goal

pub returns-in-2 : goal.returns-in-2
unfolding chain_count
returns-in-2 c = sym (chains_counted c.args.n c.requires ∙ ap chain_count c.in-2.is)

pub returns-in-3 : goal.returns-in-3
unfolding chain_count
returns-in-3 c = sym (chains_counted c.args.n c.requires ∙ ap chain_count c.in-3.is)

pub returns-in_default : goal.returns-in_default
unfolding chain_count
returns-in_default c =
    let four : c.args.n ≡ 4 = omega (arith, c.requires.low, c.requires.high) in
    sym (chains_counted c.args.n c.requires ∙ ap chain_count four)
