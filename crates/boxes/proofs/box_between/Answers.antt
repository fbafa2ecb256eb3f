-- `boxes::box_between` meets its contract.
use Rattle.std.proofs.Common.{◌∙◌, refl, arith}
use Rattle.std.proofs.lemmas.Iterator.{YieldsList-from_range}
use Rattle.std.proofs.lemmas.Iterator.Search.{all_from_yields_List}
use borrow.Author.Tests.{tests}
use borrow.Author.Rules.{rules}
use Rattle.exact.proofs.Bits.{back}
use Rattle.bits.proofs.RangeAll.{all_range}
use Rattle.boxes.specs.Between.{axis_between, box_between}
use Rattle.boxes.proofs.BoxTests.{limits_back}
use Rattle.boxes.proofs.box_between.Goals as goal

pub returns : goal.returns
unfolding box_between
returns c =
    all_from_yields_List (axis_between (back c.args.lowest) (back c.args.highest) c.args.b.now) _ _ _ c.all.ensures.ran (YieldsList-from_range 0 c.args.n c.args.n refl (omega arith)) (λ x b q k. search (rules, tests))
    ∙ all_range _ 0 c.args.n ∙ limits_back _ _ c.ranges.lowest c.ranges.highest
