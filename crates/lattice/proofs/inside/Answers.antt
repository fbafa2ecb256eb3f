-- `lattice::inside` meets its contract: all axes are tested, and those that do not count pass.
use Rattle.std.proofs.Common.{◌||◌, ◌∙◌, refl, get_or, arith}
use Rattle.std.proofs.lemmas.Iterator.{YieldsList-from_range}
use Rattle.std.proofs.lemmas.Iterator.Search.{all_from_yields_List}
use lib.Dec.{leb}
use borrow.Author.Tests.{tests}
use borrow.Author.Rules.{rules}
use Rattle.exact.specs.Int.{0ℤ}
use Rattle.bits.proofs.RangeAll.{all_range}
use Rattle.lattice.specs.Box.{axis_inside}
use Rattle.lattice.proofs.InBox.{all_tested}
use Rattle.lattice.proofs.inside.Goals as goal

pub returns : goal.returns
returns c =
    all_tested c.args.bounds.now c.args.n c.args.v (omega arith) c.requires.0.high c.all.result
    (all_from_yields_List (λ a. leb c.args.n a || axis_inside c.args.bounds.now a (get_or c.args.v.coordinates a 0ℤ)) _ _ _ c.all.ensures.ran
    (YieldsList-from_range 0 4 4 refl refl) (λ x b q k. search (rules, tests))
    ∙ all_range _ 0 4)
