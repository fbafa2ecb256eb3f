-- `simplices::search::same_masks` meets its contract: the three masks are tested, and those that do not count pass.
use Rattle.std.proofs.Common.{◌||◌, ◌-◌, ◌∙◌, refl, get_or, arith}
use Rattle.std.proofs.lemmas.Iterator.{YieldsList-from_range}
use Rattle.std.proofs.lemmas.Iterator.Search.{all_from_yields_List}
use lib.Dec.{leb, eqb}
use borrow.Author.Tests.{tests}
use borrow.Author.Rules.{rules}
use Rattle.bits.proofs.RangeAll.{all_range}
use Rattle.simplices.proofs.Matches.{masks_tested}
use Rattle.simplices.proofs.search.same_masks.Goals as goal

pub returns : goal.returns
returns c =
    all_from_yields_List (λ k. leb (c.args.n - 1) k || eqb (get_or c.facet_masks-masks.result k 0) (get_or c.args.p.masks k 0)) _ _ _ c.all.ensures.ran
    (YieldsList-from_range 0 3 3 refl refl) (λ x b q k. search (rules, tests))
    ∙ all_range _ 0 3
    ∙ masks_tested c.args.p c.requires.0 c.requires.1 c.facet_masks-masks.ensures (omega arith) (omega arith)
