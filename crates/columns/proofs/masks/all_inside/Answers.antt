-- `columns::masks::all_inside` meets its contract.
use Rattle.std.proofs.Common.{◌∙◌}
use Rattle.std.proofs.lemmas.Iterator.{YieldsList-from_slice}
use Rattle.std.proofs.lemmas.Iterator.Search.{all_from_yields_List}
use borrow.Author.Tests.{tests}
use borrow.Author.Rules.{rules}
use Rattle.curves.specs.Grid.{plus}
use Rattle.paper.specs.Values.{field_of}
use Rattle.places.specs.Held.{vertex_as}
use Rattle.columns.proofs.PutColumns.{every_mask}
use Rattle.columns.proofs.masks.all_inside.Goals as goal

pub returns : goal.returns
returns c =
    all_from_yields_List (λ m. (field_of c.args.job.bytes.now).in_box (plus (vertex_as c.args.job.n c.args.base) m)) _ _ _ c.all.ensures.ran
    (YieldsList-from_slice c.args.masks.now c.iter.ensures.rest) (λ x b q k. search (rules, tests))
    ∙ every_mask (field_of c.args.job.bytes.now).in_box c.args.job.n c.args.base c.args.masks.now
