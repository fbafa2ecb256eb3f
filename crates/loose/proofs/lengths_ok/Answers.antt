-- `loose::lengths_ok` meets its contract.
use Rattle.std.proofs.Common.{◌∙◌, ◌+◌, refl, length, arith}
use Rattle.std.proofs.lemmas.Iterator.{YieldsList-from_range}
use Rattle.std.proofs.lemmas.Iterator.Search.{all_from_yields_List}
use borrow.Author.Tests.{tests}
use borrow.Author.Rules.{rules}
use Rattle.paper.specs.Job.{length_ok}
use Rattle.bits.proofs.RangeAll.{all_range}
use Rattle.assembly.specs.LooseRefusal.{lengths_ok}
use Rattle.laying.specs.Laid.{body_at}
use Rattle.laying.proofs.BodyRead.{body_read}
use Rattle.loose.proofs.lengths_ok.Goals as goal

pub returns : goal.returns
unfolding lengths_ok
returns c =
    all_from_yields_List (λ k. length_ok c.args.n k (length (body_at c.args.bodies k))) _ _ _ c.all.ensures.ran
    (YieldsList-from_range 0 (c.args.n + 1) (c.args.n + 1) refl (omega arith)) (λ x b q k. rw (← body_read c.args.bodies x) (search (rules, tests)))
    ∙ all_range _ 0 (c.args.n + 1)
