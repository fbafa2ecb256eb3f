-- `seams::lines::put_extent` meets its contract: each extent's word.
use Rattle.std.proofs.Common.{sym, ap, arith}
use Rattle.decimals.proofs.WrittenParts.{writes_as}
use Rattle.seamlist.specs.Answers.{extent_of}
use Rattle.seamlist.specs.SeamText.{extent_word}
use Rattle.seams.proofs.lines.put_extent.Goals as goal

pub returns-in-Complete : goal.returns-in-Complete
unfolding extent_word extent_of
returns-in-Complete c = writes_as (sym (ap (λ e. extent_word (extent_of e)) c.in-Complete.is)) (omega arith) c.put_word.ensures

pub returns-in-Full : goal.returns-in-Full
unfolding extent_word extent_of
returns-in-Full c = writes_as (sym (ap (λ e. extent_word (extent_of e)) c.in-Full.is)) (omega arith) c.put_word-in-Full.ensures
