-- `bodyentry::body_entry` meets its contract: the entry of a body that is not refused lies inside the job.
use mathlib.Core.Path.{sym, ◌∙◌}
use native.Mathlib.Omega.{arith}
use Rattle.paper.specs.Job.{entry_offset, entry_length}
use Rattle.paper.proofs.Bodies.{refused_part}
use Rattle.paper.proofs.Refused.{refusal_some}
use Rattle.bodyentry.proofs.EntryInside.{refused_entry, entry_inside, given_entry, given_bytes, given_inside}
use Rattle.bodyentry.proofs.body_entry.Goals as goal

pub returns-in-Some-clause-numbers : goal.returns-in-Some-clause-numbers
returns-in-Some-clause-numbers c =
    rw (c.default.ensures.1.0, c.default.ensures.1.1)
    (refused_entry _ _ (c.number.ensures ∙ c.in-Some.ensures) (λ h. refusal_some c.in-Some.refusal (sym c.number.ensures ∙ h)))

pub returns-in-Some-clause-part : goal.returns-in-Some-clause-part
returns-in-Some-clause-part c =
    rw (c.default.ensures.1.0, c.default.ensures.1.1) (sym (refused_part _ _ (λ h. refusal_some c.in-Some.refusal (c.in-Some.ensures ∙ h))))

pub overflow_mul-k : goal.overflow_mul-k
overflow_mul-k c = let inside = entry_inside _ _ c.in-None.ensures in omega arith

pub overflow_add-k : goal.overflow_add-k
overflow_add-k c = let inside = entry_inside _ _ c.in-None.ensures in omega arith

pub word-requires : goal.word-requires
word-requires c = let inside = entry_inside _ _ c.in-None.ensures in omega arith

pub overflow_mul-k-in-None : goal.overflow_mul-k-in-None
overflow_mul-k-in-None c = let inside = entry_inside _ _ c.in-None.ensures in omega arith

pub overflow_add-k-in-None : goal.overflow_add-k-in-None
overflow_add-k-in-None c = let inside = entry_inside _ _ c.in-None.ensures in omega arith

pub word-requires-in-None : goal.word-requires-in-None
word-requires-in-None c = let inside = entry_inside _ _ c.in-None.ensures in omega arith

pub returns-in-None : goal.returns-in-None
unfolding entry_offset entry_length
returns-in-None c =
    let at = c.word.ensures.is in
    let size = c.word-in-None.ensures.is in
    record {
      numbers = given_entry _ _ c.in-None.ensures at size;
      part = given_bytes _ _ c.in-None.ensures at size;
      inside = given_inside _ _ c.in-None.ensures at size;
    }
