-- `text::put_verdict` meets its contract: each verdict's word.
use Rattle.std.proofs.Common.{◌≡◌, ◌≤◌, sym, ap, ◌∙◌, arith, length}
use Rattle.paper.specs.Listing.{verdict_word}
use Rattle.paper.specs.Answers.{verdict_as}
use Rattle.paper.specs.declared.Verdict.{Verdict}
use Rattle.paper.specs.declared.Verdict.TheVariants.{Loop, Edge, Limit, Full}
use Rattle.decimals.proofs.WrittenParts.{writes_within}
use Rattle.text.proofs.put_verdict.Goals as goal
use Rattle.text.proofs.put_verdict.Goals.{in-Loop, in-Edge, in-Limit, in-Full}

short : (v : Verdict) → length (verdict_word (verdict_as v)) ≤ 5
unfolding verdict_word verdict_as
short Loop = omega arith
short Edge = omega arith
short Limit = omega arith
short Full = omega arith

pub returns : goal.returns
unfolding verdict_word verdict_as
returns c =
    let word : c.match-v.word.now ≡ verdict_word (verdict_as c.args.v) =
    elim c.match-v.branch [
      | in-Loop w ↦ ap (λ b. b.now) w.word-is ∙ sym (ap (λ (v : Verdict). verdict_word (verdict_as v)) w.in-Loop.is)
      | in-Edge w ↦ ap (λ b. b.now) w.word-is ∙ sym (ap (λ (v : Verdict). verdict_word (verdict_as v)) w.in-Edge.is)
      | in-Limit w ↦ ap (λ b. b.now) w.word-is ∙ sym (ap (λ (v : Verdict). verdict_word (verdict_as v)) w.in-Limit.is)
      | in-Full w ↦ ap (λ b. b.now) w.word-is ∙ sym (ap (λ (v : Verdict). verdict_word (verdict_as v)) w.in-Full.is)
    ] in
    writes_within word (short c.args.v) c.put_word.ensures
