-- `assemble::write_job` meets its contract: each return is the definition's answer for the first test that failed, and leaves the buffer as it came;
-- the last is what the writer laid.
use Rattle.std.proofs.Common.{◌≡◌, sym, ◌∙◌, true, ◌<◌, length, arith}
use Rattle.std.proofs.lemmas.Result.{err_from_is_err_and}
use Rattle.paper.specs.Limits.{dimension_ok}
use Rattle.paper.specs.Refusals.{answer_by, refusal_number}
use Rattle.paper.proofs.Refused.{refusal_some}
use Rattle.bits.specs.Axes.{Axes}
use Rattle.bits.proofs.EachDimension.{dimension_axes}
use Rattle.assembly.specs.Assembled.{Loose, handed, assembled}
use Rattle.assembly.specs.Answers.{written_as}
use Rattle.assemble.proofs.Outcomes.{any_bias, right_lengths, length_is, job_long, no_dimension, wrong_form, no_room, laid}
use Rattle.assemble.proofs.write_job.Goals as goal
use Rattle.assemble.proofs.write_job.Goals.{Start, After-arranged-bodies, After-job_length, Else-not-dimension_ok}

-- what was handed over
abbrev given : Start → Loose
given c = handed c.args.n c.args.bias c.args.bounds.now c.args.polynomial1.now c.args.polynomial2.now c.args.polynomial3.now c.args.start.now

right-dimension : (c : Else-not-dimension_ok) → dimension_ok c.args.n ≡ true
right-dimension c = sym c.dimension_ok.ensures ∙ c.if-not-dimension_ok.false

axes : (c : Else-not-dimension_ok) → Axes c.args.n
axes c = dimension_axes c.args.n (right-dimension c)

pub returns-then-not-dimension_ok : goal.returns-then-not-dimension_ok
unfolding written_as answer_by refusal_number
returns-then-not-dimension_ok c =
    let o = no_dimension (given (goal.at.returns-then-not-dimension_ok c).Start) c.args.buffer.now (sym c.dimension_ok.ensures ∙ c.if-not-dimension_ok.true) in
    record { answer = o.answer; bytes = o.bytes }

pub arranged-bodies-requires : goal.arranged-bodies-requires
arranged-bodies-requires c = axes (goal.at.arranged-bodies-requires c).Else-not-dimension_ok

pub test_form-requires : goal.test_form-requires
test_form-requires c = axes (goal.at.test_form-requires c).Else-not-dimension_ok

pub returns-in_err-test_form : goal.returns-in_err-test_form
unfolding written_as answer_by
returns-in_err-test_form c =
    let p = err_from_is_err_and c.from_residual.result c.from_residual.ensures.1 in
    let o = wrong_form (given (goal.at.returns-in_err-test_form c).Start) c.args.buffer.now _ (any_bias _ _ _ _ _ _ _ _ c.arranged-bodies.ensures)
    (right-dimension (goal.at.returns-in_err-test_form c).Else-not-dimension_ok) (refusal_number c.in_err-test_form.field-0.0) c.in_err-test_form.ensures
    (refusal_some c.in_err-test_form.field-0.0) in
    rw (p.1, p.2) (record { answer = o.answer; bytes = o.bytes })

pub job_length-requires : goal.job_length-requires
job_length-requires c = (axes (goal.at.job_length-requires c).Else-not-dimension_ok, right_lengths _ _ c.in_ok-test_form.ensures.0)

-- the length that was compared with the buffer's
job-size : (c : After-job_length) → c.job_length.result ≡ length (assembled (handed c.args.n c.args.bias c.args.bounds.now c.args.polynomial1.now c.args.polynomial2.now c.args.polynomial3.now c.args.start.now))
job-size c =
    c.job_length.ensures
    ∙ length_is (handed c.args.n c.args.bias c.args.bounds.now c.args.polynomial1.now c.args.polynomial2.now c.args.polynomial3.now c.args.start.now)
    c.args.buffer.now _ (any_bias _ _ _ _ _ _ _ _ c.arranged-bodies.ensures) (sym c.dimension_ok.ensures ∙ c.if-not-dimension_ok.false)

pub returns-then-buffer-job_length : goal.returns-then-buffer-job_length
unfolding written_as answer_by refusal_number
returns-then-buffer-job_length c =
    let d = given (goal.at.returns-then-buffer-job_length c).Start in
    let short : length c.args.buffer.now < length (assembled d) = omega (arith, job-size (goal.at.returns-then-buffer-job_length c).After-job_length) in
    let o = no_room d c.args.buffer.now _ (any_bias _ _ _ _ _ _ _ _ c.arranged-bodies.ensures)
    (right-dimension (goal.at.returns-then-buffer-job_length c).Else-not-dimension_ok) c.in_ok-test_form.ensures.0 short in
    record { answer = o.answer; bytes = o.bytes }

pub lay-requires : goal.lay-requires
lay-requires c =
    let d = given (goal.at.lay-requires c).Start in (
      (axes (goal.at.lay-requires c).Else-not-dimension_ok).high,
      job_long d c.args.buffer.now _ (any_bias _ _ _ _ _ _ _ _ c.arranged-bodies.ensures)
          (right-dimension (goal.at.lay-requires c).Else-not-dimension_ok) (omega (arith, job-size (goal.at.lay-requires c).After-job_length)),
    )

pub returns : goal.returns
unfolding written_as answer_by
returns c =
    let d = given (goal.at.returns c).Start in
    let o = laid d c.args.buffer.now _ (any_bias _ _ _ _ _ _ _ _ c.arranged-bodies.ensures) (right-dimension (goal.at.returns c).Else-not-dimension_ok)
    c.in_ok-test_form.ensures.0 _ _ (omega (arith, job-size (goal.at.returns c).After-job_length)) c.lay.ensures in
    record { answer = o.answer; bytes = o.bytes }
