-- `trace::trace` meets its contract: refused as Open refuses, or the trace of a job that has opened.
use Rattle.trace.proofs.TraceAnswers.{open_traces, trace_refused}
use Rattle.trace.proofs.trace.Goals as goal

pub returns-in_err-open : goal.returns-in_err-open
returns-in_err-open c =
    let e = trace_refused _ c.args.buffer.now _ _ c.from_residual.ensures.1 (open_traces _ _ c.in_err-open.ensures) in
    record { answer = e.answer; written = e.buffer }

pub returns : goal.returns
returns c = rw (← c.in_ok-open.ensures.1) c.trace_in.ensures
