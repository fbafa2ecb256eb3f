-- `coefficients::power` meets its contract.
use Rattle.std.proofs.Common.{◌≡◌, ◌+◌, ◌∙◌, sym, ap, arith}
use Rattle.formula.specs.Meaning.{power_of}
use Rattle.coefficients.specs.Result.{result_as}
use Rattle.coefficients.proofs.Powers.{power_starts, power_next, power_none}
use Rattle.coefficients.proofs.power.Goals as goal

pub returns-in_err-r : goal.returns-in_err-r
unfolding result_as
returns-in_err-r c =
    ap result_as c.from_residual.ensures ∙ power_none c.args.p.now.cells 0 c.args.k (omega arith) (c.in_err-r.ensures ∙ sym (power_starts c.args.p.now.cells))

pub returns-in_err-r-2 : goal.returns-in_err-r-2
unfolding result_as
returns-in_err-r-2 c =
    let p = c.args.p.now.cells in
    ap result_as c.from_residual-in_err-r-2.ensures
    ∙ power_none p (c.loop.counter + 1) c.args.k (omega arith) (c.in_err-r-2.ensures ∙ sym (power_next p c.loop.counter c.loop.invariant))

pub loop-init : goal.loop-init
unfolding result_as
loop-init c = c.in_ok-r.ensures ∙ sym (power_starts c.args.p.now.cells)

pub loop-preserved : goal.loop-preserved
unfolding result_as
loop-preserved c = c.in_ok-r-2.ensures ∙ sym (power_next c.args.p.now.cells c.loop.counter c.loop.invariant)

pub returns : goal.returns
unfolding result_as
returns c =
    let last : c.loop.counter ≡ c.args.k = omega arith in
    c.loop.invariant ∙ ap (power_of c.args.p.now.cells) last
