-- `seams::lines::put_seams` meets its contract: each turn writes the line of one seam.
use Rattle.std.proofs.Common.{◌≡◌, ◌*◌, ◌+◌, ◌-◌, ◌≤◌, length, arith, rules}
use Rattle.input.proofs.Lines.{going_begins, line_fits, going_on, going_ends}
use Rattle.seams.proofs.SeamShown.{line_at}
use Rattle.seams.proofs.SeamsListed.{job_range}
use Rattle.seams.proofs.lines.put_seams.Goals as goal

pub overflow_mul-width : goal.overflow_mul-width
overflow_mul-width c = omega (arith, job_range c.args.job.opened)

pub overflow_mul-i : goal.overflow_mul-i
overflow_mul-i c = omega (arith, (line_at _ c.requires.0 c.loop-i.i c.loop-i-test.true).room, c.well_formed)

pub overflow_mul-i-in-loop-i : goal.overflow_mul-i-in-loop-i
overflow_mul-i-in-loop-i c = omega (arith, (line_at _ c.requires.0 c.loop-i.i c.loop-i-test.true).room, c.well_formed)

pub overflow_add-i : goal.overflow_add-i
overflow_add-i c = omega (arith, (line_at _ c.requires.0 c.loop-i.i c.loop-i-test.true).room, c.well_formed)

pub slice_bounds-put_seam-end : goal.slice_bounds-put_seam-end
slice_bounds-put_seam-end c =
    let w = 3 * c.args.job.n in
    let inside : c.loop-i.i * (3 * c.args.job.n) + 3 * c.args.job.n ≤ length c.args.places.now = (line_at _ c.requires.0 c.loop-i.i c.loop-i-test.true).room in
    search rules

pub loop-i-init : goal.loop-i-init
loop-i-init c = going_begins _ _ _ _ _ _ _ _ _ _ c.requires.1

pub put_seam-end-requires : goal.put_seam-end-requires
put_seam-end-requires c =
    let at = line_at _ c.requires.0 c.loop-i.i c.loop-i-test.true in
    let w : c.loop-i.i * (3 * c.args.job.n) + 3 * c.args.job.n - c.loop-i.i * (3 * c.args.job.n) ≡ 3 * c.args.job.n = omega arith in
    (rw (w) at.line, line_fits _ _ _ _ _ _ _ _ _ _ c.loop-i.invariant c.loop-i-test.true)

pub loop-i-preserved : goal.loop-i-preserved
loop-i-preserved c =
    let w : c.loop-i.i * (3 * c.args.job.n) + 3 * c.args.job.n - c.loop-i.i * (3 * c.args.job.n) ≡ 3 * c.args.job.n = omega arith in
    going_on _ _ _ _ _ _ _ _ _ _ c.loop-i.invariant c.loop-i-test.true (rw (w) at c.put_seam-end.ensures) c.put_seam-end.auto.out

pub returns : goal.returns
returns c = going_ends _ _ _ _ _ _ _ _ _ _ c.loop-i.invariant c.loop-i-test.false
