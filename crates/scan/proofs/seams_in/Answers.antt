-- `scan::seams_in` meets its contract: each vertex of the box is looked at.
use Rattle.std.proofs.Common.{◌≡◌, ◌*◌, ◌/◌, Some, ap, subst, ◌∙◌, arith}
use Rattle.job.proofs.Opened.{job_axes}
use Rattle.places.specs.Held.{vertex_as}
use Rattle.columns.proofs.FacetColumns.{zero_cells}
use Rattle.paper.specs.Operations.{answered}
use Rattle.seamlist.specs.BoxIndex.{box_size}
use Rattle.seamlist.specs.JobSeams.{low_ends, high_ends}
use Rattle.seamlist.specs.Answers.{extent_count}
use Rattle.seamlist.specs.declared.Extent as Extent
use Rattle.scan.specs.Scanned.{space_for, NoSpace, ScannedIs}
use Rattle.scan.proofs.Gathered.{gathered}
use Rattle.scan.proofs.Written.{puts_none, same_space, part_on, part_full}
use Rattle.scan.proofs.AllSeams.{met_in, met_at, met_everywhere, all_listed, one_left}
use Rattle.scan.proofs.seams_in.Goals as goal

pub loop-i-init : goal.loop-i-init
unfolding gathered
loop-i-init c = (
  (puts_none _ _ _, omega arith),
  record {
    left = zero_cells (job_axes c.args.job.opened);
    within = c.no_values-values.ensures.0 _;
    room = c.no_values-values.ensures.1;
    tests = c.none_known-known.ensures;
  },
)

pub scan_vertex-met-requires-clause-vertex : goal.scan_vertex-met-requires-clause-vertex
scan_vertex-met-requires-clause-vertex c =
    let inv = c.loop-i.invariant.0 in
    (c.vertex_at-v.ensures.vertex_size, (c.table-table.ensures, omega (arith, inv.1, same_space inv.0)))

pub returns-in-None : goal.returns-in-None
unfolding space_for
returns-in-None c =
    let a = c.args in
    let s = a.job.bytes.now in
    let f = c.frame_of-frame.ensures in
    let met = met_at s c.loop-i.i a.job.opened.dimension (vertex_as a.job.n c.vertex_at-v.result) (c.vertex_at-v.ensures.by_index _ _ f) in
    let here = subst (λ fs. NoSpace a.job.n c.loop-i.buffer c.loop-i.count fs c.scan_vertex-met.new.buffer) met c.in-None.ensures.seams in
    let w = subst (λ fs. NoSpace a.job.n a.buffer.now 0 fs c.scan_vertex-met.new.buffer)
    (ap (gathered (met_in s)) f.size ∙ met_everywhere s)
    (part_full (met_in s) c.loop-i.i c.loop-i.invariant.0.0 _ c.loop-i-test.true here) in
    let e = one_left a.job.opened a.buffer.now w in
    let long = c.scan_vertex-met.auto.buffer ∙ c.loop-i.auto.buffer in
    record {
      answer = ap (λ m. answered (extent_count record { extent = Extent.TheVariants.Full; count = m / (3 * a.job.n) })) long ∙ e.answer;
      written = e.buffer;
    }

pub loop-i-preserved : goal.loop-i-preserved
loop-i-preserved c =
    let a = c.args in
    let s = a.job.bytes.now in
    let met = met_at s c.loop-i.i a.job.opened.dimension (vertex_as a.job.n c.vertex_at-v.result) (c.vertex_at-v.ensures.by_index _ _ c.frame_of-frame.ensures) in (
      part_on (met_in s) c.loop-i.i c.loop-i.invariant.0.0
          (subst (λ fs. ScannedIs a.job.n c.loop-i.buffer c.loop-i.count fs c.scan_vertex-met.new.buffer (Some c.in-Some.next)) met c.in-Some.ensures.seams),
      c.scan_vertex-met.ensures.room,
    )

pub returns : goal.returns
returns c =
    let a = c.args in
    let s = a.job.bytes.now in
    let all : c.loop-i.i ≡ box_size (low_ends s) (high_ends s) = omega (arith, c.loop-i-test.false, c.frame_of-frame.ensures.size, c.loop-i.auto.i-end) in
    let w = subst (λ fs. ScannedIs a.job.n a.buffer.now 0 fs c.loop-i.buffer (Some c.loop-i.count))
    (ap (gathered (met_in s)) all ∙ met_everywhere s) c.loop-i.invariant.0 in
    let e = all_listed a.job.opened a.buffer.now w.0 w.1 in
    record { answer = e.answer; written = e.buffer }
