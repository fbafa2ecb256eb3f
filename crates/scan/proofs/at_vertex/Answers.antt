-- `scan::at_vertex` meets its contract: each chain of the table is looked at.
use Rattle.std.proofs.Common.{◌≡◌, ◌+◌, ◌<◌, ◌≤◌, [], ◌∷◌, Some, ap, subst, ◌∙◌, arith, rules}
use Rattle.curves.specs.Box.{keep}
use Rattle.places.specs.Held.{vertex_as, facet_as}
use Rattle.job.proofs.Opened.{job_axes}
use Rattle.least.specs.Search.{least_in}
use Rattle.scan.specs.Scanned.{NoSpace, ScannedIs}
use Rattle.chains.proofs.ChainTable.{chain_count, chains_counted}
use Rattle.scan.proofs.Gathered.{gathered}
use Rattle.scan.proofs.Written.{puts_none, same_space, part_on, part_full}
use Rattle.scan.proofs.AtVertex.{met_at, met_all, chains_end, part_long, entry_inside, entry_is, on_cube, met_here}
use Rattle.scan.proofs.at_vertex.Goals as goal
use Rattle.scan.proofs.at_vertex.Goals.{After-at_facet}

pub overflow_add-chain-items : goal.overflow_add-chain-items
overflow_add-chain-items c =
    let a = job_axes c.args.job.opened in
    omega (arith, c.first-begin.ensures, c.count.ensures, chains_counted _ a, chains_end _ a)

pub offset_bounds-table-begin : goal.offset_bounds-table-begin
offset_bounds-table-begin c =
    let a = job_axes c.args.job.opened in
    omega (arith, c.first-begin.ensures, chains_end _ a)

pub slice_bounds-chain-items-end : goal.slice_bounds-chain-items-end
slice_bounds-chain-items-end c =
    let a = job_axes c.args.job.opened in
    let end : c.first-begin.result + c.count.result ≤ 75 = omega (arith, c.first-begin.ensures, c.count.ensures, chains_counted _ a, chains_end _ a) in
    search rules

pub loop-chain-init : goal.loop-chain-init
unfolding gathered
loop-chain-init c = (puts_none _ _ _, c.requires.1.1)

pub at_facet-requires : goal.at_facet-requires
at_facet-requires c =
    let a = job_axes c.args.job.opened in
    let inside = entry_inside _ _ _ a c.requires.1.0 c.first-begin.ensures c.count.ensures c.loop-chain-test.true in
    let is = entry_is _ _ _ a c.requires.1.0 c.first-begin.ensures c.count.ensures c.loop-chain-test.true in
    (on_cube c.requires.0 inside is c.place_on-p.ensures, omega (arith, c.loop-chain.invariant.1, same_space c.loop-chain.invariant.0))

-- what at_facet answers is of what is met at this chain
module _ (c : After-at_facet) where
  met : keep (least_in c.args.job.bytes.now) (facet_as c.args.job.n c.place_on-p.result ∷ [])
      ≡ met_at (least_in c.args.job.bytes.now) c.args.job.n (vertex_as c.args.job.n c.args.v) c.loop-chain.chain-index
  met =
      let a = job_axes c.args.job.opened in
      let inside = entry_inside _ _ _ a c.requires.1.0 c.first-begin.ensures c.count.ensures c.loop-chain-test.true in
      let is = entry_is _ _ _ a c.requires.1.0 c.first-begin.ensures c.count.ensures c.loop-chain-test.true in
      met_here c.requires.0 inside is c.place_on-p.ensures (least_in c.args.job.bytes.now)

  inside : c.loop-chain.chain-index < chain_count c.args.job.n
  inside = entry_inside _ _ _ (job_axes c.args.job.opened) c.requires.1.0 c.first-begin.ensures c.count.ensures c.loop-chain-test.true

pub returns-in_err-found : goal.returns-in_err-found
returns-in_err-found c =
    let a = c.args in
    let here = (goal.at.returns-in_err-found c).After-at_facet in
    let F = met_at (least_in a.job.bytes.now) a.job.n (vertex_as a.job.n a.v) in
    rw (c.from_residual.ensures)
    (subst (λ fs. NoSpace a.job.n a.buffer.now a.count fs c.at_facet.new.buffer)
    (met_all (least_in a.job.bytes.now) a.job.n (vertex_as a.job.n a.v) (job_axes a.job.opened))
    (part_full F c.loop-chain.chain-index c.loop-chain.invariant.0 (chain_count a.job.n) (inside here)
    (subst (λ fs. NoSpace a.job.n c.loop-chain.buffer c.loop-chain.found fs c.at_facet.new.buffer) (met here) c.in_err-found.ensures)))

pub loop-chain-preserved : goal.loop-chain-preserved
loop-chain-preserved c =
    let a = c.args in
    let here = (goal.at.loop-chain-preserved c).After-at_facet in
    let F = met_at (least_in a.job.bytes.now) a.job.n (vertex_as a.job.n a.v) in
    part_on F c.loop-chain.chain-index c.loop-chain.invariant.0
    (subst (λ fs. ScannedIs a.job.n c.loop-chain.buffer c.loop-chain.found fs c.at_facet.new.buffer (Some c.in_ok-found.found)) (met here) c.in_ok-found.ensures)

pub returns : goal.returns
returns c =
    let a = c.args in
    let axes = job_axes a.job.opened in
    let F = met_at (least_in a.job.bytes.now) a.job.n (vertex_as a.job.n a.v) in
    let long = part_long _ _ _ axes c.requires.1.0 c.first-begin.ensures c.count.ensures in
    let all : c.loop-chain.chain-index ≡ chain_count a.job.n = omega (arith, long, c.loop-chain-test.false, c.loop-chain.auto.chain-index-end) in
    subst (λ fs. ScannedIs a.job.n a.buffer.now a.count fs c.loop-chain.buffer (Some c.loop-chain.found))
    (ap (gathered F) all ∙ met_all (least_in a.job.bytes.now) a.job.n (vertex_as a.job.n a.v) axes) c.loop-chain.invariant
