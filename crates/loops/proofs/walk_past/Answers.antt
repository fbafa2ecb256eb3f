-- `loops::walk_past` meets its contract: each turn counts, and the last one tells.
use Rattle.std.proofs.Common.{Err, sym, ap, subst, ◌∙◌, arith}
use Rattle.places.specs.Held.{facet_as, place_as}
use Rattle.ahead.specs.Visited.{GoesOn, VisitedIs}
use Rattle.loops.specs.Past.{flips, beside}
use Rattle.loops.proofs.Passing.{passing_begins, passing_same, passing_over, passing_on, fewer_left, flips_is}
use Rattle.loops.proofs.walk_past.Goals as goal

pub loop-past-init : goal.loop-past-init
loop-past-init c = (passing_begins c.requires.carries.held c.args.past (grind arith), c.requires.carries)

pub returns-then-same_facet : goal.returns-then-same_facet
returns-then-same_facet c = passing_same c.loop-past.invariant.0 c.same_facet.ensures c.if-same_facet.true

pub returns-then-odd : goal.returns-then-odd
unfolding place_as facet_as beside
returns-then-odd c =
    let a = c.args in
    let x = c.loop-past.here.place in
    let over = subst (λ n. VisitedIs a.job.bytes.now n (place_as n a.start.place) (place_as n x) (Err c.in-Err.field-0) c.look_ahead.new.cells)
    c.requires.dimension c.in-Err.ensures in
    let count = flips_is c.edge_ahead-odd.result c.loop-past.odd ∙ ap (λ b. flips b c.loop-past.odd) c.edge_ahead-odd.ensures in
    ap beside (sym c.if-odd.true ∙ count) ∙ passing_over c.loop-past.invariant.0 c.same_facet.ensures c.if-same_facet.false over

pub returns-else-odd : goal.returns-else-odd
unfolding place_as facet_as beside
returns-else-odd c =
    let a = c.args in
    let x = c.loop-past.here.place in
    let over = subst (λ n. VisitedIs a.job.bytes.now n (place_as n a.start.place) (place_as n x) (Err c.in-Err.field-0) c.look_ahead.new.cells)
    c.requires.dimension c.in-Err.ensures in
    let count = flips_is c.edge_ahead-odd.result c.loop-past.odd ∙ ap (λ b. flips b c.loop-past.odd) c.edge_ahead-odd.ensures in
    ap beside (sym c.if-odd.false ∙ count) ∙ passing_over c.loop-past.invariant.0 c.same_facet.ensures c.if-same_facet.false over

pub loop-past-smaller : goal.loop-past-smaller
loop-past-smaller c =
    let a = c.args in
    let on = subst (λ n. GoesOn a.job.bytes.now n (place_as n a.start.place) (place_as n c.loop-past.here.place) c.in-Ok.next c.look_ahead.new.cells)
    c.requires.dimension c.in-Ok.ensures in
    fewer_left c.loop-past.invariant.0 c.same_facet.ensures c.if-same_facet.false on

pub loop-past-preserved : goal.loop-past-preserved
unfolding place_as facet_as
loop-past-preserved c =
    let a = c.args in
    let on = subst (λ n. GoesOn a.job.bytes.now n (place_as n a.start.place) (place_as n c.loop-past.here.place) c.in-Ok.next c.look_ahead.new.cells)
    c.requires.dimension c.in-Ok.ensures in
    let count = flips_is c.edge_ahead-odd.result c.loop-past.odd ∙ ap (λ b. flips b c.loop-past.odd) c.edge_ahead-odd.ensures in
    (passing_on c.loop-past.invariant.0 c.same_facet.ensures c.if-same_facet.false on count, on.carries)
