-- `facets::crossed` meets its contract. At the head of the walk over the vertices every vertex before i was with D, so the answer is what the
-- vertices from i on say; at the head of the walk over the powers every coefficient before j was 0, so the vertex's sign is that of the rest.
use mathlib.Core.Path.{◌≡◌, refl, sym, ap, ◌∙◌}
use mathlib.Core.Bool.{false, not}
use native.Mathlib.Omega.{arith}
use borrow.Author.Tests.{eq-eqb, ne_eqb}
use lib.Dec.{lit≤}
use Rattle.std.specs.declared.cmp.Ordering.TheVariants.{Equal}
use Rattle.exact.specs.Sign.{nought, same_sign}
use Rattle.determinants.specs.Cells.{facet_columns}
use Rattle.facets.proofs.SignOrder.{order_tested, order_differs, sign_is, nought_order}
use Rattle.facets.proofs.CrossedWalk.{D, crossed_zero, crossed_begin, left_begin, left_passed}
use Rattle.facets.proofs.CrossedWalk.{vertices_none, vertex_with, vertex_against_lem, vertex_without}
use Rattle.facets.proofs.crossed.Goals as goal
use Rattle.facets.proofs.crossed.Goals.{Else-eq}
use Rattle.facets.proofs.crossed.Goals.{else-vertices-test, then-vertices-test+then-loop-j-test+else-eq-2+then-ne, then-vertices-test+else-loop-j-test}

-- the sign of D is not nought
determined : (c : Else-eq) → same_sign (D c.args.n (facet_columns c.args.n c.args.cells.now c.args.out)) nought ≡ false
determined c =
    let side = sign_is c.sign_of-side.result c.sign_of-side.ensures c.determinant.ensures (lit≤ tt) in
    sym (order_tested c.sign_of-side.result Equal c.eq.ensures side nought_order) ∙ c.if-eq.false

pub returns-then-eq : goal.returns-then-eq
returns-then-eq c =
    let side = sign_is c.sign_of-side.result c.sign_of-side.ensures c.determinant.ensures (lit≤ tt) in
    crossed_zero c.args.n (facet_columns c.args.n c.args.cells.now c.args.out)
    (sym (order_tested c.sign_of-side.result Equal c.eq.ensures side nought_order) ∙ c.if-eq.true)

pub vertices-init : goal.vertices-init
vertices-init c =
    (refl, crossed_begin c.args.n (facet_columns c.args.n c.args.cells.now c.args.out) (determined (goal.at.vertices-init c).Else-eq))

pub loop-j-init : goal.loop-j-init
loop-j-init c = (c.vertices.invariant.0, left_begin c.args.n (facet_columns c.args.n c.args.cells.now c.args.out) c.vertices.i)

pub vertices-preserved : goal.vertices-preserved
vertices-preserved c =
    let found = sign_is c.sign_of-found.result c.sign_of-found.ensures c.coefficient.ensures (lit≤ tt) in
    let side = sign_is c.sign_of-side.result c.sign_of-side.ensures c.determinant.ensures (lit≤ tt) in (
      omega arith,
      c.vertices.invariant.1
          ∙ vertex_with c.args.n (facet_columns c.args.n c.args.cells.now c.args.out) c.vertices.i c.loop-j.j c.vertices-test.true c.loop-j-test.true
          c.loop-j.invariant.1 (determined (goal.at.vertices-preserved c).Else-eq)
          (sym (order_tested c.sign_of-found.result c.sign_of-side.result c.eq-in-loop-j.ensures found side) ∙ c.if-eq-2.true),
    )

pub loop-j-preserved : goal.loop-j-preserved
loop-j-preserved c =
    let found = sign_is c.sign_of-found.result c.sign_of-found.ensures c.coefficient.ensures (lit≤ tt) in (
      c.loop-j.invariant.0,
      c.loop-j.invariant.1
          ∙ left_passed c.args.n (facet_columns c.args.n c.args.cells.now c.args.out) c.vertices.i c.loop-j.j c.loop-j-test.true
          (order_differs c.sign_of-found.result Equal c.ne.ensures found nought_order ∙ ap not c.if-ne.false),
    )

pub returns : goal.returns
returns c =
    let cs = facet_columns c.args.n c.args.cells.now c.args.out in
    let i = c.vertices.i in
    elim c.vertices-test.branch [
      | else-vertices-test w ↦
          eq-eqb c.vertices-test.with c.args.n (omega (arith, w.with-is, w.vertices-test.false, c.vertices.invariant.0))
          ∙ sym (c.vertices.invariant.1 ∙ vertices_none c.args.n cs i w.vertices-test.false)
      | then-vertices-test+then-loop-j-test+else-eq-2+then-ne w ↦
          let found = sign_is w.sign_of-found.result w.sign_of-found.ensures w.coefficient.ensures (lit≤ tt) in
          let side = sign_is c.sign_of-side.result c.sign_of-side.ensures c.determinant.ensures (lit≤ tt) in
          ne_eqb c.vertices-test.with c.args.n (λ e. omega (arith, e, w.with-is, w.loop-j.invariant.0, w.vertices-test.true))
          ∙ sym (c.vertices.invariant.1
          ∙ vertex_against_lem c.args.n cs i w.loop-j.j w.vertices-test.true w.loop-j-test.true w.loop-j.invariant.1
          (order_differs w.sign_of-found.result Equal w.ne.ensures found nought_order ∙ ap not w.if-ne.true)
          (sym (order_tested w.sign_of-found.result c.sign_of-side.result w.eq-in-loop-j.ensures found side) ∙ w.if-eq-2.false))
      | then-vertices-test+else-loop-j-test w ↦
          ne_eqb c.vertices-test.with c.args.n (λ e. omega (arith, e, w.with-is, w.loop-j.invariant.0, w.vertices-test.true))
          ∙ sym (c.vertices.invariant.1
          ∙ vertex_without c.args.n cs i w.loop-j.j w.vertices-test.true w.loop-j-test.false w.loop-j.invariant.1
          (determined (goal.at.returns c).Else-eq))
    ]
