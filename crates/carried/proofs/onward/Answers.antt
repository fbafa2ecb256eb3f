-- `carried::onward` meets its contract: the new vertex decides, and beyond the exit everything is carried on.
use mathlib.Core.Path.{◌≡◌, sym, ◌∙◌}
use native.Mathlib.Omega.{arith}
use borrow.Author.Rules.{rules}
use Rattle.paper.specs.Answers.{stop_as}
use Rattle.job.proofs.Opened.{job_axes}
use Rattle.places.specs.Held.{vertex_as}
use Rattle.table.specs.Table.{order_at}
use Rattle.sides.specs.Corners.{CornerIs}
use Rattle.step.proofs.HeldPlaces.{low_moves, corner_moves}
use Rattle.carried.specs.Carries.{new_vertex_at}
use Rattle.carried.proofs.CarriedStep.{at_edge, at_limit, exit_low, leads, carries}
use Rattle.carried.proofs.onward.Goals as goal
use Rattle.carried.proofs.onward.Goals.{After-corner_of-corner, After-new_vertex-v}

pub vertex_masks-masks-requires : goal.vertex_masks-masks-requires
vertex_masks-masks-requires c = c.requires.found.table

pub corner_of-corner-requires : goal.corner_of-corner-requires
corner_of-corner-requires c = low_moves c.requires.held

-- the corner, and the new vertex
corner-is :
    (c : After-corner_of-corner)
    → let here = c.args.here in
    CornerIs here.place.low (order_at c.args.job.n here.row) here.out c.corner_of-corner.result
corner-is c = c.corner_of-corner.ensures _ _ c.vertex_masks-masks.ensures

pub new_vertex-v-requires : goal.new_vertex-v-requires
new_vertex-v-requires c =
    let k = c.requires in
    (omega (arith, k.found.vertex, (job_axes k.held.job).high), corner_moves k.held (corner-is (goal.at.new_vertex-v-requires c).After-corner_of-corner))

vertex_is :
    (c : After-new_vertex-v)
    → let here = c.args.here in
    vertex_as c.args.job.n c.new_vertex-v.result
    ≡ new_vertex_at c.args.job.n c.corner_of-corner.result here.row here.out
vertex_is c =
    let k = c.requires in
    c.new_vertex-v.ensures _ _ k.found.table c.vertex_masks-masks.ensures k.found.vertex

pub returns-then-not-vertex_inside : goal.returns-then-not-vertex_inside
unfolding stop_as
returns-then-not-vertex_inside c =
    at_edge c.requires (corner-is (goal.at.returns-then-not-vertex_inside c).After-corner_of-corner) c.new_vertex-v.result (vertex_is (goal.at.returns-then-not-vertex_inside c).After-new_vertex-v)
    (sym c.vertex_inside.ensures ∙ c.if-not-vertex_inside.true)

pub put_values-requires : goal.put_values-requires
put_values-requires c =
    let k = c.requires in record { inside = sym c.vertex_inside.ensures ∙ c.if-not-vertex_inside.false; i_bound = (omega (arith, k.found.vertex, (job_axes k.held.job).high), k.within) }

pub returns-then-not-put_values : goal.returns-then-not-put_values
unfolding stop_as
returns-then-not-put_values c =
    at_limit c.requires (corner-is (goal.at.returns-then-not-put_values c).After-corner_of-corner) c.new_vertex-v.result (vertex_is (goal.at.returns-then-not-put_values c).After-new_vertex-v)
    (sym c.vertex_inside.ensures ∙ c.if-not-vertex_inside.false)
    (sym c.put_values.ensures.test ∙ c.if-not-put_values.true)

pub move_columns-requires : goal.move_columns-requires
move_columns-requires c =
    let low = exit_low c.requires (corner-is (goal.at.move_columns-requires c).After-corner_of-corner) c.new_vertex-v.result (vertex_is (goal.at.move_columns-requires c).After-new_vertex-v)
    (sym c.vertex_inside.ensures ∙ c.if-not-vertex_inside.false)
    c.put_values.ensures c.if-not-put_values.false c.exit-exit.ensures in
    (c.put_values.ensures.cells, omega (arith, low, c.requires.found.vertex))

pub beyond-requires : goal.beyond-requires
beyond-requires c =
    let k = c.requires in record {
      in_table = (k.found.table, c.vertex_masks-masks.ensures);
      out_le_n = (
        k.found.vertex,
        (
          exit_low k (corner-is (goal.at.beyond-requires c).After-corner_of-corner) c.new_vertex-v.result (vertex_is (goal.at.beyond-requires c).After-new_vertex-v)
              (sym c.vertex_inside.ensures ∙ c.if-not-vertex_inside.false)
              c.put_values.ensures c.if-not-put_values.false c.exit-exit.ensures,
          corner_moves k.held (corner-is (goal.at.beyond-requires c).After-corner_of-corner),
        ),
      );
    }

pub returns : goal.returns
returns c =
    let k = c.requires in
    let inside = sym c.vertex_inside.ensures ∙ c.if-not-vertex_inside.false in
    let put = c.put_values.ensures in
    let done = c.if-not-put_values.false in (
      leads k (corner-is (goal.at.returns c).After-corner_of-corner) c.new_vertex-v.result (vertex_is (goal.at.returns c).After-new_vertex-v) inside put done c.exit-exit.ensures c.beyond.ensures,
      carries k (corner-is (goal.at.returns c).After-corner_of-corner) c.new_vertex-v.result (vertex_is (goal.at.returns c).After-new_vertex-v) inside put done c.exit-exit.ensures c.beyond.ensures
          c.move_columns.ensures,
    )
