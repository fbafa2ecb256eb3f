-- `sides::facet::added_axis` meets its contract: two vertices in a row differ by one axis of the order, the lowest of that mask.
use mathlib.Core.Path.{◌≡◌, sym, ap, ◌∙◌}
use mathlib.Core.List.{[]}
use Prim.Native.Nat.{◌+◌, ◌^◌}
use native.Mathlib.Omega.{arith}
use native.Mathlib.Numerals.{add-one}
use Rattle.curves.specs.Grid.{axes}
use Rattle.curves.proofs.MaskAxes.{axes_power}
use Rattle.table.specs.Table.{order_at, axis_at, vertex_mask}
use Rattle.table.proofs.TableRows.{row_length, axis_under_lem}
use Rattle.table.proofs.VertexMasks.{vertex_mask_step}
use Rattle.sides.proofs.facet.added_axis.Goals as goal
use Rattle.sides.proofs.facet.added_axis.Goals.{After-vertex_mask-2}

-- the upper vertex has the mask of the lower and the axis between
upper_is :
    (c : After-vertex_mask-2)
    → c.vertex_mask.result
    ≡ c.vertex_mask-2.result + 2 ^ axis_at c.args.n c.args.row c.args.k
unfolding axis_at
upper_is c =
    c.vertex_mask.ensures
    ∙ ap (vertex_mask (order_at c.args.n c.args.row)) (add-one c.args.k)
    ∙ vertex_mask_step (order_at c.args.n c.args.row) c.args.k
    (omega (arith, row_length c.args.n c.args.row c.requires.0))
    ∙ ap (λ x. x + 2 ^ axis_at c.args.n c.args.row c.args.k) (sym c.vertex_mask-2.ensures)

pub overflow_sub-vertex_mask : goal.overflow_sub-vertex_mask
overflow_sub-vertex_mask c = omega (arith, upper_is (goal.at.overflow_sub-vertex_mask c).After-vertex_mask-2)

pub returns : goal.returns
returns c =
    let n = c.args.n in
    let a = axis_at n c.args.row c.args.k in
    c.axis_of.ensures n a [] (omega (arith, c.requires.0.axes.high))
    (ap (axes n) (omega (arith, upper_is (goal.at.returns c).After-vertex_mask-2))
    ∙ axes_power n a (axis_under_lem n c.args.row c.args.k c.requires.0 c.requires.1))
