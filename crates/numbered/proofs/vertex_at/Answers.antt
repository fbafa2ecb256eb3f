-- `numbered::vertex_at` meets its contract: one axis more at each turn, and then the last.
use Rattle.std.proofs.Common.{refl, arith}
use Rattle.places.specs.Held.{vertex_as}
use Rattle.numbered.proofs.VertexNumbers.{none_stepped, coordinate_fits, axis_more, last_few, last_fits, last_axis, all_stepped}
use Rattle.numbered.proofs.vertex_at.Goals as goal

pub loop-a-init : goal.loop-a-init
loop-a-init c = none_stepped c.requires.0 c.requires.1

pub overflow_add-coordinates : goal.overflow_add-coordinates
overflow_add-coordinates c = coordinate_fits c.loop-a.invariant (omega arith) c.requires.0.count

pub loop-a-preserved : goal.loop-a-preserved
loop-a-preserved c = axis_more c.loop-a.invariant (omega arith) c.requires.0.count

pub overflow_cast-coordinates-2 : goal.overflow_cast-coordinates-2
overflow_cast-coordinates-2 c = record { sfits = omega (arith, last_few (omega arith) c.loop-a.invariant c.requires.0.count) }

pub overflow_add-coordinates-2 : goal.overflow_add-coordinates-2
overflow_add-coordinates-2 c = last_fits (omega arith) c.loop-a.invariant c.requires.0.count

pub returns : goal.returns
unfolding vertex_as
returns c =
    let all = last_axis (omega arith) c.loop-a.invariant c.requires.0.count in
    record { vertex_size = record { count = all.count; each = all.near }; by_index = all_stepped refl all }
