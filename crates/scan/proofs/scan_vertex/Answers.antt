-- `scan::scan_vertex` meets its contract: the cube is filled, and its facets are looked at, unless a polynomial has one side only.
use mathlib.Core.Path.{sym, subst}
use lib.Dec.{lit≤}
use Rattle.job.proofs.Opened.{job_axes}
use Rattle.lattice.specs.Moves.{move_limit}
use Rattle.lattice.proofs.Moves.{vertex_wider}
use Rattle.scan.specs.Scanned.{Puts}
use Rattle.scan.proofs.Written.{puts_none}
use Rattle.scan.proofs.AtVertex.{cube_at, nothing_met}
use Rattle.scan.proofs.scan_vertex.Goals as goal

pub fill-requires : goal.fill-requires
unfolding move_limit
fill-requires c =
    record { sizes = (vertex_wider c.requires.vertex.0 (lit≤ tt), c.requires.cube_room.left); within = (c.requires.cube_room.within, (c.requires.cube_room.room, c.requires.cube_room.tests)) }

pub one_sided-requires : goal.one_sided-requires
one_sided-requires c =
    let cube = c.fill.ensures in
    (job_axes c.args.job.opened, (cube.within, (cube.room, cube.tests)))

pub returns-then-one_sided : goal.returns-then-one_sided
returns-then-one_sided c =
    let a = c.args in
    let cube = c.fill.ensures in record {
      seams = (
        subst (λ fs. Puts a.job.n a.buffer.now a.count fs a.buffer.now a.count)
            (sym (nothing_met (cube_at c.args.job.opened c.requires.vertex.0 cube) (c.one_sided.ensures c.if-one_sided.true))) (puts_none _ _ _),
        c.requires.vertex.1.1,
      );
      room = record { left = cube.left; within = cube.within; room = cube.room; tests = cube.tests };
    }

pub at_vertex-requires : goal.at_vertex-requires
at_vertex-requires c =
    (cube_at c.args.job.opened c.requires.vertex.0 c.fill.ensures, (c.requires.vertex.1.0, c.requires.vertex.1.1))

pub returns : goal.returns
returns c =
    let cube = c.fill.ensures in
    record { seams = c.at_vertex.ensures; room = record { left = cube.left; within = cube.within; room = cube.room; tests = cube.tests } }
