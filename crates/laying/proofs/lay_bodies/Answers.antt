-- `laying::lay_bodies` meets its contract: after k turns the first k bodies are laid.
use Prim.Native.Nat.{◌+◌}
use native.Mathlib.Omega.{arith}
use mathlib.Core.Path.{◌≡◌, ap}
use lib.ListN.{length}
use Rattle.assembly.specs.Assembled.{bodies_of}
use Rattle.laying.specs.Laid.{body_at}
use Rattle.laying.proofs.Behind.{laid_none, laid_as, laid_long, body_more, body_room}
use Rattle.laying.proofs.BodyRead.{body_read}
use Rattle.laying.proofs.lay_bodies.Goals as goal

pub loop-k-init : goal.loop-k-init
unfolding bodies_of
loop-k-init c = (omega arith, laid_none _ _)

pub lay_body-next-requires : goal.lay_body-next-requires
lay_body-next-requires c =
    let f = body_at c.args.bodies in
    let k = c.loop-k.k in
    let read = ap length (body_read c.args.bodies k) in
    let laid = c.loop-k.invariant.1 in
    omega (arith, c.requires.1, laid.position, laid_long laid, read, body_room f k (c.args.n + 1) c.loop-k-test.true)

pub loop-k-preserved : goal.loop-k-preserved
loop-k-preserved c =
    let bodies = c.args.bodies in
    let k = c.loop-k.k in
    (omega (arith, c.loop-k-test.true), body_more (body_at bodies) k (body_read bodies k) c.loop-k.invariant.1 c.lay_body-next.ensures)

pub shape_of-buffer : goal.shape_of-buffer
shape_of-buffer c = laid_long c.loop-k.invariant.1

pub returns : goal.returns
returns c =
    let all : c.loop-k.k ≡ c.args.n + 1 = omega (arith, c.loop-k.invariant.0, c.loop-k-test.false) in
    laid_as (ap (bodies_of (body_at c.args.bodies) 0) all) c.loop-k.invariant.1
