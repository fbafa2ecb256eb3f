-- `lattice::moved` meets its contract: one coordinate more at each turn.
use Rattle.std.proofs.Common.{◌≡◌, arith, length, ◌∙◌, sym, length-set}
use Rattle.lattice.proofs.Moves.{sum_fits, moved_more, rest_more, all_moved}
use Rattle.lattice.proofs.moved.Goals as goal

pub overflow_add-coordinates : goal.overflow_add-coordinates
overflow_add-coordinates c = sum_fits c.args.v.coordinates c.loop-a.coordinates c.args.step c.args.mask c.loop-a.a c.requires.0.each c.requires.1 c.loop-a.invariant.rest

pub loop-a-preserved : goal.loop-a-preserved
loop-a-preserved c =
    let inv = c.loop-a.invariant in
    let count : length c.loop-a.coordinates ≡ length c.args.v.coordinates = inv.count ∙ sym c.requires.0.count in
    record {
      moved = moved_more c.args.v.coordinates c.loop-a.coordinates c.args.step c.args.mask c.loop-a.a c.requires.0.each c.requires.1 inv.rest (omega arith) count inv.moved;
      rest = rest_more c.args.v.coordinates c.loop-a.coordinates c.args.step c.args.mask c.loop-a.a c.requires.0.each c.requires.1 inv.rest (omega arith) count;
      count = simp length-set inv.count;
    }

pub returns : goal.returns
returns c =
    let all : c.loop-a.a ≡ 4 = omega arith in
    all_moved c.loop-a.coordinates c.args.v.coordinates c.args.step c.args.mask c.loop-a.invariant.count c.requires.0.count c.requires.1 (rw all at c.loop-a.invariant.moved)
