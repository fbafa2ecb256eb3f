-- `lattice::moved` meets its contract. The invariant: the first a coordinates are moved, the others are as they were.
use Rattle.std.proofs.Common.{◌≡◌, take, drop, length}
use Rattle.lattice.specs.Moves.{moved_by}
use Rattle.lattice.proofs.moved.Given as goal

abbrev pub invariant-loop-a : goal.invariant-loop-a
invariant-loop-a l = record {
  moved : take l.a l.coordinates ≡ take l.a (moved_by l.fn.step l.fn.v.coordinates l.fn.mask);
  rest : drop l.a l.coordinates ≡ drop l.a l.fn.v.coordinates;
  count : length l.coordinates ≡ 4;
}
