-- `places::chain_ok` meets its contract. The invariant: the test of the whole chain is the test of the masks that are left, behind the mask `before`.
use Rattle.std.proofs.Common.{◌<◌, ◌^◌, ◌≡◌, drop}
use Rattle.curves.specs.Grid.{chain}
use Rattle.places.proofs.chain_ok.Given as goal

abbrev pub invariant-loop-byte : goal.invariant-loop-byte
invariant-loop-byte l = record {
  low : l.before < 2 ^ l.n;
  rest : chain l.n 0 l.bytes ≡ chain l.n l.before (drop l.byte-index l.bytes);
}
