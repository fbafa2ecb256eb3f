-- `places::read_masks` meets its contract. The invariant: the first k masks are read, the others are 0.
use Rattle.std.proofs.Common.{ℕ, ◌*◌, ◌≤◌, ◌<◌, ◌≡◌, take, map, length, get_or}
use Rattle.exact.specs.Crossed.{count_from}
use Rattle.paper.specs.Bytes.{byte}
use Rattle.places.proofs.read_masks.Given as goal

abbrev pub invariant-loop-k : goal.invariant-loop-k
invariant-loop-k l = record {
  read : take l.k l.masks ≡ map (byte l.p) (count_from (2 * l.n) l.k);
  small : (k : ℕ) → get_or l.masks k 0 < 256;
  count : length l.masks ≡ 3;
  rest : (k : ℕ) → l.k ≤ k → get_or l.masks k 0 ≡ 0;
}
