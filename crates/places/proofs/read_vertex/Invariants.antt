-- `places::read_vertex` meets its contract. The invariant: the first a coordinates are read, the others are 0.
use Rattle.std.proofs.Common.{ℕ, ◌*◌, ◌≤◌, ◌≡◌, take, map, length, get_or}
use Rattle.exact.specs.Int.{0ℤ}
use Rattle.exact.specs.Size.{Size}
use Rattle.exact.specs.Crossed.{count_from}
use Rattle.paper.specs.Bytes.{signed_word}
use Rattle.places.proofs.read_vertex.Given as goal

abbrev pub invariant-loop-a : goal.invariant-loop-a
invariant-loop-a l = record {
  read : take l.a l.coordinates ≡ map (λ a. signed_word l.p (2 * a)) (count_from 0 l.a);
  size : (a : ℕ) → Size 32768 (get_or l.coordinates a 0ℤ);
  count : length l.coordinates ≡ 4;
  rest : (a : ℕ) → l.a ≤ a → get_or l.coordinates a 0ℤ ≡ 0ℤ;
}
