-- `carried::Entered::beyond` meets its contract, part by part.
use Rattle.std.proofs.Common.{refl, arith}
use Rattle.exact.specs.Compared.{plus_across}
use Rattle.carried.proofs.Entered.beyond.Goals as goal

pub overflow_add-odd : goal.overflow_add-odd
overflow_add-odd c = omega (arith, c.requires.in_table.0.axes.high, c.requires.out_le_n.0, c.requires.out_le_n.1.0)

pub next-requires : goal.next-requires
next-requires c = (c.requires.in_table.0.axes.high, c.requires.out_le_n.1)

pub returns : goal.returns
unfolding plus_across
returns c = record {
  is_place = c.next.ensures _ c.requires.in_table.0 c.requires.in_table.1;
  is_row = c.neighbour.ensures;
  is_out = c.new_index.ensures;
  is_plus = refl;
}
