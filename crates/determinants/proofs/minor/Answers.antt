-- `determinants::minor` meets its contract: the rows and vertices that are left are those of the definition, and in each dimension the leaf called
-- is the determinant of them.
use native.Mathlib.Omega.{arith}
use Rattle.determinants.proofs.Entries.{cells_most, cells_four, held_two, held_three}
use Rattle.determinants.proofs.FacetMinors.{given_one, given_two, given_three}
use Rattle.determinants.proofs.minor.Goals as goal

pub skip-a-requires : goal.skip-a-requires
skip-a-requires c = omega (arith, c.skip.ensures.1)

pub entry-requires : goal.entry-requires
entry-requires c =
    record { cells_within = cells_most c.requires.cells; row_bound = (omega (arith, c.skip-r.ensures.1), omega (arith, c.skip.ensures.1, c.skip-a.ensures.1)) }

pub returns-then-n-eq2 : goal.returns-then-n-eq2
returns-then-n-eq2 c =
    given_one (c.requires.cells, c.requires.out_le_n) c.skip-r.ensures.0 c.skip.ensures.0 c.skip-a.ensures.0 c.if-n-eq2.true c.entry.ensures

pub skip-b-requires : goal.skip-b-requires
skip-b-requires c = omega (arith, c.skip-2.ensures.1)

pub two_rows-requires : goal.two_rows-requires
two_rows-requires c = record {
  cells_within = cells_most c.requires.cells;
  held = held_two (omega (arith, c.skip-r.ensures.1)) (omega (arith, c.skip-s.ensures.1))
      (omega (arith, c.skip.ensures.1, c.skip-a.ensures.1)) (omega (arith, c.skip-2.ensures.1, c.skip-b.ensures.1));
}

pub returns-then-n-eq3 : goal.returns-then-n-eq3
returns-then-n-eq3 c =
    given_two (c.requires.cells, c.requires.out_le_n) c.skip-r.ensures.0 c.skip.ensures.0 c.skip-a.ensures.0
    c.skip-s.ensures.0 c.skip-2.ensures.0 c.skip-b.ensures.0 c.if-n-eq3.true c.two_rows.ensures

pub skip-c-requires : goal.skip-c-requires
skip-c-requires c = omega (arith, c.skip-3.ensures.1)

pub three_rows-requires : goal.three_rows-requires
three_rows-requires c = record {
  cells_within = cells_four c.requires.cells (omega (arith, c.requires.cells.axes.low, c.requires.cells.axes.high));
  held = held_three (omega (arith, c.skip-r.ensures.1)) (omega (arith, c.skip-s.ensures.1)) (omega (arith, c.skip-t.ensures.1))
      (omega (arith, c.skip.ensures.1, c.skip-a.ensures.1)) (omega (arith, c.skip-2.ensures.1, c.skip-b.ensures.1))
      (omega (arith, c.skip-3.ensures.1, c.skip-c.ensures.1));
}

pub returns : goal.returns
returns c =
    given_three (c.requires.cells, c.requires.out_le_n) c.skip-r.ensures.0 c.skip.ensures.0 c.skip-a.ensures.0
    c.skip-s.ensures.0 c.skip-2.ensures.0 c.skip-b.ensures.0 c.skip-t.ensures.0 c.skip-3.ensures.0 c.skip-c.ensures.0
    c.if-n-eq2.false c.if-n-eq3.false c.three_rows.ensures
