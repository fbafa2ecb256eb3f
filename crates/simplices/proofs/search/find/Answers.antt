-- `simplices::search::find` meets its contract. The loop's invariant: no vertex of a row before `row` matches. So the loop is not left at its end:
-- some row matches (`some_match`).
use native.Mathlib.Omega.{arith}
use borrow.Author.Count.{below_none, below_more}
use Rattle.bits.proofs.EachDimension.{dimension_axes}
use Rattle.places.specs.Held.{place_as}
use Rattle.simplices.proofs.Matches.{found, some_match}
use Rattle.simplices.proofs.search.find.Goals as goal

pub rows-row-end-requires : goal.rows-row-end-requires
rows-row-end-requires c = dimension_axes c.args.n c.requires.0

pub loop-row-init : goal.loop-row-init
loop-row-init c = below_none _

pub find_out-requires : goal.find_out-requires
find_out-requires c = record { axes = dimension_axes c.args.n c.requires.0; inside = omega (arith, c.rows-row-end.ensures) }

pub returns-in-Some : goal.returns-in-Some
returns-in-Some c =
    let hit = c.find_out.ensures.found c.in-Some.out c.in-Some.is in
    found c.args.n c.loop-row.row c.in-Some.out (place_as c.args.n c.args.p)
    (record { axes = dimension_axes c.args.n c.requires.0; inside = omega (arith, c.rows-row-end.ensures) }) hit.0 hit.1

pub loop-row-preserved : goal.loop-row-preserved
loop-row-preserved c = below_more _ _ c.loop-row.invariant (c.find_out.ensures.none c.in_default.is)

pub unreachable-requires : goal.unreachable-requires
unreachable-requires c =
    some_match c.args.n c.requires.0 (place_as c.args.n c.args.p) c.requires.1
    (λ r l k u. c.loop-row.invariant r (omega (arith, c.rows-row-end.ensures)) k u)
