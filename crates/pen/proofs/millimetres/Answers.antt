-- `pen::millimetres` meets its contract, coordinate by coordinate.
use Rattle.std.proofs.Common.{arith, [], ◌∷◌, take, map, ap, ◌∙◌, lit≤}
use Rattle.exact.proofs.Bits.{back_is}
use Rattle.paper.specs.Pen.{millimetre, millimetres_as}
use Rattle.pen.proofs.PointMoves.{first_three}
use Rattle.pen.proofs.millimetres.Goals as goal

-- each coordinate is handed over as its bits
pub returns : goal.returns
unfolding millimetres_as
returns c =
    let each = c.requires.each in
    (λ i. (c.millimetre.ensures ∙ ap millimetre (back_is (each 0) (lit≤ tt))) i
    ∷ (c.millimetre-2.ensures ∙ ap millimetre (back_is (each 1) (lit≤ tt))) i
    ∷ (c.millimetre-3.ensures ∙ ap millimetre (back_is (each 2) (lit≤ tt))) i
    ∷ [])
    ∙ ap (map millimetre) (first_three c.args.p.steps (omega (arith, c.well_formed)))
