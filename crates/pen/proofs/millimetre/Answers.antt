-- `pen::millimetre` meets its contract: the cast loses nothing, and the quotient is not rounded.
use mathlib.Core.Path.{◌≡◌, refl, sym, ◌∙◌, subst}
use lib.Count.{count_trailing_zeros}
use lib.Dec.{T}
use lib.IntN.{pos}
use lib.Ieee.{binary64, in_float, div, of_int, fin, of_bits, of_fields, odd}
use mathlib.Core.Bool.{false}
use mir.Syntax.{w64}
use mir.ValLaws.{to_z-of_z}
use Rattle.paper.proofs.Millimetre.{cast_exact, cast_divided}
use Rattle.pen.proofs.millimetre.Goals as goal

-- the literal 1024.0
literal-1024 : of_bits binary64 4652218415073722368 ≡ fin false 1 (pos 10)
unfolding of_bits of_fields odd count_trailing_zeros
literal-1024 = refl

pub int_to_float-result : goal.int_to_float-result
int_to_float-result c =
    subst (λ z. T (in_float binary64 z)) (sym (to_z-of_z w64 c.args.steps c.ranges.steps))
    (cast_exact c.args.steps c.requires.size)

pub returns : goal.returns
returns c =
    (λ i. div binary64 (of_int binary64 (to_z-of_z w64 c.args.steps c.ranges.steps i)) (literal-1024 i))
    ∙ cast_divided c.args.steps c.requires.size
