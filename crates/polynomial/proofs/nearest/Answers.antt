-- `polynomial::nearest` meets its contract.
use Rattle.std.proofs.Common.{◌≡◌, arith}
use Rattle.std.proofs.lemmas.Int.{ints, clamps}
use mir.Syntax.{w64}
use mir.Val.{SFits}
use mir.ValLaws.{to_z-of_z}
use Rattle.exact.proofs.Bits.{back}
use Rattle.paper.specs.Limits.{coordinate_limit}
use Rattle.polynomial.proofs.nearest.Goals as goal

pub returns : goal.returns
unfolding coordinate_limit
returns c =
    let x : back c.args.x ≡ c.args.x = to_z-of_z w64 c.args.x c.ranges.x in
    let f : SFits w64 c.clamp.result = record { sfits = c.clamp.type_inv } in
    let r : back c.clamp.result ≡ c.clamp.result = to_z-of_z w64 c.clamp.result f in
    (record { size = omega (arith, ints, clamps, c.clamp.ensures.value, r) }, λ s. omega (arith, ints, clamps, c.clamp.ensures.value, x, r, s.size))
