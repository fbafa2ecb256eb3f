-- `deciding::is_with` meets its contract: the power that decides is below n, since D is not 0, and the sign is that of its coefficient.
use Rattle.std.proofs.Common.{arith, ap, ◌∙◌, lit≤}
use Rattle.exact.specs.Sign.{sign}
use Rattle.exact.specs.Crossed.{coefficient}
use Rattle.exact.proofs.Bits.{holds_call}
use Rattle.grounds.proofs.Deciding.{power_to_name}
use Rattle.determinants.specs.Cells.{facet_columns}
use Rattle.deciding.proofs.Powers.{signs_same}
use Rattle.deciding.proofs.is_with.Goals as goal

pub coefficient-requires-clause-out_le_n : goal.coefficient-requires-clause-out_le_n
coefficient-requires-clause-out_le_n c =
    let power = (power_to_name c.args.n (facet_columns c.args.n c.args.cells.now c.args.n) c.args.i c.requires.n_nonzero c.requires.i_lt_n).power in
    (omega arith, (c.requires.i_lt_n, omega (arith, c.deciding_power.ensures, power)))

pub returns : goal.returns
returns c =
    let cs = facet_columns c.args.n c.args.cells.now c.args.n in
    signs_same c.sign_of.result c.args.side
    (c.sign_of.ensures ∙ ap sign (holds_call c.coefficient.ensures (lit≤ tt)).is ∙ ap (λ j. sign (coefficient c.args.n cs c.args.i j)) c.deciding_power.ensures)
    c.eq.ensures
