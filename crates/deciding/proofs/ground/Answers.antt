-- `deciding::ground` meets its contract: what is returned is a ground that holds and names the first vertex, and there is only one.
use Rattle.std.proofs.Common.{◌≡◌, sym, ap, ◌∙◌, lit≤, take}
use Rattle.std.specs.declared.cmp.Ordering.TheVariants.{Equal}
use Rattle.exact.specs.Sign.{nought, sign, same_sign}
use Rattle.exact.specs.Det.{determinant}
use Rattle.exact.proofs.LexSign.{same_sign_sound}
use Rattle.grounds.specs.Ground.{all_with}
use Rattle.grounds.specs.Judged.{named_as}
use Rattle.determinants.specs.Cells.{facet_columns}
use Rattle.facets.specs.Signs.{sign_as}
use Rattle.facets.proofs.SignOrder.{order_tested, sign_is, nought_order}
use Rattle.deciding.proofs.Powers.{not_zero, zero_ground, against_ground, with_ground}
use Rattle.deciding.proofs.ground.Goals as goal
use Rattle.deciding.proofs.ground.Goals.{After-eq}

-- `side` is D's sign, and the test is whether that is nought
side : (c : After-eq) → sign_as c.sign_of-side.result ≡ sign (determinant c.args.n (facet_columns c.args.n c.args.cells.now c.args.n))
side c = sign_is c.sign_of-side.result c.sign_of-side.ensures c.determinant.ensures (lit≤ tt)

tested : (c : After-eq) → c.eq.result ≡ same_sign (sign (determinant c.args.n (facet_columns c.args.n c.args.cells.now c.args.n))) nought
tested c = order_tested c.sign_of-side.result Equal c.eq.ensures (side c) nought_order

pub returns-then-eq : goal.returns-then-eq
unfolding named_as
returns-then-eq c =
    zero_ground _ _ (same_sign_sound _ _ (sym (tested (goal.at.returns-then-eq c).After-eq) ∙ c.if-eq.true))

pub first_against-requires : goal.first_against-requires
first_against-requires c =
    let at = (goal.at.first_against-requires c).After-eq in
    record { cells = c.requires; n_nonzero = not_zero _ (sym (tested at) ∙ c.if-eq.false); side_value = side at }

pub returns-in-Some : goal.returns-in-Some
unfolding named_as
returns-in-Some c = against_ground _ _ c.in-Some.ensures c.deciding_power.ensures

pub returns-in-None : goal.returns-in-None
unfolding named_as
returns-in-None c =
    ap (λ n. all_with (take n c.crossed_by.result.powers)) c.crossed_by.ensures.count
    ∙ ap all_with c.crossed_by.ensures.powers
    ∙ with_ground _ _ (not_zero _ (sym (tested (goal.at.returns-in-None c).After-eq) ∙ c.if-eq.false)) c.in-None.ensures
