-- `sides::facet::side` meets its contract, by the rule of flat and of bent facets (`side_is`).
use mathlib.Core.Path.{◌≡◌, sym, ap, ap₂, ◌∙◌}
use mathlib.Core.Bool.{false}
use Prim.Native.Nat.{suc, ◌-◌}
use native.Mathlib.Omega.{arith}
use mir.Val.{bool_byte}
use lib.Dec.{eqb, leb}
use lib.Count.{ones}
use lib.ListN.{get_or}
use Rattle.sides.proofs.FacetMasks.{last_mask}
use Rattle.sides.proofs.FacetSides.{flat_at, flat_side, bent_side, bent_low, bent_high}
use Rattle.sides.proofs.facet.side.Goals as goal
use Rattle.sides.proofs.facet.side.Goals.{After-is_flat, Else-is_flat}

-- what the call of `is_flat` says of the facet
is-flat : (c : After-is_flat) → c.is_flat.result ≡ flat_at c.args.n c.args.row c.args.out
is-flat c =
    c.is_flat.ensures
    ∙ ap (λ m. eqb (suc (ones m)) c.args.n)
    (ap (λ ms. get_or ms (c.args.n - 2) 0) c.facet_masks.ensures
    ∙ last_mask c.args.n c.args.row c.args.out c.requires.0 c.requires.1 (omega (arith, c.requires.0.axes.low)))

bent : (c : Else-is_flat) → flat_at c.args.n c.args.row c.args.out ≡ false
bent c = sym (is-flat c.before) ∙ c.if-is_flat.false

pub overflow_sub-out : goal.overflow_sub-out
overflow_sub-out c = bent_low c.requires (bent (goal.at.overflow_sub-out c).Else-is_flat)

pub added_axis-behind-requires : goal.added_axis-behind-requires
added_axis-behind-requires c =
    (c.requires.0, bent_high c.requires (bent (goal.at.added_axis-behind-requires c).Else-is_flat))

pub returns-then-is_flat : goal.returns-then-is_flat
returns-then-is_flat c =
    c.from.ensures ∙ flat_side c.requires (sym (is-flat (goal.at.returns-then-is_flat c).After-is_flat) ∙ c.if-is_flat.true)

pub returns-else-is_flat : goal.returns-else-is_flat
returns-else-is_flat c =
    c.from-else-is_flat.ensures
    ∙ ap bool_byte (ap₂ leb c.added_axis-behind.ensures c.added_axis-before.ensures)
    ∙ bent_side c.requires (bent (goal.at.returns-else-is_flat c).Else-is_flat)
