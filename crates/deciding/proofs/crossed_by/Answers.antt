-- `deciding::crossed_by` meets its contract. The invariant: the powers of the vertices before i are put in, and from i on all is 0.
use Rattle.std.proofs.Common.{◌≡◌, ◌≢◌, ◌+◌, ◌<◌, length, arith, ap, ◌∙◌, get_or-set_other, get_or-set_same, length-set, below_more, refl}
use Rattle.grounds.specs.Ground.{deciding_power}
use Rattle.determinants.specs.Cells.{facet_columns}
use Rattle.deciding.proofs.Powers.{zeros, taken}
use Rattle.deciding.proofs.crossed_by.Goals as goal

pub loop-i-init : goal.loop-i-init
loop-i-init c = (refl, λ k h. absurd (omega (arith, h)), λ k h. zeros 4 k)

pub loop-i-preserved : goal.loop-i-preserved
loop-i-preserved c = (
  length-set _ _ _ ∙ c.loop-i.invariant.0,
  below_more _ _
      (λ k h. let ne : k ≢ c.loop-i.i = omega arith in rw get_or-set_other (c.loop-i.invariant.1 k h))
      (let lt : c.loop-i.i < length c.loop-i.powers = omega (arith, c.loop-i.invariant.0, c.requires.axes.high) in rw get_or-set_same c.deciding_power.ensures),
  λ k h. let ne : k ≢ c.loop-i.i = omega arith in rw get_or-set_other (c.loop-i.invariant.2 k (omega arith)),
)

pub invariant_of-result : goal.invariant_of-result
invariant_of-result c =
    record {
      whole = record { count = c.loop-i.invariant.0; few = omega (arith, c.requires.axes.high); rest = λ k h. c.loop-i.invariant.2 k (omega arith) };
    }

pub returns-clause-powers : goal.returns-clause-powers
returns-clause-powers c =
    taken (deciding_power c.args.n (facet_columns c.args.n c.args.cells.now c.args.n)) 0 c.args.n c.loop-i.powers
    (omega (arith, c.loop-i.invariant.0, c.requires.axes.high)) (λ k h. let same : k ≡ 0 + k = omega arith in c.loop-i.invariant.1 k (omega arith) ∙ ap (deciding_power c.args.n (facet_columns c.args.n c.args.cells.now c.args.n)) same)
