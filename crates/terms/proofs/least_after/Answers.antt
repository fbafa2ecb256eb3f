-- `terms::least_after` meets its contract: the coefficient, the exponents, then the order.
use Rattle.std.proofs.Common.{◌∙◌, sym, arith}
use Rattle.terms.proofs.TermTest.{coefficient_fails, exponents_fail, term_passes, weight_is}
use Rattle.terms.proofs.CarriedOn.{carried_none, carried_rises, carried_falls}
use Rattle.terms.proofs.least_after.Goals as goal
use Rattle.terms.proofs.least_after.Goals.{else-coefficient_ok-via-then-coefficient_ok+then-exponents_ok+else-least-weight, else-coefficient_ok-via-then-coefficient_ok+else-exponents_ok, else-coefficient_ok-via-else-coefficient_ok}

pub returns-then-least-weight : goal.returns-then-least-weight
returns-then-least-weight c =
    carried_rises _ _ _ c.requires.1
    (term_passes _ _ _ (sym c.coefficient_ok.ensures ∙ c.if-coefficient_ok.true) c.exponents-e.ensures.is (sym c.exponents_ok.ensures ∙ c.if-exponents_ok.true))
    (weight_is _ _ c.exponents-e.ensures.is) (omega (arith, c.if-least-weight.true))

pub returns-else-coefficient_ok : goal.returns-else-coefficient_ok
returns-else-coefficient_ok c =
    elim c.else-coefficient_ok.branch [
      | else-coefficient_ok-via-then-coefficient_ok+then-exponents_ok+else-least-weight w ↦
          carried_falls _ _ _ c.requires.1
          (term_passes _ _ _ (sym c.coefficient_ok.ensures ∙ w.if-coefficient_ok.true) c.exponents-e.ensures.is (sym w.exponents_ok.ensures ∙ w.if-exponents_ok.true))
          (weight_is _ _ c.exponents-e.ensures.is) (omega (arith, w.if-least-weight.false))
      | else-coefficient_ok-via-then-coefficient_ok+else-exponents_ok w ↦
          carried_none _ _ _
          (exponents_fail _ _ _ (sym c.coefficient_ok.ensures ∙ w.if-coefficient_ok.true) c.exponents-e.ensures.is (sym w.exponents_ok.ensures ∙ w.if-exponents_ok.false))
      | else-coefficient_ok-via-else-coefficient_ok w ↦ carried_none _ _ _ (coefficient_fails _ _ _ (sym c.coefficient_ok.ensures ∙ w.if-coefficient_ok.false))
    ]
