-- `loose::arranged` meets its contract: each array is the one of its dimension.
use mathlib.Core.List.{[], ◌∷◌}
use native.Mathlib.Omega.{arith}
use Rattle.loose.proofs.ByIndex.{arranged_at}
use Rattle.loose.proofs.arranged.Goals as goal

pub returns-in-2 : goal.returns-in-2
returns-in-2 c =
    let a = c.args in
    arranged_at a.bounds a.polynomial1 a.polynomial2 a.polynomial3 a.start 1 a.n (a.start ∷ a.start ∷ []) c.in-2.is (omega arith)

pub returns-in-3 : goal.returns-in-3
returns-in-3 c =
    let a = c.args in
    arranged_at a.bounds a.polynomial1 a.polynomial2 a.polynomial3 a.start 2 a.n (a.start ∷ []) c.in-3.is (omega arith)

pub returns-in_default : goal.returns-in_default
returns-in_default c =
    let a = c.args in
    arranged_at a.bounds a.polynomial1 a.polynomial2 a.polynomial3 a.start 3 a.n []
    (omega arith) (omega arith)
