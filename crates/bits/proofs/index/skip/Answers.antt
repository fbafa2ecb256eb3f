-- `bits::index::skip` meets its contract: below the element left out an index stays, from it on it is one further.
use mathlib.Core.Path.{sym}
use native.Mathlib.Omega.{arith}
use Rattle.exact.proofs.Position.{skip_below, skip_above}
use Rattle.bits.proofs.index.skip.Goals as goal

pub returns-then-i-p : goal.returns-then-i-p
returns-then-i-p c = (sym (skip_below c.args.p c.args.i c.if-i-p.true), omega arith)

pub returns-else-i-p : goal.returns-else-i-p
returns-else-i-p c = let e = skip_above c.args.p c.args.i c.if-i-p.false in (omega arith, omega arith)
