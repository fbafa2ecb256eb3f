-- `rows::fits` meets its contract: the two degrees decide (`fits_degree`). Answered here so that another limit is refused for its number.
use mathlib.Core.Path.{ap₂, ◌∙◌}
use Prim.Native.Nat.{◌+◌}
use lib.Dec.{leb}
use Rattle.rows.proofs.DegreeFits.{fits_degree}
use Rattle.rows.proofs.fits.Goals as goal

pub returns : goal.returns
returns c =
    ap₂ (λ a b. leb (a + b) 4) c.degree.ensures c.degree-2.ensures ∙ fits_degree c.args.p.now.cells c.args.q.now.cells
