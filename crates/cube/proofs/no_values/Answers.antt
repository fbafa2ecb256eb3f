-- `cube::no_values` meets its contract: 0 is within every limit.
use mathlib.Core.Path.{refl}
use Rattle.cube.proofs.Corners.{zeros_within}
use Rattle.cube.proofs.no_values.Goals as goal

pub returns : goal.returns
returns c = ((λ n. zeros_within n 48), refl)
