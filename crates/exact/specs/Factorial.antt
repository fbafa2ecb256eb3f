-- n!, in which the size of a determinant is bounded.
use Rattle.std.specs.Prelude.{ℕ, suc, zero, ◌*◌}

unfoldable pub factorial : ℕ → ℕ
factorial zero = 1
factorial (suc n) = suc n * factorial n
