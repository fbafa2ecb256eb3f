-- Exponents as one number.
use Rattle.std.specs.Prelude.{ℕ, ◌+◌, ◌*◌, List, get_or}

-- four exponents as digits to the base 16, axis 1 weighing most
unfoldable pub weight : List ℕ → ℕ
weight es = get_or es 0 0 * 4096 + get_or es 1 0 * 256 + get_or es 2 0 * 16 + get_or es 3 0
