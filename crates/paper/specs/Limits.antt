-- The limits of document 01 and of request 2.12, each named once. A proof that does not depend on a limit's size never opens its name.
use Rattle.std.specs.Prelude.{ℕ, Bool, cond, ◌&&◌, eqb, leb}

-- the dimensions: 2, 3 and 4
unfoldable pub dimension_ok : ℕ → Bool
dimension_ok n = leb 2 n && leb n 4

-- box ends lie from − 256 to 256
unfoldable pub coordinate_limit : ℕ
coordinate_limit = 256

-- terms of a polynomial: 1 to 15 for n = 2, 1 to 35 for n = 3, 1 to 70 for n = 4
unfoldable pub term_limit : ℕ → ℕ
term_limit n = cond (eqb n 2) 15 (cond (eqb n 3) 35 70)

-- the size of a coefficient
unfoldable pub coefficient_limit : ℕ
coefficient_limit = 1048576

-- the sum of a term's exponents
unfoldable pub degree_limit : ℕ
degree_limit = 4

-- a value is readable from − 2 ^ 28 to 2 ^ 28 for n = 2 and 3, from − 2 ^ 19 to 2 ^ 19 for n = 4
unfoldable pub readable_limit : ℕ → ℕ
readable_limit n = cond (eqb n 4) 524288 268435456

-- the steps of a unit
unfoldable pub steps_per_unit : ℕ
steps_per_unit = 1024
