-- What a reading means: its value at a vertex, by whole numbers, and its polynomial with every inner result on the limits of a term. Request 2.1.
use Rattle.std.specs.Prelude.{ℕ, suc, zero, cond, ℤ, pos, get_or}
use Rattle.std.proofs.Math.Option.{Option, none, some}
use Rattle.exact.specs.Int.{◌⊕◌, ◌⊖◌, ◌⊗◌, neg, power, 0ℤ}
use Rattle.curves.specs.Grid.{Vertex}
use Rattle.curves.specs.Step.{every}
use Rattle.formula.specs.Grammar.{Formula, number, letter, parens, raised, times, plus, minus, negative}
use Rattle.formula.specs.Polynomial.{Polynomial, is_zero, zero_polynomial, constant, variable_polynomial, sum_of, difference_of, product_of}

-- the value at a vertex; power 0 is 1, of zero too
unfoldable pub meaning : Vertex → Formula → ℤ
meaning v (number k) = pos k
meaning v (letter a) = get_or v a 0ℤ
meaning v (parens f) = meaning v f
meaning v (raised f k) = power (meaning v f) k
meaning v (times f g) = meaning v f ⊗ meaning v g
meaning v (plus f g) = meaning v f ⊕ meaning v g
meaning v (minus f g) = meaning v f ⊖ meaning v g
meaning v (negative f) = neg (meaning v f)

-- an operation on inner results: there is none if one of them breaks a limit
unfoldable pub on_result : (Polynomial → Option Polynomial) → Option Polynomial → Option Polynomial
on_result o none = none
on_result o (some p) = o p

unfoldable pub on_results : (Polynomial → Polynomial → Option Polynomial) → Option Polynomial → Option Polynomial → Option Polynomial
on_results o p q = on_result (λ x. on_result (o x) q) p

-- a power multiplies by its atom once at a time, and power 0 is 1
unfoldable pub power_of : Polynomial → ℕ → Option Polynomial
power_of p zero = constant 1
power_of p (suc k) = on_result (λ q. product_of q p) (power_of p k)

-- the polynomial of a reading; none if an inner result breaks a coefficient or degree limit
unfoldable pub evaluate : Formula → Option Polynomial
evaluate (number v) = constant v
evaluate (letter a) = variable_polynomial a
evaluate (parens f) = evaluate f
evaluate (raised f k) = on_result (λ p. power_of p k) (evaluate f)
evaluate (times f g) = on_results product_of (evaluate f) (evaluate g)
evaluate (plus f g) = on_results sum_of (evaluate f) (evaluate g)
evaluate (minus f g) = on_results difference_of (evaluate f) (evaluate g)
evaluate (negative f) = on_result (difference_of zero_polynomial) (evaluate f)

-- an inner zero is fine, a final zero is none
unfoldable pub unless_zero : Polynomial → Option Polynomial
unless_zero p = cond (every is_zero p) none (some p)
