-- `decimals::put_decimal` meets its contract, as the one member of its cycle of calls. What is written is the text of the tenth and the last
-- digit.
use mathlib.Core.Path.{sym, ap, ◌∙◌}
use mathlib.Core.List.{[], ◌∷◌, ◌++◌}
use native.Mathlib.Omega.{arith}
use Prim.Native.Nat.{ℕ, ◌/◌}
use Rattle.paper.specs.Listing.{decimal}
use Rattle.paper.proofs.Decimal.{decimal_digit, decimal_digits, decimal_short, decimal_tenth_short}
use Rattle.decimals.proofs.WrittenParts.{writes_then, writes_within}
use Rattle.decimals.proofs.+put_decimal.Goals as goal

pub returns-then-a-lt10 : goal.returns-then-a-lt10
returns-then-a-lt10 t c =
    writes_within
    (ap (λ (x : ℕ). x ∷ []) c.digit.ensures ∙ sym (decimal_digit c.args.a (omega arith)))
    (decimal_short c.args.a)
    c.put_byte.ensures

pub put_byte-requires-else-a-lt10 : goal.put_byte-requires-else-a-lt10
put_byte-requires-else-a-lt10 t c = omega (arith, decimal_tenth_short c.args.a (omega arith) (omega arith), c.put_decimal-last.ensures)

pub returns-else-a-lt10 : goal.returns-else-a-lt10
returns-else-a-lt10 t c =
    writes_within
    (ap (λ (x : ℕ). decimal (c.args.a / 10) ++ (x ∷ [])) c.digit-else-a-lt10.ensures
    ∙ sym (decimal_digits c.args.a (omega arith) (omega arith)))
    (decimal_short c.args.a)
    (writes_then (omega arith) c.put_decimal-last.ensures (λ i. c.put_byte-else-a-lt10.ensures))
