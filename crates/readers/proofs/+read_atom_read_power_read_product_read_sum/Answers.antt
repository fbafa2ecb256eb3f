-- The four readers meet their contracts.
use Prim.Native.Nat.{ℕ, ◌+◌}
use mathlib.Core.Path.{◌≡◌, sym, ap, ◌∙◌}
use mathlib.Core.Bool.{cond}
use native.Mathlib.Omega.{arith}
use Rattle.formula.specs.Polynomial.{variable_polynomial}
use Rattle.formula.specs.Meaning.{on_result, power_of}
use Rattle.formula.proofs.Letters.{axis_under_four}
use Rattle.coefficients.specs.Result.{result_as}
use Rattle.readers.proofs.Machine.{byte_is_inside}
use Rattle.readers.proofs.Steps.{atom_inside, open_under, sum_opens, parens_read, letter_read, number_atom, power_plain, exponent_here, power_raised, product_first, product_next, product_longer, product_ends, sum_inside, behind_sign, from_small, sum_begins, sum_first, sign_inside, sum_next_lem, sum_longer, sum_ends}
use Rattle.readers.proofs.+read_atom_read_power_read_product_read_sum.Goals as goal
use Rattle.readers.proofs.+read_atom_read_power_read_product_read_sum.Goals.{read_sum-After-from}

-- ---- atom

pub read_atom-overflow_add-at : goal.read_atom-overflow_add-at
read_atom-overflow_add-at t c = omega (arith, atom_inside _ _ _ _ c.requires)

pub read_atom-overflow_add-depth : goal.read_atom-overflow_add-depth
read_atom-overflow_add-depth t c = omega (arith, open_under _ _ _ _ c.requires (sym c.byte_is.ensures ∙ c.if-byte_is.true))

pub read_atom-read_sum-inner-requires : goal.read_atom-read_sum-inner-requires
read_atom-read_sum-inner-requires t c = (
  omega (arith, c.decreases, atom_inside _ _ _ _ c.requires),
  sum_opens _ _ _ _ c.requires (sym c.byte_is.ensures ∙ c.if-byte_is.true),
)

pub read_atom-returns-then-byte_is : goal.read_atom-returns-then-byte_is
read_atom-returns-then-byte_is t c =
    parens_read _ _ _ _ _ _ c.requires (sym c.byte_is.ensures ∙ c.if-byte_is.true) c.read_sum-inner.ensures

pub read_atom-returns-then-is_digit : goal.read_atom-returns-then-is_digit
read_atom-returns-then-is_digit t c = number_atom _ _ _ _ _ _ _ c.read_number-number.ensures c.constant-result.ensures

pub read_atom-bounds-text-at : goal.read_atom-bounds-text-at
read_atom-bounds-text-at t c = atom_inside _ _ _ _ c.requires

pub read_atom-variable-letter-requires : goal.read_atom-variable-letter-requires
read_atom-variable-letter-requires t c = rw c.axis_of.ensures (axis_under_four _)

pub read_atom-overflow_add-result-2 : goal.read_atom-overflow_add-result-2
read_atom-overflow_add-result-2 t c = omega (arith, atom_inside _ _ _ _ c.requires)

pub read_atom-returns : goal.read_atom-returns
unfolding result_as
read_atom-returns t c =
    letter_read _ _ _ _ _ c.requires (sym c.byte_is.ensures ∙ c.if-byte_is.false) (sym c.is_digit.ensures ∙ c.if-is_digit.false)
    (c.variable-letter.ensures ∙ ap variable_polynomial c.axis_of.ensures)

-- ---- power

pub read_power-returns-then-not-byte_is : goal.read_power-returns-then-not-byte_is
read_power-returns-then-not-byte_is t c = power_plain _ _ _ _ _ _ c.read_atom-base.ensures (sym c.byte_is.ensures ∙ c.if-not-byte_is.true)

pub read_power-bounds-text-base : goal.read_power-bounds-text-base
read_power-bounds-text-base t c =
    (exponent_here _ _ _ _ _ _ c.requires c.read_atom-base.ensures (sym c.byte_is.ensures ∙ c.if-not-byte_is.false)).here

pub read_power-overflow_sub-text : goal.read_power-overflow_sub-text
read_power-overflow_sub-text t c =
    (exponent_here _ _ _ _ _ _ c.requires c.read_atom-base.ensures (sym c.byte_is.ensures ∙ c.if-not-byte_is.false)).low

pub read_power-returns : goal.read_power-returns
read_power-returns t c =
    power_raised _ _ _ _ _ _ _ c.read_atom-base.ensures (sym c.byte_is.ensures ∙ c.if-not-byte_is.false)
    (exponent_here _ _ _ _ _ _ c.requires c.read_atom-base.ensures (sym c.byte_is.ensures ∙ c.if-not-byte_is.false))
    (c.raised-result.ensures ∙ ap (λ (k : ℕ). on_result (λ x. power_of x k) (result_as c.read_atom-base.result.result)) c.from-exponent.ensures)

-- ---- product

pub read_product-loop-factor-init : goal.read_product-loop-factor-init
read_product-loop-factor-init t c = product_first _ _ _ _ _ _ c.read_power-product.ensures

pub read_product-read_power-factor-requires : goal.read_product-read_power-factor-requires
read_product-read_power-factor-requires t c = (
  omega (arith, c.decreases, c.loop-factor.invariant.forward, byte_is_inside _ _ 41 (sym c.byte_is.ensures ∙ c.loop-factor-test.true)),
  product_next _ _ _ _ _ _ c.requires c.loop-factor.invariant (sym c.byte_is.ensures ∙ c.loop-factor-test.true),
)

pub read_product-loop-factor-preserved : goal.read_product-loop-factor-preserved
read_product-loop-factor-preserved t c =
    product_longer _ _ _ _ _ _ _ _ _ c.loop-factor.invariant (sym c.byte_is.ensures ∙ c.loop-factor-test.true) c.read_power-factor.ensures c.multiplied-result.ensures

pub read_product-returns : goal.read_product-returns
read_product-returns t c = product_ends _ _ _ _ _ _ c.loop-factor.invariant (sym c.byte_is.ensures ∙ c.loop-factor-test.false)

-- ---- sum

-- where the first product begins
product_at : (t : ℕ) (c : read_sum-After-from t) → c.args.at + c.from.result ≡ cond c.byte_is-negative.result (c.args.at + 1) c.args.at
product_at t c = behind_sign c.byte_is-negative.result c.args.at c.from.result c.from.ensures

pub read_sum-overflow_add-at : goal.read_sum-overflow_add-at
read_sum-overflow_add-at t c =
    omega (arith, sum_inside _ _ _ _ c.requires, from_small c.byte_is-negative.result c.from.result c.from.ensures)

pub read_sum-read_product-first-requires : goal.read_sum-read_product-first-requires
read_sum-read_product-first-requires t c = (
  omega (arith, c.decreases, sum_inside _ _ _ _ c.requires, from_small c.byte_is-negative.result c.from.result c.from.ensures),
  sum_begins _ _ _ _ _ _ c.requires c.byte_is-negative.ensures (product_at t (goal.at.read_sum-read_product-first-requires t c).After-from),
)

pub read_sum-loop-minus-init : goal.read_sum-loop-minus-init
read_sum-loop-minus-init t c =
    sum_first _ _ _ _ _ _ _ _ _ c.byte_is-negative.ensures (product_at t (goal.at.read_sum-loop-minus-init t c).After-from) c.read_product-first.ensures
    c.signed.ensures

pub read_sum-read_product-term-requires : goal.read_sum-read_product-term-requires
read_sum-read_product-term-requires t c = (
  omega (arith, c.decreases, c.loop-minus.invariant.forward, sign_inside _ _ (sym c.is_sign.ensures ∙ c.loop-minus-test.true)),
  sum_next_lem _ _ _ _ _ _ c.requires c.loop-minus.invariant (sym c.is_sign.ensures ∙ c.loop-minus-test.true),
)

pub read_sum-loop-minus-preserved : goal.read_sum-loop-minus-preserved
read_sum-loop-minus-preserved t c =
    sum_longer _ _ _ _ _ _ _ _ _ _ c.loop-minus.invariant (sym c.is_sign.ensures ∙ c.loop-minus-test.true) c.byte_is-minus.ensures c.read_product-term.ensures c.joined-result.ensures

pub read_sum-returns : goal.read_sum-returns
read_sum-returns t c = sum_ends _ _ _ _ _ _ c.loop-minus.invariant (sym c.is_sign.ensures ∙ c.loop-minus-test.false)
