-- `monomials::product_slot` meets its contract: the first monomial with that code, from the later of the two on (`product_first`).
use native.Mathlib.Omega.{arith}
use borrow.Author.Tests.{tests}
use Rattle.std.proofs.Common.{rules, ◌≡◌, ◌+◌, get_or}
use Rattle.std.proofs.lemmas.Iterator.{first_from_Range}
use Rattle.monomials.proofs.Codes.{codes_array}
use Rattle.monomials.proofs.ProductSearch.{FirstCode, product_small, product_first}
use Rattle.monomials.proofs.product_slot.Goals as goal

pub overflow_add-sum : goal.overflow_add-sum
overflow_add-sum c =
    omega (arith, c.code.ensures, c.code-2.ensures, product_small c.args.i c.args.k c.requires)

pub returns : goal.returns
returns c =
    let w = c.code.result + c.code-2.result in
    let first : FirstCode c.max.result w c.find.result =
    first_from_Range _ _ _ _ (λ s. get_or codes_array s 0 ≡ w) (λ s. get_or codes_array s 0 ≡ w → ⊥) c.find.ensures.ran
    (λ s q e. search (rules, tests)) (λ s q e. search (rules, tests)) in
    product_first c.args.i c.args.k c.requires c.max.ensures (omega (arith, c.code.ensures, c.code-2.ensures)) c.find.result first
