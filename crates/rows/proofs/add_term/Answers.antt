-- `rows::add_term` meets its contract. What the write needs is not named here, so that another number written is refused for what it is.
use Rattle.rows.proofs.TermAdded.{term_none, product_fits, sum_fits, term_put, term_outside}
use Rattle.rows.proofs.add_term.Goals as goal

pub returns-then-x-eq0 : goal.returns-then-x-eq0
returns-then-x-eq0 c = term_none c.requires.bounded.1.0 c.requires.bounded.1.1 c.args.i c.args.k c.if-x-eq0.true

pub overflow_mul-r : goal.overflow_mul-r
overflow_mul-r c =
    let sizes = c.requires.bounded in
    product_fits sizes.1.0 sizes.1.1

pub overflow_add-r : goal.overflow_add-r
overflow_add-r c =
    let sizes = c.requires.bounded in
    sum_fits sizes.1.0 sizes.1.1 c.args.i c.args.k sizes.0 c.in-Some.ensures.0

pub returns-in-Some : goal.returns-in-Some
returns-in-Some c =
    let sizes = c.requires.bounded in
    term_put sizes.1.0 sizes.1.1 c.args.i c.args.k sizes.0 c.in-Some.ensures.0 c.if-x-eq0.false

pub returns-in_default : goal.returns-in_default
returns-in_default c =
    let sizes = c.requires.bounded in
    term_outside sizes.1.0 sizes.1.1 c.args.i c.args.k sizes.0 c.if-x-eq0.false c.in_default.ensures
