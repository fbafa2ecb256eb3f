-- `bodytests::test_forms` meets its contract: each return is the refusal of the first test that failed.
use Rattle.std.proofs.Common.{refl, sym, arith}
use Rattle.paper.specs.Job.{box_ok, polynomial_ok, decode_place}
use Rattle.curves.specs.Grid.{place_ok}
use Rattle.paper.proofs.RangeSteps.{all_next, all_stops, all_ends}
use Rattle.bodytests.proofs.TestSteps.{by_body, refuse_box, refuse_terms, refuse_start, forms_pass}
use Rattle.bodytests.proofs.test_forms.Goals as goal

pub returns-then-not-box_ok : goal.returns-then-not-box_ok
returns-then-not-box_ok g c f same =
    refuse_box _ f (by_body (box_ok c.args.n) c.box_ok.ensures (same 0 _ (omega arith) c.body.ensures) c.if-not-box_ok.true)

pub returns-then-not-polynomial_ok : goal.returns-then-not-polynomial_ok
returns-then-not-polynomial_ok g c f same =
    refuse_terms _ f (by_body (box_ok c.args.n) c.box_ok.ensures (same 0 _ (omega arith) c.body.ensures) c.if-not-box_ok.false)
    (sym (all_stops _ _ _ (c.loop-k.invariant f same) c.loop-k-test.true (by_body (polynomial_ok c.args.n) c.polynomial_ok.ensures (same _ _ (omega arith) c.body-in-loop-k.ensures) c.if-not-polynomial_ok.true)))

pub loop-k-init : goal.loop-k-init
loop-k-init g c f same = refl

pub loop-k-preserved : goal.loop-k-preserved
loop-k-preserved g c f same =
    all_next _ _ _ (c.loop-k.invariant f same) c.loop-k-test.true
    (by_body (polynomial_ok c.args.n) c.polynomial_ok.ensures (same _ _ (omega arith) c.body-in-loop-k.ensures) c.if-not-polynomial_ok.false)

pub returns-then-not-place_ok : goal.returns-then-not-place_ok
returns-then-not-place_ok g c f same =
    refuse_start _ f (by_body (box_ok c.args.n) c.box_ok.ensures (same 0 _ (omega arith) c.body.ensures) c.if-not-box_ok.false)
    (sym (all_ends _ _ _ (c.loop-k.invariant f same) c.loop-k-test.false))
    (by_body (λ b. place_ok c.args.n (decode_place c.args.n b)) c.place_ok.ensures (same _ _ (omega arith) c.body-2.ensures) c.if-not-place_ok.true)

pub returns : goal.returns
returns g c f same = (
  forms_pass _ f (by_body (box_ok c.args.n) c.box_ok.ensures (same 0 _ (omega arith) c.body.ensures) c.if-not-box_ok.false)
      (sym (all_ends _ _ _ (c.loop-k.invariant f same) c.loop-k-test.false))
      (by_body (λ b. place_ok c.args.n (decode_place c.args.n b)) c.place_ok.ensures (same _ _ (omega arith) c.body-2.ensures) c.if-not-place_ok.false),
  tt,
)
