-- `bodytests::test_bodies` meets its contract.
use Rattle.std.proofs.Common.{◌≡◌, ◌≤◌, ℕ, true, rules, sym, ◌∙◌, ap, subst, refl, length, arith}
use Rattle.paper.specs.Job.{contents_ok, body}
use Rattle.paper.specs.Refusals.{RefusedOr}
use Rattle.paper.proofs.Bodies.{contents_box_length, contents_start_length}
use Rattle.entries.specs.Parts.{PartInside}
use Rattle.entries.proofs.EntrySteps.{contents_part}
use Rattle.bodytests.proofs.TestSteps.{refuse_contents, forms_decide}
use Rattle.bodytests.proofs.test_bodies.Goals as goal

pub returns-then-not-contents_ok : goal.returns-then-not-contents_ok
returns-then-not-contents_ok c = refuse_contents _ _ (sym c.contents_ok.ensures ∙ c.if-not-contents_ok.true)

pub test_forms-requires : goal.test_forms-requires
test_forms-requires c κs =
    let right : contents_ok c.args.n c.args.job.now ≡ true = sym c.contents_ok.ensures ∙ c.if-not-contents_ok.false in
    let parts : (k : ℕ) → k ≤ c.args.n → PartInside c.args.job.now k = λ k l. contents_part _ _ k right l in (
      (refl, tt),
      (
        c.requires,
        (
          λ k l. search (rules, parts),
          (
            (λ b p. let same : b.now ≡ body c.args.job.now 0 = search rules in ap length same ∙ contents_box_length _ _ right),
            (λ b p. let same : b.now ≡ body c.args.job.now c.args.n = search rules in ap length same ∙ contents_start_length _ _ right (omega (arith, c.requires.low))),
          ),
        ),
      ),
    )

pub returns : goal.returns
returns c =
    let right : contents_ok c.args.n c.args.job.now ≡ true = sym c.contents_ok.ensures ∙ c.if-not-contents_ok.false in
    subst (λ k. RefusedOr k (λ _. Unit {0}) c.test_forms.result) (forms_decide _ _ right) (c.test_forms.ensures (body c.args.job.now) (λ k b l p. search rules))
