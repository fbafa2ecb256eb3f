-- `loose::test_form` meets its contract.
use Rattle.std.proofs.Common.{◌≡◌, ℕ, true, rules, sym, ◌∙◌, ap, subst, refl, length, arith, ◌≤◌, List, [], Bor, get_or}
use Rattle.paper.specs.Refusals.{RefusedOr}
use Rattle.assembly.specs.LooseRefusal.{lengths_ok, form_refusal}
use Rattle.laying.specs.Laid.{body_at}
use Rattle.laying.proofs.BodyRead.{body_read}
use Rattle.loose.proofs.FormSteps.{refuse_lengths, box_long, start_long, forms_decide}
use Rattle.loose.proofs.test_form.Goals as goal

-- the body that was read at an index
read : (bodies : List (Bor (List ℕ))) (k : ℕ) (b : Bor (List ℕ)) → b ≡ get_or bodies k (record { ref_ptr = (0, 0); now = [] }) → b.now ≡ body_at bodies k
read bodies k b e = ap (λ (x : Bor (List ℕ)). x.now) e ∙ body_read bodies k

pub returns-then-not-lengths_ok : goal.returns-then-not-lengths_ok
returns-then-not-lengths_ok c = refuse_lengths _ _ (sym c.lengths_ok.ensures ∙ c.if-not-lengths_ok.true)

pub test_forms-requires : goal.test_forms-requires
test_forms-requires c κs =
    let right : lengths_ok c.args.n (body_at c.args.bodies) ≡ true = sym c.lengths_ok.ensures ∙ c.if-not-lengths_ok.false in
    let small : c.args.n ≤ 4 = c.requires.high in (
      (refl, tt),
      (
        c.requires,
        (
          (λ k l. search rules),
          (
            (λ b p. ap length (read c.args.bodies 0 b (search rules)) ∙ box_long _ _ right),
            (λ b p. ap length (read c.args.bodies c.args.n b (search rules)) ∙ start_long _ _ right (omega (arith, c.requires.low))),
          ),
        ),
      ),
    )

-- the bodies' tests answer what is due, and the function answers that: by `grind`, so that it may hand the answer on in any way
pub returns : goal.returns
returns c =
    let right : lengths_ok c.args.n (body_at c.args.bodies) ≡ true = sym c.lengths_ok.ensures ∙ c.if-not-lengths_ok.false in
    let h : RefusedOr (form_refusal c.args.n (body_at c.args.bodies)) (λ _. Unit {0}) c.test_forms.result =
    subst (λ k. RefusedOr k (λ _. Unit {0}) c.test_forms.result) (forms_decide _ _ right)
    (c.test_forms.ensures (body_at c.args.bodies) (λ k b l p. read c.args.bodies k b (search rules))) in
    grind (arith, h)
