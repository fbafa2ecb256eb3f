-- The refusals 5 to 8 of Open in the order of the code: what each return says, given what the tests before it showed.
use Rattle.std.proofs.Common.{◌≡◌, sym, ap, ◌∙◌, Bool, true, false, List, ℕ, ◌-◌}
use Rattle.curves.specs.Grid.{place_ok}
use Rattle.paper.specs.Job.{contents_ok, body, box_ok, all_from, polynomial_ok, decode_place, refuse_if}
use Rattle.paper.specs.Refusals.{refusal_number}
use Rattle.paper.specs.declared.Refusal.TheVariants.{Contents, Bounds, Terms, Start}
use Rattle.bodytests.specs.BodyTests.{bodies_refusal, forms_refusal}

-- a test of bytes that are a body
pub by_body : (t : List ℕ → Bool) {r v : Bool} {b u : List ℕ} → r ≡ t b → b ≡ u → r ≡ v → t u ≡ v
by_body t e s h = ap t (sym s) ∙ sym e ∙ h

pub refuse_contents : (n : ℕ) (s : List ℕ) → contents_ok n s ≡ false → refusal_number Contents ≡ bodies_refusal n s
unfolding refuse_if refusal_number
refuse_contents n s t = rw t

-- the contents are right: the bodies decide
pub forms_decide : (n : ℕ) (s : List ℕ) → contents_ok n s ≡ true → forms_refusal n (body s) ≡ bodies_refusal n s
unfolding refuse_if
forms_decide n s t = rw t

module _ (n : ℕ) (f : ℕ → List ℕ) where
  pub refuse_box : box_ok n (f 0) ≡ false → refusal_number Bounds ≡ forms_refusal n f
  unfolding refuse_if refusal_number
  refuse_box t = rw t

  module _ (t : box_ok n (f 0) ≡ true) where
    pub refuse_terms : all_from (λ k. polynomial_ok n (f k)) 1 (n - 1) ≡ false → refusal_number Terms ≡ forms_refusal n f
    unfolding refuse_if refusal_number
    refuse_terms u = rw (t, u)

    module _ (u : all_from (λ k. polynomial_ok n (f k)) 1 (n - 1) ≡ true) where
      pub refuse_start : place_ok n (decode_place n (f n)) ≡ false → refusal_number Start ≡ forms_refusal n f
      unfolding refuse_if refusal_number
      refuse_start v = rw (t, u, v)

      pub forms_pass : place_ok n (decode_place n (f n)) ≡ true → forms_refusal n f ≡ 0
      unfolding refuse_if
      forms_pass v = rw (t, u, v)
