-- What Judge's refusal of a place is: 13, or what is refused of its facet; and what is found if there is none.
use mathlib.Core.Path.{◌≡◌, refl, sym, ap, ◌∙◌}
use mathlib.Core.Bool.{true}
use mathlib.Core.List.{List}
use Prim.Native.Nat.{ℕ, ◌*◌}
use lib.IntN.{ℤ}
use lib.ListN.{length}
use Rattle.curves.specs.Grid.{Place, facet_vertices, place_ok}
use Rattle.curves.specs.Step.{columns}
use Rattle.paper.specs.Job.{dimension, decode_place, open_refusal}
use Rattle.paper.specs.Values.{field_of}
use Rattle.paper.specs.Operations.{facet_refusal, facet_of, place_bad, judge_refusal}
use Rattle.paper.proofs.Refusals.{refuse_here, refuse_later}
use Rattle.paper.specs.declared.HeldPlace.{HeldPlace}
use Rattle.places.specs.Held.{facet_as, place_as}
use Rattle.places.specs.PlaceBytes.{PlaceRead}
use Rattle.job.specs.OpenJob.{JobOf}
use Rattle.determinants.specs.Cells.{facet_columns}
use Rattle.located.specs.Located.{Finds}
use Rattle.located.proofs.PlaceForm.{right_form, judge_refusal_lem}

-- the facet of a place that is held as its bytes say is the paper's
pub held_facet : {n : ℕ} {s p : List ℕ} {q : HeldPlace} → JobOf n s → PlaceRead n p q → facet_as n q ≡ facet_of s p
unfolding facet_of place_as
held_facet {p} job at = ap (λ (x : Place). x.facet) at.is ∙ ap (λ k. (decode_place k p).facet) job.dimension

module _ {n : ℕ} {s : List ℕ} (job : JobOf n s) (p : List ℕ) where
  pub place_refused : place_bad n p ≡ true → 13 ≡ judge_refusal s p
  place_refused h = sym (judge_refusal_lem job p ∙ refuse_here 13 (facet_refusal s (facet_of s p)) h)

  -- of a place of the right form, what is refused of its facet
  module _ (l : length p ≡ 3 * n) (form : place_ok n (decode_place n p) ≡ true) {q : HeldPlace} (at : PlaceRead n p q) where
    pub facet_number : facet_refusal s (facet_as n q) ≡ judge_refusal s p
    facet_number =
        ap (facet_refusal s) (held_facet job at)
        ∙ sym (judge_refusal_lem job p ∙ refuse_later 13 (facet_refusal s (facet_of s p)) (right_form n p l form))

    pub place_found : {cells : List ℤ} → (facet_refusal s (facet_as n q) ≡ 0) × (facet_columns n cells n ≡ columns (field_of s) (facet_vertices (facet_as n q)))
        → (judge_refusal s p ≡ 0) × Finds n s p q cells
    place_found h = (
      sym facet_number ∙ h.0,
      record {
        form = form;
        place = at;
        columns = h.1 ∙ ap (λ f. columns (field_of s) (facet_vertices f)) (held_facet job at);
      },
    )

-- ---- as equations, which a check finds by itself

-- behind Open and the tests of the form, what is refused of the facet
pub form_passed : (s p : List ℕ) → open_refusal s ≡ 0 → length p ≡ 3 * dimension s → place_ok (dimension s) (decode_place (dimension s) p) ≡ true
    → judge_refusal s p ≡ facet_refusal s (facet_of s p)
form_passed s p o l form =
    let job : JobOf (dimension s) s = record { opens = o; dimension = refl } in
    judge_refusal_lem job p ∙ refuse_later 13 (facet_refusal s (facet_of s p)) (right_form (dimension s) p l form)

-- the facet of the place that the bytes name
pub facet_of_place : (s p : List ℕ) → facet_of s p ≡ (decode_place (dimension s) p).facet
unfolding facet_of
facet_of_place s p = refl

-- the facet of the place that is held
pub facet_as_place : (n : ℕ) (q : HeldPlace) → facet_as n q ≡ (place_as n q).facet
unfolding place_as
facet_as_place n q = refl

pub ruleset place_steps = (form_passed, facet_of_place, facet_as_place)
