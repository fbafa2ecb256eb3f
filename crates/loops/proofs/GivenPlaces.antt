-- Two places handed over as bytes that Point does not refuse: where the walk starts, and what it tells in the end.
use Rattle.std.proofs.Common.{◌≡◌, ℕ, true, List, ℤ, Result, Ok, Err, refl, sym, ap, ap₂, subst, ◌∙◌}
use Rattle.std.specs.Result.{IsOk}
use Rattle.exact.specs.Crossed.{crossed}
use Rattle.curves.specs.Grid.{Place}
use Rattle.paper.specs.Job.{dimension, decode_place}
use Rattle.paper.specs.Operations.{point_refusal}
use Rattle.paper.specs.Refusals.{RefusedOr}
use Rattle.paper.specs.declared.HeldPlace.{HeldPlace}
use Rattle.paper.specs.declared.Refusal.{Refusal}
use Rattle.paper.proofs.Refused.{refusal_some}
use Rattle.job.specs.OpenJob.{JobOf}
use Rattle.determinants.specs.Cells.{Cells, facet_columns}
use Rattle.located.specs.Located.{Finds, Crosses}
use Rattle.loops.specs.declared.Past as Code
use Rattle.loops.specs.Past.{told_of}

-- what is refused nothing is answered
pub not_refused : {T : Type 0} {k : ℕ} (P : T → Type 0) (r : Result T Refusal) → RefusedOr k P r → k ≡ 0 → IsOk r
not_refused P (Ok x) h z = refl
not_refused P (Err e) h z = absurd (refusal_some e (h ∙ z))

module _ {n : ℕ} {s p : List ℕ} {r : Result HeldPlace Refusal} {cells : List ℤ} (two : n ≡ 2) (c : Crosses n s p r cells) where
  -- the place of the plane, and what the cells hold
  pub plane_found : {q : HeldPlace} → r ≡ Ok q → Finds 2 s p q cells × (crossed 2 (facet_columns 2 cells 2) ≡ true)
  plane_found {q} e =
      let f = subst (λ (x : Result HeldPlace Refusal). RefusedOr (point_refusal s p) (λ a. Finds n s p a cells × (crossed n (facet_columns n cells n) ≡ true)) x) e c.found in
      subst (λ m. Finds m s p q cells × (crossed m (facet_columns m cells m) ≡ true)) two f.1

  pub plane_cells : Cells 2 cells
  plane_cells = subst (λ m. Cells m cells) two c.within

-- what is told of places that are these
pub told_of_given : {s : List ℕ} (inner outer : List ℕ) {r : Code.Past} {p q : Place} → JobOf 2 s → p ≡ decode_place 2 inner → q ≡ decode_place (dimension s) outer
    → r ≡ told_of s p q → r ≡ told_of s (decode_place 2 inner) (decode_place 2 outer)
told_of_given {s} inner outer j e f told =
    told ∙ ap₂ (told_of s) e (f ∙ ap (λ m. decode_place m outer) (sym j.dimension))
