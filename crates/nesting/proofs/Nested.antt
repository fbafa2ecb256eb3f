-- A loop inside another reaches less far along axis 1, so two loops are never inside each other. Over any field of dimension 2.
use mathlib.Core.Path.{◌≡◌, refl, ◌∙◌, subst}
use mathlib.Core.Bool.{Bool, true, false}
use mathlib.Core.List.{List}
use lib.IntN.{ℤ}
use lib.Signed.{◌<ℤ◌}
use Rattle.curves.specs.Grid.{Vertex, Facet, facet_vertices}
use Rattle.curves.specs.Curve.{◌∈◌, itself}
use Rattle.curves.specs.Step.{Field}
use Rattle.curves.specs.Joined.{Joined}
use Rattle.curves.proofs.JoinedLaws.{joined_sym}
use Rattle.nesting.specs.Inside.{inside}
use Rattle.nesting.specs.Loops.{IsLoop, EndsAt, greatest_x}
use Rattle.nesting.proofs.WholeOrder.{not_less_both}
use Rattle.nesting.proofs.InsideSteady.{inside_steady}
use Rattle.nesting.proofs.Reach.{reach_vertex, inside_before}

module _ {φ : Field} {high : ℤ} {f k : Facet} {l m : List Facet} (ends : EndsAt φ high) (outer : IsLoop φ f l) (other : ¬ Joined 2 φ f k) where
  -- the loop of k reaches less far than that of f if a vertex of k is inside that
  pub inside_rank : IsLoop φ k m → (v : Vertex) → v ∈ facet_vertices k → inside high l v ≡ true → greatest_x m <ℤ greatest_x l
  inside_rank inner v i e =
      let w = reach_vertex m (inner.every k itself) in
      let c = w.1 in
      let same : inside high l w.0 ≡ inside high l v =
      inside_steady ends outer k inner.on other c.facet k (inner.only c.facet c.listed) itself w.0 v c.corner i in
      subst (λ x. x <ℤ greatest_x l) w.2 (inside_before high l w.0 (same ∙ e))

-- two different loops are never inside each other
pub not_mutual : {φ : Field} {high : ℤ} {f k : Facet} {l m : List Facet} → EndsAt φ high → IsLoop φ f l → IsLoop φ k m → ¬ Joined 2 φ f k
    → (v w : Vertex) → v ∈ facet_vertices k → w ∈ facet_vertices f → inside high l v ≡ true → inside high m w ≡ false
not_mutual {high = high} {l = l} {m = m} ends outer inner other v w i j e = go (inside high m w) refl
  where
    go : (b : Bool) → inside high m w ≡ b → inside high m w ≡ false
    go false h = h
    go true h =
        absurd (not_less_both (greatest_x m) (greatest_x l)
        (inside_rank ends outer other inner v i e)
        (inside_rank ends inner (λ c. other (joined_sym c)) outer w j h))
