-- Lists with the same members pass the same facets and have the same vertices inside.
use mathlib.Core.Path.{◌≡◌, refl, sym, ap, ◌∙◌, fun_ext}
use mathlib.Core.Bool.{Bool, true, false}
use mathlib.Core.List.{List}
use lib.IntN.{ℤ}
use lib.ListN.{length}
use Rattle.curves.specs.Grid.{Vertex, Facet}
use Rattle.curves.specs.Curve.{◌∈◌}
use Rattle.curves.specs.Box.{keep}
use Rattle.nesting.specs.Inside.{among, odd, edges_passed, inside}
use Rattle.nesting.proofs.LoopBoundary.{among_listed, among_member}

module _ (l m : List Facet) (there : (f : Facet) → f ∈ l → f ∈ m) (back : (f : Facet) → f ∈ m → f ∈ l) where
  -- a facet stands in the one if it stands in the other
  pub among_same : (f : Facet) → among l f ≡ among m f
  among_same f = go (among l f) (among m f) refl refl
    where
      go : (a b : Bool) → among l f ≡ a → among m f ≡ b → among l f ≡ among m f
      go true b h k = h ∙ sym (among_listed m f (there f (among_member l f h)))
      go false true h k = among_listed l f (back f (among_member m f k)) ∙ sym k
      go false false h k = h ∙ sym k

  -- a vertex is inside the one if it is inside the other
  pub inside_same : (high : ℤ) (v : Vertex) → inside high l v ≡ inside high m v
  unfolding inside
  inside_same high v = ap (λ (t : Facet → Bool). odd (length (keep t (edges_passed high v)))) (fun_ext among_same)
