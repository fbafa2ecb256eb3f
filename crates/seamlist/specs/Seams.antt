-- Seams: document 02, request 2.4, over the dimension and any field. A *seam* is a crossed facet in the box, with readable values, and all that
-- are joined to it, even if it stands by itself. What the list of seams is, is said first, with no step and no trace in it; then how it is computed.
use Rattle.std.specs.Prelude.{ℕ, ◌≡◌, Bool, true, false, not, cond, ◌&&◌, List, [], ◌∷◌, ◌++◌, map, ℤ, pos}
use Rattle.std.specs.Int.Signed.{le_z}
use Rattle.curves.specs.Grid.{Facet, Place, turn}
use Rattle.curves.specs.Walk.{Trace}
use Rattle.curves.specs.Curve.{◌∈◌}
use Rattle.curves.specs.Step.{Stop, Field, every, traceable}
use Rattle.curves.specs.Joined.{Joined, Traceable}
use Rattle.curves.specs.GridDemand.{trace_of}
use Rattle.curves.specs.Box.{keep}

-- ---- the order of facets

-- lists of whole numbers in order: the first difference decides
unfoldable pub lex_before : List ℤ → List ℤ → Bool
lex_before [] [] = false
lex_before [] (y ∷ w) = true
lex_before (x ∷ v) [] = false
lex_before (x ∷ v) (y ∷ w) = cond (le_z x y) (cond (le_z y x) (lex_before v w) true) false

-- lowest vertex first, axis 1 weighing most, then the masks in order
unfoldable pub facet_key : Facet → List ℤ
facet_key f = f.low ++ map pos f.masks

unfoldable pub facet_before : Facet → Facet → Bool
facet_before f g = lex_before (facet_key f) (facet_key g)

-- ---- seams and their list

-- the facet with side 0
unfoldable pub front : Facet → Place
front f = record { facet = f; side = 0 }

-- the facet is one of a seam: well-formed, in the box, with readable values, and crossed
abbrev pub OnSeam : ℕ → Field → Facet → Type 0
OnSeam n φ f = Traceable n φ (front f)

-- the least facet of its seam: none that is joined to it comes before it
pub record Least (n : ℕ) (φ : Field) (f : Facet) : Type 0 where
  pub on : OnSeam n φ f
  pub first : (g : Facet) → Joined n φ f g → facet_before g f ≡ false

-- each element comes before all that follow
pub data Rising {A : Type 0} (before : A → A → Bool) : List A → Type 0 where
  none : Rising before []
  more : {x : A} {l : List A} → ((y : A) → y ∈ l → before x y ≡ true) → Rising before l → Rising before (x ∷ l)

-- this is the list of seams, one facet for each: they rise, each is the least of its seam, and each seam is there
pub record SeamList (n : ℕ) (φ : Field) (l : List Facet) : Type 0 where
  pub rising : Rising facet_before l
  pub only : (f : Facet) → f ∈ l → Least n φ f
  pub every_seam : (f : Facet) → OnSeam n φ f → (g : Facet) × (g ∈ l) × Joined n φ g f

-- ---- how it is computed

-- no place of the trace lies on a facet before f
unfoldable pub none_before : Facet → Trace Place Stop → Bool
none_before f t = every (λ (p : Place). not (facet_before p.facet f)) t.places

-- the facet is one of a seam, and its two traces, with space for so many, meet none before it
unfoldable pub least_test : ℕ → Field → ℕ → Facet → Bool
least_test n φ space f =
    traceable n φ (front f)
    && (none_before f (trace_of n φ (front f) space) && none_before f (trace_of n φ (turn (front f)) space))

unfoldable pub seams_among : ℕ → Field → ℕ → List Facet → List Facet
seams_among n φ space fs = keep (least_test n φ space) fs
