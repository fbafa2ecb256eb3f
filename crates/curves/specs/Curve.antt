-- Curves over abstract facets and places, independent of any step: joined facets, the number of facets of a curve, and that
-- each place on a curve has a readable simplex on its side. Document 01 calls all the facets joined to a facet its *curve*.
use Rattle.std.specs.Prelude.{ℕ, ◌≡◌, length}
use mathlib.Core.List.{List, [], ◌∷◌, Memᴰ}

-- `x ∈ l`: x stands in the list l.
infix 50 ◌∈◌
abbrev pub ◌∈◌ : {A : Type 0} → A → List A → Type 0
x ∈ l = Memᴰ x l

-- No element stands in the list twice.
pub data NoDup {A : Type 0} : List A → Type 0 where
  none : NoDup []
  more : {x : A} {l : List A} → ¬ (x ∈ l) → NoDup l → NoDup (x ∷ l)

-- A chain of facets leads from f to g, each sharing a readable simplex with the next. A facet is joined to itself.
-- The facets g for which this holds are the curve of f.
pub data Joined {F : Type 0} (Shares : F → F → Type 0) (f : F) : F → Type 0 where
  itself : Joined Shares f f
  onward : {g h : F} → Joined Shares f g → Shares g h → Joined Shares f h

-- The curve of f has k facets: a list of length k has each facet joined to f, no other, and none twice.
pub record HasFacets {F : Type 0} (Shares : F → F → Type 0) (f : F) (k : ℕ) : Type 0 where
  pub facets : List F
  pub no_repeat : NoDup facets
  pub every : (g : F) → Joined Shares f g → g ∈ facets
  pub only : (g : F) → g ∈ facets → Joined Shares f g
  pub count : length facets ≡ k

-- Each place on a facet joined to f has a readable simplex on its side: what walks know of a curve that closes. In the grid it
-- is the paper's `Closes` (specs/Joined.antt), by proofs/ClosesSides.antt.
abbrev pub ClosesAtPlaces : {P F : Type 0} (Shares : F → F → Type 0) (facet : P → F) (Ok Side : P → Type 0) → F → Type 0
ClosesAtPlaces {P} Shares facet Ok Side f = (p : P) → Ok p → Joined Shares f (facet p) → Side p
