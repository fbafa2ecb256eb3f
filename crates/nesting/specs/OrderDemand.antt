-- What an answer of the operation means, in the request's words: of a job s and a list of places ps. Everything here follows from the answer
-- (`ordered_demand`); curves that close and joined facets are the paper's and speak of no step.
use Rattle.std.specs.Prelude.{ℕ, ◌+◌, ◌*◌, ◌≤◌, ◌<◌, ◌≡◌, Bool, true, false, List, length}
use Rattle.curves.specs.Grid.{Vertex, Facet, facet_vertices}
use Rattle.curves.specs.Curve.{◌∈◌}
use Rattle.curves.specs.Joined.{Joined, Closes, Traceable}
use Rattle.paper.specs.Job.{dimension}
use Rattle.paper.specs.Values.{field_of}
use Rattle.paper.specs.Operations.{answered}
use Rattle.paper.specs.Pen.{place_count}
use Rattle.paper.proofs.Opens.{Opens}
use Rattle.nesting.specs.Inside.{inside}
use Rattle.nesting.specs.Standing.{Standing, stands, broken_at}
use Rattle.nesting.specs.Loops.{Reordered}
use Rattle.nesting.specs.CutOrder.{on_loop, loop_of, same_loop, row_end, loop_inside, listed_at, first_listed, ordered}

-- the job opens and has dimension 2, and the list names places on different loops of it
pub record LoopsListed (s ps : List ℕ) : Type 0 where
  pub opened : Opens s
  pub two : dimension s ≡ 2
  pub size : length ps ≡ 6 * place_count s ps
  pub traceable : (k : ℕ) → k < place_count s ps → Traceable (dimension s) (field_of s) (listed_at s ps k)
  pub looped : (k : ℕ) → k < place_count s ps → on_loop s (listed_at s ps k) ≡ true
  pub new : (j k : ℕ) → j < k → k < place_count s ps → same_loop s (listed_at s ps k) (listed_at s ps j) ≡ false

-- of the m positions from k on, `at` is the first with a later one inside it
pub record BrokenNumber {A : Type 0} (inner : A → A → Bool) (f : ℕ → A) (k m at : ℕ) : Type 0 where
  pub from : k ≤ at
  pub later : ℕ
  pub after : at < later
  pub under : later < k + m
  pub inside : inner (f later) (f at) ≡ true
  pub earlier : (i j : ℕ) → k ≤ i → i < at → i < j → j < k + m → inner (f j) (f i) ≡ false

-- the facet of the place at a position
abbrev pub facet_at : List ℕ → List ℕ → ℕ → Facet
facet_at s ps k = (listed_at s ps k).facet

pub record OrderDemand (s ps : List ℕ) (r : Standing) : Type 0 where
  -- The places are on loops of the job: the curve of each closes, and no two are joined.
  pub listed : LoopsListed s ps
  pub closes : (k : ℕ) → k < place_count s ps → Closes (dimension s) (field_of s) (facet_at s ps k)
  pub different : (j k : ℕ) → j < k → k < place_count s ps → ¬ Joined (dimension s) (field_of s) (facet_at s ps j) (facet_at s ps k)
  -- A loop is inside another as a whole: all vertices of all its facets are, or none is.
  pub whole :
      (j k : ℕ) → j < place_count s ps → k < place_count s ps → ¬ Joined (dimension s) (field_of s) (facet_at s ps j) (facet_at s ps k)
      → (g : Facet) → Joined (dimension s) (field_of s) (facet_at s ps k) g → (v : Vertex) → v ∈ facet_vertices g
      → inside (row_end s) (loop_of s (listed_at s ps j)) v ≡ loop_inside s (listed_at s ps k) (listed_at s ps j)
  -- Two loops are never inside each other.
  pub one_way :
      (j k : ℕ) → j < place_count s ps → k < place_count s ps
      → loop_inside s (listed_at s ps k) (listed_at s ps j) ≡ true → loop_inside s (listed_at s ps j) (listed_at s ps k) ≡ false
  -- The order stands exactly if each loop comes after all listed loops inside it.
  pub if_stands : r ≡ stands → (j k : ℕ) → j < k → k < place_count s ps → loop_inside s (listed_at s ps k) (listed_at s ps j) ≡ false
  pub stands_if : ((j k : ℕ) → j < k → k < place_count s ps → loop_inside s (listed_at s ps k) (listed_at s ps j) ≡ false) → r ≡ stands
  -- Otherwise the answer is the first position whose loop has a later listed loop inside it.
  pub if_broken : (at : ℕ) → r ≡ broken_at at → BrokenNumber (loop_inside s) (listed_at s ps) 0 (place_count s ps) at
  -- The same places in some order stand.
  pub some_order :
      (qs : List ℕ)
      × Reordered (first_listed s ps (place_count s ps)) (first_listed s qs (place_count s qs))
      × (ordered s qs ≡ answered stands)
