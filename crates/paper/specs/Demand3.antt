-- The customer's third demand, about what Trace answers from the bytes of a job, sentence by sentence. Joined facets, a
-- curve that closes and the number of its facets are those of the paper's section "Crossed", in the crate curves; nothing in
-- them speaks of steps. `Demand3 s a b` is about the job s, its trace with space a, and that from the start turned with
-- space b. A trace from another place is the trace of the same job with that place as its start.
use Rattle.std.specs.Prelude.{ℕ, suc, zero, ◌*◌, ◌≤◌, ◌<◌, ◌≡◌, List, [], ◌∷◌, ◌++◌, map, reverse, length, take, drop}
use Rattle.curves.specs.Grid.{Facet, Place, turn}
use Rattle.curves.specs.Walk.{full, Trace}
use Rattle.curves.specs.Step.{Stop}
use Rattle.curves.specs.Curve.{◌∈◌, NoDup}
use Rattle.curves.specs.Joined.{Shares, Joined, Closes, HasFacets}
use Rattle.curves.specs.WalkRun.{Traced}
use Rattle.curves.specs.WalkDemand.{NeitherFull}
use Rattle.paper.specs.Job.{dimension, decode_place, encode_place, with_start}
use Rattle.paper.specs.Values.{field_of}
use Rattle.paper.specs.Operations.{answered, step_in, stepped, start_of, traced, buffer_after}

-- ---- the curve of the start's facet

-- the facet is joined to the start's: document 01 calls all of these the start's *curve*
abbrev pub InCurve : List ℕ → Facet → Type 0
InCurve s f = Joined (dimension s) (field_of s) (start_of s).facet f

-- the curve has k facets
abbrev pub CurveHas : List ℕ → ℕ → Type 0
CurveHas s k = HasFacets (dimension s) (field_of s) (start_of s).facet k

-- the curve closes: for each of its facets the simplices on both its sides are readable
abbrev pub CurveCloses : List ℕ → Type 0
CurveCloses s = Closes (dimension s) (field_of s) (start_of s).facet

-- ---- what Trace writes

-- the facets that a trace lists, place by place
abbrev pub facets_of : Trace Place Stop → List Facet
facets_of t = map (λ (p : Place). p.facet) t.places

-- the places read from the front of a list of bytes, so many
unfoldable pub read_places : ℕ → ℕ → List ℕ → List Place
read_places n zero b = []
read_places n (suc k) b = decode_place n (take (3 * n) b) ∷ read_places n k (drop (3 * n) b)

-- the start, then Step after Step up to the verdict
pub record StepAfterStep (s : List ℕ) (start : Place) (space : ℕ) (t : Trace Place Stop) : Type 0 where
  -- with no space nothing is listed, and the verdict is full
  pub nothing : space ≡ 0 → t ≡ record { verdict = full; places = [] }
  -- else the start is listed, then the place that each step leads to, and the verdict says of the step from the last place
  -- that it leads to the start's facet (loop), that it stops (edge, limit), or that it leads elsewhere (full)
  pub something : 0 < space → Traced (λ (p : Place). p.facet) (step_in s) start t
  -- full is said only if no space is left
  pub room : length t.places ≤ space
  pub full_room : t.verdict ≡ full → length t.places ≡ space
  -- each place listed is one that Step does not refuse, handed the place's bytes, and the step is what Step answers
  pub taken : (p : Place) → p ∈ t.places → stepped s (encode_place p) ≡ answered (step_in s p)
  -- read from the buffer at exit, whatever it held, they are the places listed
  pub written : (buffer : List ℕ) → read_places (dimension s) (length t.places) (buffer_after (answered t) buffer) ≡ t.places

-- the trace from the place z turned, with space for as many as t lists, lists the same places in reverse, each turned
pub record Reversed (s : List ℕ) (t : Trace Place Stop) (z : Place) : Type 0 where
  pub back : Trace Place Stop
  pub back_answered : traced (with_start s (turn z)) (length t.places) ≡ answered back
  pub same_places : back.places ≡ map turn (reverse t.places)

-- ---- the demand

pub record Demand3 (s : List ℕ) (a b : ℕ) : Type 0 where
  -- the trace from the start with space a, and that from the start turned with space b
  pub first : Trace Place Stop
  pub second : Trace Place Stop
  pub first_answered : traced s a ≡ answered first
  pub second_answered : traced (with_start s (turn (start_of s))) b ≡ answered second
  -- A trace is what Trace writes: the start, then Step after Step up to its verdict.
  pub first_steps : StepAfterStep s (start_of s) a first
  pub second_steps : StepAfterStep s (turn (start_of s)) b second
  -- If the trace lists a place at all, the trace from its last place turned, with space for just as many, lists the same
  -- places in reverse down to the start, each turned.
  pub reversed : (l : List Place) (z : Place) → first.places ≡ l ++ (z ∷ []) → Reversed s first z
  pub second_reversed : (l : List Place) (z : Place) → second.places ≡ l ++ (z ∷ []) → Reversed s second z
  -- No facet stands in a trace twice, and each is joined to the start's.
  pub no_repeat : NoDup (facets_of first)
  pub second_no_repeat : NoDup (facets_of second)
  pub joined : (f : Facet) → f ∈ facets_of first → InCurve s f
  pub second_joined : (f : Facet) → f ∈ facets_of second → InCurve s f
  -- Neither is full if its space is at least the number of facets in the curve of the start's facet.
  pub first_enough : (k : ℕ) → CurveHas s k → k ≤ a → ¬ (first.verdict ≡ full)
  pub second_enough : (k : ℕ) → CurveHas s k → k ≤ b → ¬ (second.verdict ≡ full)
  -- Whenever neither is full, all of this holds: together they list every facet of that curve and no other; if the curve
  -- closes, both verdicts are loop and each lists all of it; if it doesn't, neither verdict is loop, they share only the
  -- start's facet, and their counts add up to one more than the curve has facets.
  pub neither_full :
      ¬ (first.verdict ≡ full) →
      ¬ (second.verdict ≡ full) →
      NeitherFull (λ (p : Place). p.facet) (Shares (dimension s) (field_of s)) (CurveCloses s) (start_of s) first second
  -- The curve has a number of facets, and it closes or it does not.
  pub counted : (k : ℕ) × CurveHas s k
  pub closes_or_not : Dec (CurveCloses s)
