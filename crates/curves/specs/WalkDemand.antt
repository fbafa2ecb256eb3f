-- The customer's third demand, over abstract places, sentence by sentence.
-- `Demand3 .. s a b` speaks of the trace from s with space a and the trace from s turned with space b. `Closed` says that the
-- curve of the facet of s closes.
use Rattle.std.specs.Prelude.{ℕ, ◌+◌, ◌≤◌, ◌≡◌, Bool, ◌⊎◌, List, [], ◌∷◌, ◌++◌, map, reverse, length}
use Rattle.curves.specs.Walk.{Next, loop, full, Trace, trace}
use Rattle.curves.specs.Curve.{◌∈◌, NoDup, Joined, HasFacets}

module _ {P W F : Type 0} (facet : P → F) where
  -- If the curve closes: both verdicts are loop and each trace lists all of it.
  pub record BothLoop (Shares : F → F → Type 0) (s : P) (t b : Trace P W) : Type 0 where
    pub first_loop : t.verdict ≡ loop
    pub second_loop : b.verdict ≡ loop
    pub first_every : (f : F) → Joined Shares (facet s) f → f ∈ map facet t.places
    pub second_every : (f : F) → Joined Shares (facet s) f → f ∈ map facet b.places

  -- If it does not: neither verdict is loop, they share only the start's facet, and their counts add up to one more than
  -- the curve has facets.
  pub record NeitherLoop (Shares : F → F → Type 0) (s : P) (t b : Trace P W) : Type 0 where
    pub first_not_loop : ¬ (t.verdict ≡ loop)
    pub second_not_loop : ¬ (b.verdict ≡ loop)
    pub share_start : (f : F) → f ∈ map facet t.places → f ∈ map facet b.places → f ≡ facet s
    pub counts : (k : ℕ) → HasFacets Shares (facet s) k → length t.places + length b.places ≡ k + 1

  -- What holds of the two traces whenever neither is full: together they list every facet of the curve and no other, and
  -- the verdicts tell whether it closes.
  pub record NeitherFull (Shares : F → F → Type 0) (Closed : Type 0) (s : P) (t b : Trace P W) : Type 0 where
    pub every : (f : F) → Joined Shares (facet s) f → (f ∈ map facet t.places) ⊎ (f ∈ map facet b.places)
    pub only : (f : F) → (f ∈ map facet t.places) ⊎ (f ∈ map facet b.places) → Joined Shares (facet s) f
    pub closed : Closed → BothLoop Shares s t b
    pub not_closed : ¬ Closed → NeitherLoop Shares s t b

  pub record Demand3
      (turn : P → P)
      (step : P → Next P W)
      (same : P → P → Bool)
      (Shares : F → F → Type 0)
      (Closed : Type 0)
      (s : P)
      (a b : ℕ)
      : Type 0 where
    -- If the trace lists a place at all, the trace from its last place turned, with space for just as many, lists the same
    -- places in reverse down to the start, each turned.
    pub reversed :
        (l : List P) (z : P) → (trace step same s a).places ≡ l ++ (z ∷ []) →
        (trace step same (turn z) (length (trace step same s a).places)).places ≡ map turn (reverse (trace step same s a).places)
    -- No facet stands in a trace twice, and each is joined to the start's.
    pub no_repeat : NoDup (map facet (trace step same s a).places)
    pub joined : (f : F) → f ∈ map facet (trace step same s a).places → Joined Shares (facet s) f
    -- Neither is full if its space is at least the number of facets in the curve of the start's facet.
    pub first_enough : (k : ℕ) → HasFacets Shares (facet s) k → k ≤ a → ¬ ((trace step same s a).verdict ≡ full)
    pub second_enough : (k : ℕ) → HasFacets Shares (facet s) k → k ≤ b → ¬ ((trace step same (turn s) b).verdict ≡ full)
    -- Whenever neither is full, all of this holds.
    pub neither_full :
        ¬ ((trace step same s a).verdict ≡ full) →
        ¬ ((trace step same (turn s) b).verdict ≡ full) →
        NeitherFull Shares Closed s (trace step same s a) (trace step same (turn s) b)
