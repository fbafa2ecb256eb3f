-- What walks need of a grid of simplices: the assumptions of every theorem on walks, in one record.
-- A place is a facet with a side. `Ok p`: the facet of p is crossed and readable. `Side p`: the simplex on the side of p is readable.
-- `Shares f g`: the crossed facets f and g share a readable simplex.
use Rattle.std.specs.Prelude.{◌≡◌, Bool, true, false, ◌⊎◌}
use Rattle.curves.specs.Walk.{Next, go}

pub record Grid
    {P W F : Type 0}
    (facet : P → F)
    (turn : P → P)
    (step : P → Next P W)
    (same : P → P → Bool)
    (Ok Side : P → Type 0)
    (Shares : F → F → Type 0)
    : Type 0 where
  -- the test of Trace compares facets
  pub same_true : {p q : P} → Ok p → Ok q → same p q ≡ true → facet p ≡ facet q
  pub same_false : {p q : P} → Ok p → Ok q → same p q ≡ false → ¬ (facet p ≡ facet q)
  -- a facet has exactly two places, each the other turned
  pub ok_turn : {p : P} → Ok p → Ok (turn p)
  pub turn_turn : {p : P} → Ok p → turn (turn p) ≡ p
  pub turn_ne : {p : P} → Ok p → ¬ (turn p ≡ p)
  pub facet_turn : {p : P} → Ok p → facet (turn p) ≡ facet p
  pub facet_two : {p q : P} → Ok p → Ok q → facet p ≡ facet q → (q ≡ p) ⊎ (q ≡ turn p)
  -- a step leads to another crossed facet, and can be taken back
  pub ok_step : {p y : P} → Ok p → step p ≡ go y → Ok y
  pub step_moves : {p y : P} → Ok p → step p ≡ go y → ¬ (facet y ≡ facet p)
  pub step_back : {p y : P} → Ok p → step p ≡ go y → step (turn y) ≡ go (turn p)
  -- facets that share a readable simplex are those that a step leads between
  pub step_shares : {p y : P} → Ok p → step p ≡ go y → Shares (facet p) (facet y)
  pub shares_step :
      {p : P} {g : F} →
      Ok p →
      Shares (facet p) g →
      (facet p ≡ g) ⊎ ((q : P) × (y : P) × Ok q × (facet q ≡ facet p) × (step q ≡ go y) × (facet y ≡ g))
  -- a step goes on exactly if the simplex on the place's side is readable
  pub side_go : {p : P} → Ok p → Side p → (y : P) × (step p ≡ go y)
  pub go_side : {p y : P} → Ok p → step p ≡ go y → Side p
