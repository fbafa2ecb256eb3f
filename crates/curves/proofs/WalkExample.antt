-- Two grids of three facets, so that nothing shown of walks is empty: a ring, whose curve closes, and a row, whose curve does not.
-- Both are made from moves: a facet has a neighbour, or none, in each of two directions.
use Prim.Native.Nat.{ℕ, ◌+◌}
use native.Mathlib.Omega.{arith}
use mathlib.Core.Path.{◌≡◌, refl, sym, ◌∙◌, ap, subst}
use mathlib.Core.Bool.{Bool, true, false, not, false≢true}
use mathlib.Core.Logic.{◌⊎◌, inl, inr}
use mathlib.Core.List.Memᴰ
use mathlib.Core.List.{[], ◌∷◌}
use Rattle.curves.specs.Walk.{Next, stop, go, loop, stopped, full, after_test, after_step, trace_from, trace}
use Rattle.curves.specs.Curve.{◌∈◌, Joined, ClosesAtPlaces, HasFacets}
use Rattle.curves.specs.WalkGrid.{Grid}
use Rattle.curves.specs.WalkDemand.{Demand3}
use Rattle.curves.proofs.WalkTrace.{stopped_not_full, loop_not_full, loop_not_stopped, trace_traced}
use Rattle.curves.proofs.WalkClosed.{loop_closes, closes_loop}
use Rattle.curves.proofs.WalkCount.{facets_exist}
use Rattle.curves.proofs.WalkDemand.{demand3}

data Three : Type 0 where
  a : Three
  b : Three
  c : Three

-- A place: a facet and the direction in which it looks.
data Place : Type 0 where
  at : Three → Bool → Place

abbrev facet : Place → Three
facet (at f d) = f

abbrev turn : Place → Place
turn (at f d) = at f (not d)

-- the direction is kept
abbrev onto : Bool → Next Three Unit → Next Place Unit
onto d (stop w) = stop w
onto d (go h) = go (at h d)

abbrev equal : Three → Three → Bool
equal a a = true
equal a b = false
equal a c = false
equal b a = false
equal b b = true
equal b c = false
equal c a = false
equal c b = false
equal c c = true

abbrev same : Place → Place → Bool
same (at f d) (at h e) = equal f h

equal_true : (f h : Three) → equal f h ≡ true → f ≡ h
equal_true a a e = refl
equal_true a b e = absurd (false≢true e)
equal_true a c e = absurd (false≢true e)
equal_true b a e = absurd (false≢true e)
equal_true b b e = refl
equal_true b c e = absurd (false≢true e)
equal_true c a e = absurd (false≢true e)
equal_true c b e = absurd (false≢true e)
equal_true c c e = refl

equal_self : (f : Three) → equal f f ≡ true
equal_self a = refl
equal_self b = refl
equal_self c = refl

same_facet_lem : (p q : Place) → same p q ≡ true → facet p ≡ facet q
same_facet_lem (at f d) (at h e) k = equal_true f h k

facet_same : (p q : Place) → facet p ≡ facet q → same p q ≡ true
facet_same (at f d) (at h e) k = ap (λ x. equal x h) k ∙ equal_self h

turn_twice : (p : Place) → turn (turn p) ≡ p
turn_twice (at f true) = refl
turn_twice (at f false) = refl

turn_other : (p : Place) → ¬ (turn p ≡ p)
turn_other (at f true) e = false≢true (cc)
turn_other (at f false) e = false≢true (cc)

turn_facet : (p : Place) → facet (turn p) ≡ facet p
turn_facet (at f d) = refl

two_places : (p q : Place) → facet p ≡ facet q → (q ≡ p) ⊎ (q ≡ turn p)
two_places (at f true) (at h true) e = inl (cc)
two_places (at f true) (at h false) e = inr (cc)
two_places (at f false) (at h true) e = inr (cc)
two_places (at f false) (at h false) e = inl (cc)

onto_go : (d : Bool) (o : Next Three Unit) {y : Place} → onto d o ≡ go y → (h : Three) × (o ≡ go h) × (at h d ≡ y)
onto_go d (stop w) e = let z : ◌≡◌ {A = ℕ} 0 1 = cc in absurd (let bad : ⊥ = omega arith in bad)
onto_go d (go h) e = (h, refl, cc)

module _ (move : Bool → Three → Next Three Unit) where
  abbrev step : Place → Next Place Unit
  step (at f d) = onto d (move d f)

  abbrev Ok : Place → Type 0
  Ok p = Unit

  abbrev Side : Place → Type 0
  Side p = (y : Place) × (step p ≡ go y)

  abbrev Shares : Three → Three → Type 0
  Shares f h = (d : Bool) × (move d f ≡ go h)

  -- What a move must keep to: the other direction leads back, from another facet.
  abbrev Fits : Bool → Three → Next Three Unit → Type 0
  Fits d f (stop w) = Unit
  Fits d f (go h) = (move (not d) h ≡ go f) × (equal h f ≡ false)

  module _ (fits : (d : Bool) (f : Three) → Fits d f (move d f)) where
    fitting : (d : Bool) (f h : Three) → move d f ≡ go h → (move (not d) h ≡ go f) × (equal h f ≡ false)
    fitting d f h e = subst (Fits d f) e (fits d f)

    made_back : (p y : Place) → step p ≡ go y → step (turn y) ≡ go (turn p)
    made_back (at f d) y e =
        let t = onto_go d (move d f) e in
        subst (λ z. step (turn z) ≡ go (at f (not d))) t.2 (ap (onto (not d)) (fitting d f t.0 t.1).0)

    made_moves : (p y : Place) → step p ≡ go y → ¬ (facet y ≡ facet p)
    made_moves (at f d) y e h =
        let t = onto_go d (move d f) e in
        false≢true (sym (fitting d f t.0 t.1).1 ∙ ap (λ k. equal k f) (ap facet t.2 ∙ h) ∙ equal_self f)

    made_shares : (p y : Place) → step p ≡ go y → Shares (facet p) (facet y)
    made_shares (at f d) y e = let t = onto_go d (move d f) e in (d, t.1 ∙ ap (λ z. go (facet z)) t.2)

    made : Grid facet turn step same Ok Side Shares
    made =
        record {
          same_true = λ {p} {q} op oq e. same_facet_lem p q e;
          same_false = λ {p} {q} op oq e h. false≢true (sym e ∙ facet_same p q h);
          ok_turn = λ o. tt;
          turn_turn = λ {p} o. turn_twice p;
          turn_ne = λ {p} o. turn_other p;
          facet_turn = λ {p} o. turn_facet p;
          facet_two = λ {p} {q} op oq. two_places p q;
          ok_step = λ o e. tt;
          step_moves = λ {p} {y} o. made_moves p y;
          step_back = λ {p} {y} o. made_back p y;
          step_shares = λ {p} {y} o. made_shares p y;
          shares_step =
              λ {p} {g} o t.
              inr (at (facet p) t.0, at g t.0, tt, refl, ap (onto t.0) t.1, refl);
          side_go = λ o t. t;
          go_side = λ {p} {y} o e. (y, e);
        }

-- ---- the ring

abbrev ring : Bool → Three → Next Three Unit
ring true a = go b
ring true b = go c
ring true c = go a
ring false a = go c
ring false b = go a
ring false c = go b

ring_fits : (d : Bool) (f : Three) → Fits ring d f (ring d f)
ring_fits true a = (refl, refl)
ring_fits true b = (refl, refl)
ring_fits true c = (refl, refl)
ring_fits false a = (refl, refl)
ring_fits false b = (refl, refl)
ring_fits false c = (refl, refl)

abbrev ring_grid : Grid facet turn (step ring) same (Ok ring) (Side ring) (Shares ring)
ring_grid = made ring ring_fits

-- More space than needed costs nothing.
ring_trace : trace (step ring) same (at a true) 1000000 ≡ record { verdict = loop; places = at a true ∷ at b true ∷ at c true ∷ [] }
unfolding trace trace_from after_step after_test
ring_trace = refl

ring_full : trace (step ring) same (at a true) 2 ≡ record { verdict = full; places = at a true ∷ at b true ∷ [] }
unfolding trace trace_from after_step after_test
ring_full = refl

ring_closes : ClosesAtPlaces (Shares ring) facet (Ok ring) (Side ring) a
unfolding trace trace_from after_step after_test
ring_closes = loop_closes ring_grid {s = at a true} tt (trace_traced ring_grid tt 2) refl

ring_demand : (m n : ℕ) → Demand3 facet turn (step ring) same (Shares ring) (ClosesAtPlaces (Shares ring) facet (Ok ring) (Side ring) a) (at a true) m n
ring_demand = demand3 ring_grid tt

-- The trace the other way round lists all of it too.
ring_other : (f : Three) → Joined (Shares ring) a f → f ∈ (a ∷ c ∷ b ∷ [])
unfolding trace trace_from after_step after_test
ring_other = (((ring_demand 3 3).neither_full (loop_not_full refl) (loop_not_full refl)).closed ring_closes).second_every

-- ---- the row

abbrev row : Bool → Three → Next Three Unit
row true a = go b
row true b = go c
row true c = stop tt
row false a = stop tt
row false b = go a
row false c = go b

row_fits : (d : Bool) (f : Three) → Fits row d f (row d f)
row_fits true a = (refl, refl)
row_fits true b = (refl, refl)
row_fits true c = tt
row_fits false a = tt
row_fits false b = (refl, refl)
row_fits false c = (refl, refl)

abbrev row_grid : Grid facet turn (step row) same (Ok row) (Side row) (Shares row)
row_grid = made row row_fits

row_trace : trace (step row) same (at b true) 1000000 ≡ record { verdict = stopped tt; places = at b true ∷ at c true ∷ [] }
unfolding trace trace_from after_step after_test
row_trace = refl

row_not_closes : ClosesAtPlaces (Shares row) facet (Ok row) (Side row) b → ⊥
unfolding trace trace_from after_step after_test
row_not_closes h =
    loop_not_stopped (closes_loop row_grid {s = at b true} tt (trace_traced row_grid tt 2) (stopped_not_full refl) h) refl

row_demand : (m n : ℕ) → Demand3 facet turn (step row) same (Shares row) (ClosesAtPlaces (Shares row) facet (Ok row) (Side row) b) (at b true) m n
row_demand = demand3 row_grid tt

every_three : (p : Place) → facet p ∈ (a ∷ b ∷ c ∷ [])
every_three (at a d) = Memᴰ.head refl
every_three (at b d) = Memᴰ.tail (Memᴰ.head refl)
every_three (at c d) = Memᴰ.tail (Memᴰ.tail (Memᴰ.head refl))

-- Two traces of two places each: one more than the three facets.
row_facets : HasFacets (Shares row) b 3
unfolding trace trace_from after_step after_test
row_facets =
    let t = facets_exist row_grid {s = at b true} tt (a ∷ b ∷ c ∷ []) (λ p o. every_three p) in
    let counts : 4 ≡ t.0 + 1 =
    (((row_demand 3 3).neither_full (stopped_not_full refl) (stopped_not_full refl)).not_closed row_not_closes).counts t.0 t.1
    in
    subst (HasFacets (Shares row) b) (let k : t.0 ≡ 3 = omega arith in k) t.1
