-- The grid is an instance of the walks, for every dimension from 1 on and over every field: what walks need of it is `grid_walk`.
use Prim.Native.Nat.{ℕ, ◌<◌}
use native.Mathlib.Decide.{ℕ_discrete}
use mathlib.Core.Path.{◌≡◌, sym, ap, ◌∙◌}
use mathlib.Core.Bool.{true}
use mathlib.Core.Logic.{◌⊎◌, inl, inr}
use Rattle.exact.specs.Simplex as Columns
use Rattle.exact.proofs.Simplex.{exit_only_other, exit_exit}
use Rattle.curves.specs.Grid.{Facet, Place, Incidence, turn, place_of, incidence}
use Rattle.curves.specs.Walk.{go}
use Rattle.curves.specs.Step.{Field, crossed_facet, step}
use Rattle.curves.specs.Joined.{IsFacetOf, Shares, Traceable}
use Rattle.curves.specs.GridDemand.{facet_of, WalksOn}
use Rattle.curves.proofs.SameFacet.{same_facet_sound, same_facet_apart, turn_turn, turn_moves, turn_facet, same_facet_places}
use Rattle.curves.proofs.IncidenceOf.{Valid, incidence_ok, place_incidence}
use Rattle.curves.proofs.IncidenceSides.{facet_out}
use Rattle.curves.proofs.GridStep.{accepted, turn_traceable, traceable_side, columns_of, AllReadable, without, without_valid, columns_simplex, crossed_columns, place_traceable, exit_of, step_goes, goes_step, step_place}

-- ---- a readable simplex with a crossed facet

module _ (n : ℕ) (φ : Field) (t : Incidence) (p : 0 < n) (v : Valid n t) (c : Columns.FacetCrossed n (columns_of φ t) t.out) where
  -- the simplex without the vertex opposite its other crossed facet
  abbrev pub across : Incidence
  across = without t (exit_of n φ t)

  pub other_only : Columns.OnlyOther n (Columns.FacetCrossed n (columns_of φ t)) t.out (exit_of n φ t)
  other_only = exit_only_other n (columns_of φ t) (columns_simplex n φ t p v) t.out v.out_bound c

  pub across_valid : Valid n across
  across_valid = without_valid n φ t p v (exit_of n φ t) other_only.low

  pub across_traceable : AllReadable φ t → Traceable n φ (place_of across)
  across_traceable r = place_traceable n φ across p across_valid r other_only.crosses

  -- the way back through the simplex
  pub across_back : without across (exit_of n φ across) ≡ t
  across_back = ap (without t) (exit_exit n (columns_of φ t) (columns_simplex n φ t p v) t.out v.out_bound c)

-- ---- facets that share a readable simplex

module _ (n : ℕ) (φ : Field) (pos : 0 < n) (f g : Facet) (σ : Shares n φ f g) where
  shared : ℕ → Incidence
  shared j = record { corner = σ.corner; order = σ.order; out = j }

  shared_valid : (h : Facet) (k : IsFacetOf n σ.corner σ.order h) → Valid n (shared k.out)
  unfolding shared
  shared_valid h k = record { order_is = σ.simplex.order_ok; corner_length = σ.simplex.corner_length; out_bound = k.out_ok }

  shared_facet : (h : Facet) (k : IsFacetOf n σ.corner σ.order h) → (place_of (shared k.out)).facet ≡ h
  unfolding shared place_of
  shared_facet h k = sym k.same

  shared_crossed :
      (h : Facet) (k : IsFacetOf n σ.corner σ.order h) → crossed_facet n φ h ≡ true
      → Columns.FacetCrossed n (columns_of φ (shared k.out)) k.out
  unfolding shared
  shared_crossed h k c =
      sym (crossed_columns n φ (shared k.out) pos (shared_valid h k)) ∙ ap (crossed_facet n φ) (shared_facet h k) ∙ c

  -- the first facet's place on the simplex's side
  first_place : Place
  first_place = place_of (shared σ.first.out)

  first_traceable : Traceable n φ first_place
  unfolding first_place shared
  first_traceable =
      place_traceable n φ (shared σ.first.out) pos (shared_valid f σ.first) σ.readable
      (shared_crossed f σ.first σ.first_crossed)

  -- they are the same facet, or a step leads from the one to the other
  pub shares_steps : (f ≡ g) ⊎ ((q : Place) × (y : Place) × Traceable n φ q × (q.facet ≡ f) × (step n φ q ≡ go y) × (y.facet ≡ g))
  unfolding first_place shared
  shares_steps = by_out (ℕ_discrete σ.first.out σ.second.out)
    where
      t : Incidence
      t = shared σ.first.out

      other : Columns.OnlyOther n (Columns.FacetCrossed n (columns_of φ t)) t.out (exit_of n φ t)
      other = other_only n φ t pos (shared_valid f σ.first) (shared_crossed f σ.first σ.first_crossed)

      by_out :
          Dec (σ.first.out ≡ σ.second.out) →
          (f ≡ g) ⊎ ((q : Place) × (y : Place) × Traceable n φ q × (q.facet ≡ f) × (step n φ q ≡ go y) × (y.facet ≡ g))
      by_out (yes e) =
          inl (sym (shared_facet f σ.first) ∙ ap (λ (j : ℕ). (place_of (shared j)).facet) e ∙ shared_facet g σ.second)
      by_out (no d) =
          let found : σ.second.out ≡ exit_of n φ t =
          other.only σ.second.out σ.second.out_ok d (shared_crossed g σ.second σ.second_crossed)
          in
          inr (
            first_place,
            turn (place_of (without t (exit_of n φ t))),
            first_traceable,
            shared_facet f σ.first,
            step_place n φ t pos (shared_valid f σ.first) σ.readable,
            turn_facet _ ∙ ap (λ (j : ℕ). (place_of (shared j)).facet) (sym found) ∙ shared_facet g σ.second,
          )

-- ---- a step

module _ (n : ℕ) (φ : Field) (pos : 0 < n) (p : Place) (o : Traceable n φ p) where
  here : Incidence
  here = incidence n p

  here_valid : Valid n here
  unfolding here
  here_valid = incidence_ok n p (accepted n φ p o).form

  here_place : place_of here ≡ p
  unfolding here
  here_place = place_incidence n p (accepted n φ p o).form

  here_crossed : Columns.FacetCrossed n (columns_of φ here) here.out
  here_crossed =
      sym (crossed_columns n φ here pos here_valid)
      ∙ ap (λ (q : Place). crossed_facet n φ q.facet) here_place ∙ (accepted n φ p o).crosses

  module _ (y : Place) (e : step n φ p ≡ go y) where
    step_target : y ≡ turn (place_of (across n φ here pos here_valid here_crossed))
    unfolding here
    step_target = (step_goes n φ p y e).target

    here_readable : AllReadable φ here
    unfolding here
    here_readable = (step_goes n φ p y e).readable

    pub step_traceable : Traceable n φ y
    step_traceable = rw step_target (turn_traceable n φ _ (across_traceable n φ here pos here_valid here_crossed here_readable))

    step_facet : y.facet ≡ (place_of (across n φ here pos here_valid here_crossed)).facet
    step_facet = ap facet_of step_target ∙ turn_facet _

    pub step_leaves : ¬ (y.facet ≡ p.facet)
    unfolding place_of
    step_leaves h =
        (other_only n φ here pos here_valid here_crossed).other
        (facet_out n here.corner here.order here.out (exit_of n φ here) pos
        here_valid.order_is here_valid.corner_length here_valid.out_bound
        (across_valid n φ here pos here_valid here_crossed).out_bound
        (ap facet_of here_place ∙ sym h ∙ step_facet))

    pub step_returns : step n φ (turn y) ≡ go (turn p)
    step_returns =
        let back : Incidence = across n φ here pos here_valid here_crossed in
        let ok : Traceable n φ (place_of back) = across_traceable n φ here pos here_valid here_crossed here_readable in
        ap (step n φ) (ap turn step_target ∙ turn_turn (place_of back) (traceable_side n φ (place_of back) ok))
        ∙ step_place n φ back pos (across_valid n φ here pos here_valid here_crossed) here_readable
        ∙ ap (λ (u : Incidence). go (turn (place_of u))) (across_back n φ here pos here_valid here_crossed)
        ∙ ap (λ (q : Place). go (turn q)) here_place

    pub step_shared : Shares n φ p.facet y.facet
    unfolding place_of
    step_shared =
        record {
          corner = here.corner;
          order = here.order;
          simplex = record { corner_length = here_valid.corner_length; order_ok = here_valid.order_is };
          readable = here_readable;
          first = record { out = here.out; out_ok = here_valid.out_bound; same = ap facet_of (sym here_place) };
          second = record { out = exit_of n φ here; out_ok = (across_valid n φ here pos here_valid here_crossed).out_bound; same = step_facet };
          first_crossed = (accepted n φ p o).crosses;
          second_crossed = (accepted n φ y step_traceable).crosses;
        }

-- ---- all that walks need

pub grid_walk : (n : ℕ) (φ : Field) → 0 < n → WalksOn n φ
grid_walk n φ pos =
    record {
      same_true = λ {p} {q} op oq. same_facet_sound p.facet q.facet;
      same_false = λ {p} {q} op oq. same_facet_apart p.facet q.facet;
      ok_turn = λ {p}. turn_traceable n φ p;
      turn_turn = λ {p} o. turn_turn p (traceable_side n φ p o);
      turn_ne = λ {p} o. turn_moves p (traceable_side n φ p o);
      facet_turn = λ {p} o. turn_facet p;
      facet_two = λ {p} {q} op oq e. same_facet_places q p (traceable_side n φ q oq) (traceable_side n φ p op) (sym e);
      ok_step = λ {p} {y} o. step_traceable n φ pos p o y;
      step_moves = λ {p} {y} o. step_leaves n φ pos p o y;
      step_back = λ {p} {y} o. step_returns n φ pos p o y;
      step_shares = λ {p} {y} o. step_shared n φ pos p o y;
      shares_step = λ {p} {g} o. shares_steps n φ pos p.facet g;
      side_go = λ {p} o r. (_, goes_step n φ p r);
      go_side = λ {p} {y} o e. (step_goes n φ p y e).readable;
    }
