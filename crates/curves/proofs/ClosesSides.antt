-- Two forms of "the curve closes" are equivalent: the paper's, for each facet of the curve and each of its two sides, and that of
-- the walks, for each place on the curve that Step does not refuse. Each facet of the curve is crossed and readable, so that Step
-- refuses neither of its places.
use Prim.Native.Nat.{ℕ, ◌<◌}
use mathlib.Core.Path.{subst}
use mathlib.Core.Logic.{◌↔◌}
use lib.Dec.{ltb}
use Rattle.exact.proofs.AndTests.{and_left}
use Rattle.curves.specs.Grid.{Facet, Place, facet_ok, place_ok}
use Rattle.curves.specs.Curve.{ClosesAtPlaces}
use Rattle.curves.specs.Step.{Field}
use Rattle.curves.specs.Joined.{Shares, Joined, Traceable, SideReadable, Closes}
use Rattle.curves.specs.GridDemand.{facet_of}
use Rattle.curves.proofs.IncidenceSides.{sided, sided_ok}
use Rattle.curves.proofs.WalkJoined.{joined_ok}
use Rattle.curves.proofs.GridStep.{accepted, accepted_traceable, traceable_side}
use Rattle.curves.proofs.GridWalk.{grid_walk}

-- what Step asks of a place it asks of the facet, for both sides
pub side_traceable : (n : ℕ) (φ : Field) (p : Place) → Traceable n φ p → (side : ℕ) → side < 2 → Traceable n φ (sided p.facet side)
unfolding place_ok
side_traceable n φ p o side l =
    let a = accepted n φ p o in
    accepted_traceable n φ (sided p.facet side)
    (record {
      form = sided_ok n p.facet side (and_left (facet_ok n p.facet) (ltb p.side 2) a.form) l;
      readable = a.readable;
      crosses = a.crosses;
    })

module _ (n : ℕ) (φ : Field) (pos : 0 < n) (s : Place) (o : Traceable n φ s) where
  -- Step refuses no place on the curve
  pub joined_traceable : (g : Facet) → Joined n φ s.facet g → (side : ℕ) → side < 2 → Traceable n φ (sided g side)
  joined_traceable g j side l =
      let p = joined_ok (grid_walk n φ pos) o j in
      subst (λ (f : Facet). Traceable n φ (sided f side)) p.2 (side_traceable n φ p.0 p.1 side l)

  pub closes_sides : Closes n φ s.facet ↔ ClosesAtPlaces (Shares n φ) facet_of (Traceable n φ) (SideReadable n φ) s.facet
  closes_sides =
      (λ c p t j. c p.facet j p.side (traceable_side n φ p t), λ c g j side l. c (sided g side) (joined_traceable g j side l) j)
