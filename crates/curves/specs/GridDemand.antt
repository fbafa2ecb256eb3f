-- The customer's third demand over the dimension and any field: the walks' record `Demand3` at the places of the grid, with the
-- paper's `Closes`.
use Rattle.std.specs.Prelude.{ℕ, Bool}
use Rattle.curves.specs.Grid.{Facet, Place, same_facet, turn}
use Rattle.curves.specs.Walk.{Trace, trace}
use Rattle.curves.specs.Step.{Stop, Field, step}
use Rattle.curves.specs.Joined.{Shares, Traceable, SideReadable, Closes}
use Rattle.curves.specs.WalkGrid.{Grid}
use Rattle.curves.specs.WalkDemand.{Demand3}

-- the facet of a place
abbrev pub facet_of : Place → Facet
facet_of p = p.facet

-- two places lie on the same facet: the test of Trace
abbrev pub same_facets : Place → Place → Bool
same_facets p q = same_facet p.facet q.facet

-- the trace from a place, with space for so many
abbrev pub trace_of : ℕ → Field → Place → ℕ → Trace Place Stop
trace_of n φ s space = trace (step n φ) same_facets s space

-- the grid has what walks need
abbrev pub WalksOn : ℕ → Field → Type 0
WalksOn n φ = Grid facet_of turn (step n φ) same_facets (Traceable n φ) (SideReadable n φ) (Shares n φ)

-- the demand on the traces from a place with space a and from the place turned with space b
abbrev pub GridDemand3 : ℕ → Field → Place → ℕ → ℕ → Type 0
GridDemand3 n φ s a b = Demand3 facet_of turn (step n φ) same_facets (Shares n φ) (Closes n φ s.facet) s a b
