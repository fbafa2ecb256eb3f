-- A walk that is over has met no facet before its start's, unless that is how it is over.
use Rattle.std.proofs.Common.{◌≡◌, ℕ, List, ℤ, Err, not, sym}
use denote.Enum.Bare.{sameb}
use Rattle.curves.specs.Grid.{Place}
use Rattle.paper.specs.declared.HeldPlace.{HeldPlace}
use Rattle.places.specs.Held.{place_as}
use Rattle.least.specs.Search.{clear_from, SoughtIs}
use Rattle.least.specs.declared.search.End as End
use Rattle.least.specs.contracts.search.End.{the_type}

pub clear_to_end : (s : List ℕ) (n : ℕ) (start : HeldPlace) (x : Place) (cells : List ℤ) (e : End.End) → SoughtIs s n start x (Err e) cells
    → not (sameb the_type e End.TheVariants.Before) ≡ clear_from s (place_as n start) x
clear_to_end s n start x cells End.TheVariants.Before h = sym h
clear_to_end s n start x cells End.TheVariants.Closed h = sym h.1
clear_to_end s n start x cells End.TheVariants.Ended h = sym h
