-- There is one list of seams: two lists that are it are equal, and the computed one is it. Each seam has a least facet, and no two listed facets
-- belong to one seam.
use Prim.Native.Nat.{ℕ, ◌<◌}
use native.Mathlib.Omega.{arith}
use mathlib.Core.Path.{◌≡◌, refl, sym, ap, ◌∙◌, subst}
use mathlib.Core.Bool.{Bool, true, false, false≢true}
use mathlib.Core.Logic.{⊎_elim}
use mathlib.Core.List.Memᴰ
use mathlib.Core.List.{List, [], ◌∷◌}
use lib.IntN.{ℤ}
use lib.ListN.{length}
use lib.Dec.{ltb}
use Rattle.exact.proofs.AndTests.{and_left, and-true}
use Rattle.curves.specs.Grid.{Vertex, Facet, Place, turn, facet_ok, place_ok}
use Rattle.curves.specs.Walk.{full}
use Rattle.curves.specs.Curve.{◌∈◌, itself}
use Rattle.curves.specs.Step.{Field}
use Rattle.curves.specs.Joined.{Joined, Traceable}
use Rattle.curves.specs.Box.{within, box_facets}
use Rattle.curves.specs.GridDemand.{trace_of}
use Rattle.curves.proofs.Listed.{keep_member, keep_listed}
use Rattle.curves.proofs.Vertices.{facet_low_length}
use Rattle.curves.proofs.WalkJoined.{joined_ok}
use Rattle.curves.proofs.GridStep.{accepted, accepted_traceable, turn_traceable}
use Rattle.curves.proofs.GridWalk.{grid_walk}
use Rattle.curves.proofs.JoinedLaws.{joined_trans, joined_sym}
use Rattle.curves.proofs.Demand.{traceable_listed, curve_finite, room_enough}
use Rattle.seamlist.specs.Seams.{facet_before, front, OnSeam, Least, SeamList, least_test, seams_among}
use Rattle.seamlist.proofs.Rising.{keep_rising, rising_unique}
use Rattle.seamlist.proofs.FacetOrder.{before_irreflexive, before_transitive, before_total}
use Rattle.seamlist.proofs.BoxRises.{box_facets_rise}
use Rattle.seamlist.proofs.LeastTest.{least_tested, tested_least}

-- ---- facets on a seam

module _ (n : ℕ) (φ : Field) where
  -- the facet of a place that a step takes
  pub on_seam : (p : Place) → Traceable n φ p → OnSeam n φ p.facet
  unfolding front place_ok
  on_seam p o =
      let a = accepted n φ p o in
      accepted_traceable n φ (front p.facet)
      (record {
        form = and-true (and_left (facet_ok n p.facet) (ltb p.side 2) a.form) refl;
        readable = a.readable;
        crosses = a.crosses;
      })

  pub seam_low_length : (f : Facet) → OnSeam n φ f → length f.low ≡ n
  unfolding front place_ok
  seam_low_length f o = facet_low_length n f (and_left (facet_ok n f) (ltb 0 2) (accepted n φ (front f) o).form)

  -- what is joined to a facet of a seam is one of it
  pub joined_on : 0 < n → (f g : Facet) → OnSeam n φ f → Joined n φ f g → OnSeam n φ g
  unfolding front
  joined_on large f g o j =
      let t = joined_ok (grid_walk n φ large) o j in
      subst (OnSeam n φ) t.2 (on_seam t.0 t.1)

  -- ---- at most one

  -- two least facets that are joined are one
  pub least_unique : (f g : Facet) → Least n φ f → Least n φ g → Joined n φ f g → f ≡ g
  least_unique f g l m j =
      before_total f g (seam_low_length f l.on ∙ sym (seam_low_length g m.on)) (m.first f (joined_sym j)) (l.first g j)

  -- no facet belongs to two listed seams
  pub one_seam : {l : List Facet} → SeamList n φ l → (f g h : Facet) → f ∈ l → g ∈ l → Joined n φ f h → Joined n φ g h → f ≡ g
  one_seam s f g h i j u v = least_unique f g (s.only f i) (s.only g j) (joined_trans u (joined_sym v))

  listed_too : {l m : List Facet} → SeamList n φ l → SeamList n φ m → (f : Facet) → f ∈ l → f ∈ m
  listed_too s t f i =
      let l : Least n φ f = s.only f i in
      let w = t.every_seam f l.on in
      Memᴰ.cast (sym (least_unique w.0 f (t.only w.0 w.1) l w.2)) w.1

  pub seams_unique : {l m : List Facet} → SeamList n φ l → SeamList n φ m → l ≡ m
  seams_unique {l} {m} s t =
      rising_unique before_irreflexive before_transitive l m s.rising t.rising (listed_too s t) (listed_too t s)

-- ---- each seam has a least facet

-- an element of a list before which there is none in the list
record First (l : List Facet) : Type 0 where
  pub facet : Facet
  pub listed : facet ∈ l
  pub least : (g : Facet) → g ∈ l → facet_before g facet ≡ false

first_of : (f : Facet) (l : List Facet) → First (f ∷ l)
first_of f [] =
    record {
      facet = f;
      listed = Memᴰ.head refl;
      least =
          λ g i.
          ⊎_elim (λ e. ap (λ h. facet_before h f) e ∙ before_irreflexive f) (λ j. absurd (Memᴰ.not-nil j)) (Memᴰ.cases_cons i);
    }
first_of f (g ∷ l) = go (first_of g l)
  where
    go : First (g ∷ l) → First (f ∷ g ∷ l)
    go w = by_test (facet_before f w.facet) refl
      where
        by_test : (b : Bool) → facet_before f w.facet ≡ b → First (f ∷ g ∷ l)
        by_test false e =
            record {
              facet = w.facet;
              listed = Memᴰ.tail w.listed;
              least = λ h i. ⊎_elim (λ q. ap (λ k. facet_before k w.facet) q ∙ e) (w.least h) (Memᴰ.cases_cons i);
            }
        by_test true e =
            record {
              facet = f;
              listed = Memᴰ.head refl;
              least =
                  λ h i.
                  ⊎_elim
                  (λ q. ap (λ k. facet_before k f) q ∙ before_irreflexive f)
                  (λ j. not_before h (w.least h j) (facet_before h f) refl)
                  (Memᴰ.cases_cons i);
            }
          where
            not_before : (h : Facet) → facet_before h w.facet ≡ false → (b : Bool) → facet_before h f ≡ b → facet_before h f ≡ false
            not_before h not_first true k = absurd (false≢true (sym not_first ∙ before_transitive h f w.facet k e))
            not_before h not_first false k = k

-- ---- the computed list

module _
    (n : ℕ) (φ : Field) (large : 0 < n) (ls hs : List ℤ)
    (inside : (v : Vertex) → length v ≡ n → φ.in_box v ≡ true → within ls hs v ≡ true) where
  -- each facet on a seam is joined to a least one
  pub seam_least : (f : Facet) → OnSeam n φ f → (g : Facet) × Least n φ g × Joined n φ g f
  unfolding front
  seam_least f o =
      let c = (curve_finite n φ large ls hs inside (front f) o).1 in
      let w = first_of f c.facets in
      let j : Joined n φ f w.facet = ⊎_elim (λ e. subst (Joined n φ f) (sym e) itself) (c.only w.facet) (Memᴰ.cases_cons w.listed) in (
        w.facet,
        record {
          on = joined_on n φ large f w.facet o j;
          first = λ g k. w.least g (Memᴰ.tail (c.every g (joined_trans j k)));
        },
        joined_sym j,
      )

  module _ (lows : length ls ≡ n) (highs : length hs ≡ n) where
    pub seam_list : SeamList n φ (seams_among n φ (length (box_facets n ls hs)) (box_facets n ls hs))
    unfolding seams_among front
    seam_list =
        record {
          rising = keep_rising (least_test n φ room) (box_facets_rise n ls hs (lows ∙ sym highs));
          only = λ f i. tested_least n φ large room f (never (front f)) (λ o. never (turn (front f)) (turn_traceable n φ (front f) o))
              (keep_member (least_test n φ room) (box_facets n ls hs) i).1;
          every_seam =
              λ f o.
              let w = seam_least f o in
              let listed : w.0 ∈ box_facets n ls hs = traceable_listed n φ ls hs inside (front w.0) w.1.on in
              (w.0, keep_listed (least_test n φ room) (box_facets n ls hs) listed (least_tested n φ large w.1 room), w.2);
        }
      where
        room : ℕ
        room = length (box_facets n ls hs)

        never : (p : Place) → Traceable n φ p → ¬ ((trace_of n φ p room).verdict ≡ full)
        never p o = room_enough n φ large (box_facets n ls hs) (traceable_listed n φ ls hs inside) p o room (omega arith)
