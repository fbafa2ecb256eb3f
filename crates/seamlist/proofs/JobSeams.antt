-- Every seam in a job's box: the computed list is the list of seams, the answer has what the third demand says of it, a refusal is Open's, and
-- the start counts only for its form.
use Prim.Native.Nat.{ℕ, suc, ◌≤◌, ◌<◌}
use native.Mathlib.Omega.{arith}
use mathlib.Core.Path.{◌≡◌, refl, sym, ap, ◌∙◌, subst}
use mathlib.Core.Bool.{Bool, true, false, cond, false≢true}
use mathlib.Core.List.Memᴰ
use mathlib.Core.List.{List, [], ◌∷◌, ◌++◌}
use lib.ListN.{length, take, drop, get_or, length-take, length-map, take-append-drop}
use lib.Seq.{take_all, split_at}
use lib.Dec.{ltb}
use borrow.Author.Tests.{ltb-true, ltb-false}
use Rattle.exact.proofs.CountFrom.{length_map_count_from}
use Rattle.curves.specs.Grid.{Facet, Place}
use Rattle.curves.specs.Curve.{◌∈◌, itself}
use Rattle.curves.specs.Joined.{Joined}
use Rattle.paper.specs.Job.{dimension, body, low_end, high_end, open_refusal}
use Rattle.paper.specs.Values.{field_of}
use Rattle.paper.specs.Operations.{answered, space_of, encode_places, places_over}
use Rattle.paper.specs.Demand3.{read_places}
use Rattle.paper.proofs.Refusals.{answered_inv}
use Rattle.paper.proofs.Opens.{Opens, opens, opens_range}
use Rattle.paper.proofs.PlacesWritten.{Writable, traceable_writable, places_read}
use Rattle.paper.proofs.CurveCounted.{box_within}
use Rattle.seamlist.specs.Seams.{facet_before, front, Rising, SeamList}
use Rattle.seamlist.specs.JobSeams.{low_ends, high_ends, job_facets, seam_facets, complete, full, Seams, first_seams, seamed, seams_after}
use Rattle.seamlist.specs.JobSeams.{InSeam, SeamOf, InOneOf, SeamDemand}
use Rattle.seamlist.proofs.Rising.{rising_parts}
use Rattle.seamlist.proofs.FacetOrder.{before_irreflexive}
use Rattle.seamlist.proofs.SeamList.{one_seam, seam_list}

-- ---- the list

pub job_seams : {s : List ℕ} → Opens s → SeamList (dimension s) (field_of s) (seam_facets s)
unfolding seam_facets job_facets low_ends high_ends
job_seams {s} o =
    seam_list (dimension s) (field_of s) (omega (arith, (opens_range o).low)) (low_ends s) (high_ends s) (box_within s)
    (length_map_count_from (low_end (body s 0)) 0 (dimension s)) (length_map_count_from (high_end (body s 0)) 0 (dimension s))

-- ---- the first places of a list of seams

extent_complete : (space : ℕ) (l : List Facet) → (first_seams l space).extent ≡ complete → length l ≤ space
unfolding first_seams
extent_complete space l e = go (ltb space (length l)) refl e
  where
    go : (b : Bool) → ltb space (length l) ≡ b → cond b full complete ≡ complete → length l ≤ space
    go true h k = absurd (let z : ◌≡◌ {A = ℕ} 0 1 = cc in let bad : ⊥ = omega arith in bad)
    go false h k = ltb-false space (length l) h

extent_full : (space : ℕ) (l : List Facet) → (first_seams l space).extent ≡ full → space < length l
unfolding first_seams
extent_full space l e = go (ltb space (length l)) refl e
  where
    go : (b : Bool) → ltb space (length l) ≡ b → cond b full complete ≡ full → space < length l
    go true h k = ltb-true space (length l) h
    go false h k = absurd (let z : ◌≡◌ {A = ℕ} 0 1 = cc in let bad : ⊥ = omega arith in bad)

pub taken : {A : Type 0} (k : ℕ) (l : List A) {x : A} → x ∈ take k l → x ∈ l
taken k l {x} i = subst (λ m. x ∈ m) (take-append-drop k l) (Memᴰ.append_left (drop k l) i)

module _ {s : List ℕ} (o : Opens s) (l : List Facet) (seams : SeamList (dimension s) (field_of s) l) (space : ℕ) where
  -- a listed place is the front of a listed facet
  record Fronts (p : Place) : Type 0 where
    pub facet : Facet
    pub among : facet ∈ take space l
    pub listed : facet ∈ l
    pub is : front facet ≡ p

  fronts : (p : Place) → p ∈ (first_seams l space).places → Fronts p
  unfolding first_seams
  fronts p i =
      let w = Memᴰ.of_map front (take space l) i in
      record { facet = w.0; among = w.1; listed = taken space l w.1; is = w.2 }

  -- the facets of a listed seam are joined to that facet
  of_front : {p : Place} (u : Fronts p) (f : Facet) → SeamOf s p f → Joined (dimension s) (field_of s) u.facet f
  unfolding front
  of_front u f j = subst (λ (q : Place). SeamOf s q f) (sym u.is) j

  pub first_writable : (p : Place) → p ∈ (first_seams l space).places → Writable (dimension s) p
  first_writable p i =
      let w = fronts p i in
      subst (Writable (dimension s)) w.is (traceable_writable o (front w.facet) (seams.only w.facet w.listed).on)

  pub first_side : (p : Place) → p ∈ (first_seams l space).places → p.side ≡ 0
  unfolding front
  first_side p i = ap (λ (q : Place). q.side) (sym (fronts p i).is)

  pub first_room : length (first_seams l space).places ≤ space
  unfolding first_seams
  first_room = simp (length-map, length-take) (omega arith)

  full_length : (first_seams l space).extent ≡ full → length (first_seams l space).places ≡ space
  unfolding first_seams
  full_length e = let more : space < length l = extent_full space l e in simp (length-map, length-take) (omega arith)

  -- each facet on a seam belongs to one listed, if the answer is complete
  one_of : (first_seams l space).extent ≡ complete → (f : Facet) → InSeam s f → InOneOf s (first_seams l space).places f
  unfolding first_seams front
  one_of e f t =
      let all : take space l ≡ l = take_all space l (extent_complete space l e) in
      let w = seams.every_seam f t in
      record {
        place = front w.0;
        listed = Memᴰ.map front (subst (λ m. w.0 ∈ m) (sym all) w.1);
        belongs = w.2;
        only =
            λ q i j.
            let u = fronts q i in
            sym u.is ∙ ap front (one_seam (dimension s) (field_of s) seams u.facet w.0 f u.listed w.1 (of_front u f j) w.2);
      }

  -- a facet of a seam that is not listed, if it is full: the next of the list
  more_remains : (first_seams l space).extent ≡ full → (f : Facet) × InSeam s f × ((p : Place) → p ∈ (first_seams l space).places → ¬ SeamOf s p f)
  unfolding front
  more_remains e =
      let some : Facet = record { low = []; masks = [] } in
      let f : Facet = get_or l space some in
      let parts : l ≡ take space l ++ (f ∷ drop (suc space) l) = split_at l space some (extent_full space l e) in
      let listed : f ∈ l = subst (λ m. f ∈ m) (sym parts) (Memᴰ.append_right (take space l) (Memᴰ.head refl)) in (
        f,
        (seams.only f listed).on,
        λ p i j.
            let u = fronts p i in
            let same : u.facet ≡ f = one_seam (dimension s) (field_of s) seams u.facet f f u.listed listed (of_front u f j) itself in
            let less : facet_before u.facet f ≡ true =
            rising_parts (take space l) (subst (Rising facet_before) parts seams.rising) u.facet f u.among (Memᴰ.head refl) in
            false≢true (sym (before_irreflexive f) ∙ subst (λ g. facet_before g f ≡ true) same less),
      )

-- ---- what is answered

first_demand : {s : List ℕ} (o : Opens s) (buffer : List ℕ) → SeamDemand s buffer (first_seams (seam_facets s) (space_of s buffer))
unfolding seams_after places_over
first_demand {s} o buffer =
    let l : List Facet = seam_facets s in
    let seams : SeamList (dimension s) (field_of s) l = job_seams o in
    let space : ℕ = space_of s buffer in
    let ps : List Place = (first_seams l space).places in
    let written : read_places (dimension s) (length ps) (places_over ps buffer) ≡ ps =
    places_read (dimension s) ps (drop (length (encode_places ps)) buffer) (first_writable o l seams space) in
    record {
      list = l;
      is_list = seams;
      is_first = refl;
      written = written;
      room = first_room o l seams space;
      complete_one = λ e f t. subst (λ qs. InOneOf s qs f) (sym written) (one_of o l seams space e f t);
      full_room = full_length o l seams space;
      full_more = more_remains o l seams space;
    }

pub seamed_demand : (s buffer : List ℕ) (r : Seams) → seamed s (space_of s buffer) ≡ answered r → SeamDemand s buffer r
unfolding seamed
seamed_demand s buffer r e =
    let u = answered_inv (open_refusal s) (first_seams (seam_facets s) (space_of s buffer)) r e in
    subst (SeamDemand s buffer) u.is (first_demand (opens s u.none) buffer)
