-- What a job is answered: Open's refusal and an unchanged buffer, or places that differ, each with side 0, over the front of the buffer. The start
-- counts only for its form.
use Prim.Native.Nat.{ℕ, suc, zero, ◌*◌, ◌/◌, ◌≤◌}
use native.Mathlib.Omega.{arith}
use native.Mathlib.Nat.{mul-le-mul_left, mul-div-le, le_trans}
use mathlib.Core.Path.{◌≡◌, refl, sym, ap, ◌∙◌, subst}
use mathlib.Core.Bool.{true}
use mathlib.Core.List.Memᴰ
use mathlib.Core.List.{List, map}
use lib.ListN.{length, take, drop, length-append, length-drop}
use lib.Seq.{drop_at}
use Rattle.exact.specs.Crossed.{count_from}
use Rattle.curves.specs.Grid.{Facet, Place, place_ok}
use Rattle.curves.specs.Curve.{◌∈◌, NoDup, none, more}
use Rattle.curves.specs.Box.{box_facets}
use Rattle.paper.specs.Job.{dimension, low_end, high_end, open_refusal, with_start}
use Rattle.paper.specs.Operations.{Answer, refused, answered, space_of, encode_places, places_over}
use Rattle.paper.proofs.ShortPlaces.{short_place}
use Rattle.paper.proofs.Refusals.{answered_inv, unless_refused, unless_answered}
use Rattle.paper.proofs.Opens.{Opens, opens, opens_range}
use Rattle.paper.proofs.WithStart.{opens_back, with_start_dimension, with_start_body, with_start_opens, with_start_field}
use Rattle.paper.proofs.PlacesWritten.{encode_places_length}
use Rattle.seamlist.specs.Seams.{front, seams_among}
use Rattle.seamlist.specs.JobSeams.{low_ends, high_ends, job_facets, seam_facets, Seams, first_seams, seamed, seams_after}
use Rattle.seamlist.proofs.Rising.{rising_differ}
use Rattle.seamlist.proofs.FacetOrder.{before_irreflexive, before_transitive}
use Rattle.seamlist.proofs.JobSeams.{job_seams, taken, first_writable, first_side, first_room}

-- ---- refused or answered

pub open_answered : {s : List ℕ} → Opens s → (space : ℕ) → seamed s space ≡ answered (first_seams (seam_facets s) space)
unfolding seamed
open_answered {s} o space = unless_answered (first_seams (seam_facets s) space) (opens_back s o)

-- what Open refuses is refused with Open's number, and no byte of the buffer changes
pub refused_as_open : (s : List ℕ) (space : ℕ) → (open_refusal s ≡ 0 → ⊥) → seamed s space ≡ refused (open_refusal s)
unfolding seamed
refused_as_open s space h = unless_refused (open_refusal s) (first_seams (seam_facets s) space) h

pub refused_keeps : (s buffer : List ℕ) → (open_refusal s ≡ 0 → ⊥) → seams_after (seamed s (space_of s buffer)) buffer ≡ buffer
unfolding seams_after
refused_keeps s buffer h = ap (λ a. seams_after a buffer) (refused_as_open s (space_of s buffer) h)

-- ---- the start

module _ {s : List ℕ} (o : Opens s) (p : Place) where
  pub start_same_facets : job_facets (with_start s p) ≡ job_facets s
  unfolding job_facets low_ends high_ends
  start_same_facets =
      let n = with_start_dimension o p in
      let b = with_start_body o p 0 (omega (arith, (opens_range o).low)) in
      λ i. box_facets (n i) (map (low_end (b i)) (count_from 0 (n i))) (map (high_end (b i)) (count_from 0 (n i)))

  pub start_same_seams : seam_facets (with_start s p) ≡ seam_facets s
  unfolding seam_facets
  start_same_seams =
      λ i. seams_among (with_start_dimension o p i) (with_start_field o p i) (length (start_same_facets i)) (start_same_facets i)

  -- a job with another start of the same form is answered the same
  pub start_only_form : place_ok (dimension s) p ≡ true → short_place p ≡ true → (space : ℕ) → seamed (with_start s p) space ≡ seamed s space
  start_only_form h w space =
      open_answered (with_start_opens o p h w) space ∙ (ap (λ l. answered (first_seams l space)) start_same_seams ∙ sym (open_answered o space))

  pub start_same_space : (buffer : List ℕ) → space_of (with_start s p) buffer ≡ space_of s buffer
  unfolding space_of
  start_same_space buffer = ap (λ n. length buffer / (3 * n)) (with_start_dimension o p)

-- ---- the places

fronts_differ : {l : List Facet} → NoDup l → NoDup (map front l)
unfolding front
fronts_differ none = none
fronts_differ (more {x = f} {l = l} out rest) =
    more {x = front f} {l = map front l}
    (λ i. let w = Memᴰ.of_map front l i in out (Memᴰ.cast (sym (ap (λ (q : Place). q.facet) w.2)) w.1))
    (fronts_differ rest)

take_differ : {A : Type 0} {l : List A} (k : ℕ) → NoDup l → NoDup (take k l)
take_differ zero d = none
take_differ (suc k) none = none
take_differ (suc k) (more {x = x} {l = l} out rest) = more {x = x} {l = take k l} (λ i. out (taken k l i)) (take_differ k rest)

module _ (s : List ℕ) (space : ℕ) (r : Seams) (e : seamed s space ≡ answered r) where
  -- no place stands twice
  pub seams_differ : NoDup r.places
  unfolding seamed first_seams
  seams_differ =
      let u = answered_inv (open_refusal s) (first_seams (seam_facets s) space) r e in
      let l : NoDup (seam_facets s) = rising_differ before_irreflexive before_transitive (job_seams (opens s u.none)).rising in
      subst (λ (t : Seams). NoDup t.places) u.is (fronts_differ (take_differ space l))

  pub seams_front : (p : Place) → p ∈ r.places → p.side ≡ 0
  unfolding seamed
  seams_front =
      let u = answered_inv (open_refusal s) (first_seams (seam_facets s) space) r e in
      let o = opens s u.none in
      λ p i. first_side o (seam_facets s) (job_seams o) space p (subst (λ (t : Seams). p ∈ t.places) (sym u.is) i)

-- ---- the buffer

-- the places are 3n bytes each
pub seams_size : (s : List ℕ) (space : ℕ) (r : Seams) → seamed s space ≡ answered r → length (encode_places r.places) ≡ 3 * dimension s * length r.places
unfolding seamed
seams_size s space r e =
    let u = answered_inv (open_refusal s) (first_seams (seam_facets s) space) r e in
    let o = opens s u.none in
    encode_places_length (dimension s) r.places
    (λ p i. first_writable o (seam_facets s) (job_seams o) space p (subst (λ (t : Seams). p ∈ t.places) (sym u.is) i))

-- they fit the buffer that the space was counted from
pub seams_fit : (s buffer : List ℕ) (r : Seams) → seamed s (space_of s buffer) ≡ answered r → length (encode_places r.places) ≤ length buffer
unfolding seamed space_of
seams_fit s buffer r e =
    let space : ℕ = length buffer / (3 * dimension s) in
    let u = answered_inv (open_refusal s) (first_seams (seam_facets s) space) r e in
    let o = opens s u.none in
    let few : length r.places ≤ space = subst (λ (t : Seams). length t.places ≤ space) u.is (first_room o (seam_facets s) (job_seams o) space) in
    subst (λ k. k ≤ length buffer) (sym (seams_size s space r e))
    (le_trans (mul-le-mul_left (3 * dimension s) few) (mul-div-le (length buffer) (3 * dimension s)))

-- the buffer keeps its length
pub seams_buffer_length : (s buffer : List ℕ) → length (seams_after (seamed s (space_of s buffer)) buffer) ≡ length buffer
unfolding seams_after places_over
seams_buffer_length s buffer = go (seamed s (space_of s buffer)) refl
  where
    go : (a : Answer Seams) → seamed s (space_of s buffer) ≡ a → length (seams_after a buffer) ≡ length buffer
    go (refused k) e = refl
    go (answered r) e =
        let fits : length (encode_places r.places) ≤ length buffer = seams_fit s buffer r e in
        simp (length-append, length-drop) (omega arith)

-- bytes past the last place keep their values
pub seams_rest_keeps : (r : Seams) (buffer : List ℕ)
    → drop (length (encode_places r.places)) (seams_after (answered r) buffer) ≡ drop (length (encode_places r.places)) buffer
unfolding seams_after places_over
seams_rest_keeps r buffer = drop_at (encode_places r.places) (drop (length (encode_places r.places)) buffer) _ refl
