-- What the operation leaves in a buffer for 4,096 seams: read back it is what is answered; and what the lines of the program ask of it.
use Prim.Native.Nat.{ℕ, suc, zero, ◌*◌, ◌≤◌}
use mathlib.Core.Path.{◌≡◌, refl, sym, ap, subst, ◌∙◌}
use mathlib.Core.List.Memᴰ
use mathlib.Core.List.{List, ◌++◌, append_assoc}
use native.Mathlib.Omega.{arith}
use native.Mathlib.Nat.{mul-le-mul_left, mul-le-mul_right, mul-div_cancel}
use lib.ListN.{length, take, drop}
use lib.Seq.{length-take-le}
use Rattle.curves.specs.Grid.{Place}
use Rattle.curves.specs.Curve.{◌∈◌}
use Rattle.curves.specs.Joined.{Traceable}
use Rattle.paper.specs.Job.{dimension, open_refusal}
use Rattle.paper.specs.Values.{field_of}
use Rattle.paper.specs.Operations.{Answer, refused, answered, space_of, encode_places, places_over}
use Rattle.paper.specs.Listing.{listing_space}
use Rattle.paper.specs.Demand3.{read_places}
use Rattle.paper.proofs.Tests.{DimensionRange}
use Rattle.paper.proofs.Refusals.{Answered, answered_inv}
use Rattle.paper.proofs.Opens.{opens, opens_range}
use Rattle.paper.proofs.PlacesWritten.{traceable_writable, places_read}
use Rattle.job.specs.OpenJob.{JobOf}
use Rattle.seamlist.specs.Seams.{front}
use Rattle.seamlist.specs.JobSeams.{seam_facets, Extent, Seams, first_seams, seamed, extent_and_count, seams_after}
use Rattle.seamlist.specs.Answers.{extent_of, extent_count}
use Rattle.seamlist.specs.declared.Seamed.{Seamed}
use Rattle.seamlist.proofs.JobSeams.{job_seams, taken, first_room}
use Rattle.seams.specs.Listed.{listed_seams}
use Rattle.seams.specs.Room.{places_room}
use Rattle.seams.specs.Shown.{HaveLines}

-- ---- what is answered

module _ (s : List ℕ) (space : ℕ) (r : Seams) (e : seamed s space ≡ answered r) where
  is_first : Answered (open_refusal s) (first_seams (seam_facets s) space) r
  unfolding seamed
  is_first = answered_inv (open_refusal s) (first_seams (seam_facets s) space) r e

  seams_within : length r.places ≤ space
  seams_within =
      let o = opens s is_first.none in
      subst (λ (t : Seams). length t.places ≤ space) is_first.is (first_room o (seam_facets s) (job_seams o) space)

  -- a trace can begin at each place
  seams_traceable : (p : Place) → p ∈ r.places → Traceable (dimension s) (field_of s) p
  unfolding first_seams
  seams_traceable p i =
      let w = Memᴰ.of_map front (take space (seam_facets s)) (subst (λ (t : Seams). p ∈ t.places) (sym is_first.is) i) in
      subst (λ q. Traceable (dimension s) (field_of s) q) w.2 ((job_seams (opens s is_first.none)).only w.0 (taken space (seam_facets s) w.1)).on

  -- the places that stand in front of some bytes are read from there
  seams_read : (rest : List ℕ) → read_places (dimension s) (length r.places) (encode_places r.places ++ rest) ≡ r.places
  seams_read rest = places_read (dimension s) r.places rest (λ p i. traceable_writable (opens s is_first.none) p (seams_traceable p i))

-- ---- the buffer

-- an extent and a count, with the places read from the buffer
read_back : (s b rest : List ℕ) (space : ℕ) (a : Answer Seams) → seamed s space ≡ a → (r : Seamed)
    → answered (extent_count r) ≡ extent_and_count a → a ≡ answered (listed_seams s (seams_after a b ++ rest) r)
unfolding extent_count extent_and_count seams_after places_over
read_back s b rest space (refused k) q r e = cc
read_back s b rest space (answered t) q r e =
    let both : ◌≡◌ {A = Extent × ℕ} (extent_of r.extent, r.count) (t.extent, length t.places) = cc in
    let extent : extent_of r.extent ≡ t.extent = ap (λ (a : Extent × ℕ). a.0) both in
    let count : r.count ≡ length t.places = ap (λ (a : Extent × ℕ). a.1) both in
    let bytes = encode_places t.places in
    let back : read_places (dimension s) r.count ((bytes ++ drop (length bytes) b) ++ rest) ≡ t.places =
    rw (count, append_assoc bytes (drop (length bytes) b) rest) (seams_read s space t q (drop (length bytes) b ++ rest)) in
    sym (λ i. answered (record { extent = extent i; places = back i }))

pub job_range : {n : ℕ} {s : List ℕ} → JobOf n s → DimensionRange n
job_range {n} {s} j = rw j.dimension (opens_range (opens s j.opens))

-- a part of 3n bytes a place has space for so many places
space_is : (s b : List ℕ) (k space : ℕ) → k ≡ space * (3 * dimension s) → 2 ≤ dimension s → k ≤ length b → space_of s (take k b) ≡ space
unfolding space_of
space_is s b k space e d l = rw (length-take-le k b l, e) (mul-div_cancel space (omega arith))

-- the part of the room that is lent has space for 4,096 places
module _ {n room : ℕ} {s : List ℕ} (j : JobOf n s) (b : List ℕ) (long : length b ≡ places_room) where
  pub part_inside : room ≡ listing_space * (3 * n) → room ≤ length b
  part_inside part =
      let most : listing_space * (3 * n) ≤ listing_space * (3 * 4) = mul-le-mul_left listing_space (omega (arith, job_range j)) in
      omega (arith, part, long, most)

  part_space : room ≡ listing_space * (3 * n) → space_of s (take room b) ≡ listing_space
  part_space part =
      space_is s b room listing_space (part ∙ ap (λ (m : ℕ). listing_space * (3 * m)) j.dimension) (omega (arith, job_range j, j.dimension)) (part_inside part)

  pub part_listed : (r : Seamed) {front : List ℕ}
      → answered (extent_count r) ≡ extent_and_count (seamed s (space_of s (take room b)))
      → front ≡ seams_after (seamed s (space_of s (take room b))) (take room b)
      → room ≡ listing_space * (3 * n)
      → seamed s listing_space ≡ answered (listed_seams s (front ++ drop room b) r)
  part_listed r {front} answer written part =
      let space = part_space part in
      rw written (rw space (read_back s (take room b) (drop room b) listing_space (seamed s listing_space) refl r (rw space at answer)))

-- ---- what the lines ask

pub read_places_length : (n k : ℕ) (b : List ℕ) → length (read_places n k b) ≡ k
unfolding read_places
read_places_length n zero b = refl
read_places_length n (suc k) b = ap suc (read_places_length n k (drop (3 * n) b))

module _ {n : ℕ} {s : List ℕ} (j : JobOf n s) (b : List ℕ) (r : Seamed) (h : seamed s listing_space ≡ answered (listed_seams s b r)) where
  pub count_within : r.count ≤ listing_space
  count_within = omega (arith, seams_within s listing_space (listed_seams s b r) h, read_places_length (dimension s) r.count b)

  pub listed_lines : length b ≡ places_room → HaveLines n s r.count b
  listed_lines long =
      let o = opens s j.opens in
      let most : 3 * dimension s * r.count ≤ 3 * dimension s * listing_space = mul-le-mul_left (3 * dimension s) count_within in
      let whole : 3 * dimension s * listing_space ≤ places_room = mul-le-mul_right listing_space (omega (arith, opens_range o)) in
      let here : HaveLines (dimension s) s r.count b = record {
        job = record { opens = j.opens; dimension = refl };
        room = omega (arith, most, whole);
        each = seams_traceable s listing_space (listed_seams s b r) h;
      } in
      rw j.dimension here
