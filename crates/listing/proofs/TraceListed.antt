-- What Trace leaves in a buffer for 4,096 places: read back it is the trace, and no byte behind it has changed; and what the lines
-- of the listing ask of it.
use Prim.Native.Nat.{ℕ, ◌*◌, ◌≤◌}
use mathlib.Core.Path.{◌≡◌, refl, sym, ap, subst, ◌∙◌}
use mathlib.Core.List.{List, ◌++◌, append_assoc}
use native.Mathlib.Omega.{arith}
use native.Mathlib.Nat.{mul-le-mul_left, mul-le-mul_right, mul-div_cancel}
use lib.ListN.{length, take, drop, take-append-drop}
use lib.Seq.{length-take-le, drop-append-le}
use Rattle.curves.specs.Grid.{Place}
use Rattle.curves.specs.Curve.{◌∈◌}
use Rattle.curves.specs.Walk.{Trace, trace}
use Rattle.curves.specs.Walk as Walk
use Rattle.curves.specs.Step.{Stop}
use Rattle.curves.specs.Joined.{Traceable}
use Rattle.curves.proofs.WalkTrace.{trace_length}
use Rattle.paper.specs.Job.{dimension}
use Rattle.paper.specs.Values.{field_of}
use Rattle.paper.specs.Operations.{Answer, refused, answered, step_in, start_of, trace_refusal, on_same_facet, traced, space_of, verdict_and_count, encode_places, places_over, buffer_after}
use Rattle.paper.specs.Answers.{verdict_as, verdict_count, traced_as}
use Rattle.paper.specs.Listing.{listing_space}
use Rattle.paper.specs.Demand3.{read_places}
use Rattle.paper.specs.Refusals.{refusal_number, answer_by}
use Rattle.paper.specs.declared.Refusal.{Refusal}
use Rattle.paper.specs.declared.Traced.{Traced}
use Rattle.std.proofs.Common.{Result, Ok, Err}
use Rattle.paper.proofs.Tests.{DimensionRange}
use Rattle.paper.proofs.Refusals.{answered_inv}
use Rattle.paper.proofs.Opens.{opens, opens_range}
use Rattle.paper.proofs.StartTraceable.{start_traceable}
use Rattle.paper.proofs.PlacesWritten.{listed_traceable, places_read, traced_writable, traced_fits}
use Rattle.job.specs.OpenJob.{JobOf}
use Rattle.listing.specs.Listed.{listed_trace, listed_as}
use Rattle.listing.specs.Room.{places_room}
use Rattle.listing.specs.Shown.{HaveLines}
use Rattle.listing.proofs.PlacesShown.{read_places_length, have_lines}

-- ---- the buffer

-- a part of 3n bytes a place has space for so many places
space_is : (s b : List ℕ) (k space : ℕ) → k ≡ space * (3 * dimension s) → 2 ≤ dimension s → k ≤ length b → space_of s (take k b) ≡ space
unfolding space_of
space_is s b k space e d l = rw (length-take-le k b l, e) (mul-div_cancel space (omega arith))

-- the answer of a question, or another
answer_or : {A : Type 0} → A → Answer A → A
answer_or d (refused k) = d
answer_or d (answered a) = a

-- Trace's answer with the places read from the buffer is the trace
read_back : (s b rest : List ℕ) (space : ℕ) (a : Answer (Trace Place Stop)) → traced s space ≡ a → (r : Result Traced Refusal)
    → traced_as r ≡ verdict_and_count a → listed_as s (buffer_after a b ++ rest) r ≡ a
unfolding traced_as verdict_count answer_by verdict_and_count buffer_after places_over listed_as answer_or
read_back s b rest space (refused k) q (Err e) h = e'
  where
    e' : ◌≡◌ {A = Answer (Trace Place Stop)} (refused (refusal_number e)) (refused k)
    e' = let f : refusal_number e ≡ k = cc in ap refused f
read_back s b rest space (refused k) q (Ok t) e = cc
read_back s b rest space (answered t) q (Err l) e = cc
read_back s b rest space (answered t) q (Ok r) e =
    let verdict : verdict_as r.verdict ≡ t.verdict = ap (λ (x : Answer (Walk.Verdict Stop × ℕ)). (answer_or (verdict_as r.verdict, r.count) x).0) e in
    let count : r.count ≡ length t.places = ap (λ (x : Answer (Walk.Verdict Stop × ℕ)). (answer_or (verdict_as r.verdict, r.count) x).1) e in
    let bytes = encode_places t.places in
    let back : read_places (dimension s) r.count ((bytes ++ drop (length bytes) b) ++ rest) ≡ t.places =
    rw (count, append_assoc bytes (drop (length bytes) b) rest)
    (places_read (dimension s) t.places (drop (length bytes) b ++ rest) (traced_writable s space t q)) in
    λ i. answered (record { verdict = verdict i; places = back i })

-- what Trace leaves in the front of a buffer, with the rest as found, is what it leaves in the whole
front_written : (s b : List ℕ) (k : ℕ)
    → buffer_after (traced s (space_of s (take k b))) (take k b) ++ drop k b ≡ buffer_after (traced s (space_of s (take k b))) b
unfolding buffer_after places_over
front_written s b k = go (traced s (space_of s (take k b))) refl
  where
    go : (a : Answer (Trace Place Stop)) → traced s (space_of s (take k b)) ≡ a → buffer_after a (take k b) ++ drop k b ≡ buffer_after a b
    go (refused j) e = take-append-drop k b
    go (answered t) e =
        let bytes : List ℕ = encode_places t.places in
        let whole : drop (length bytes) (take k b) ++ drop k b ≡ drop (length bytes) b =
        sym (drop-append-le (length bytes) (take k b) (drop k b) (traced_fits s (take k b) t e))
        ∙ ap (drop (length bytes)) (take-append-drop k b) in
        append_assoc bytes (drop (length bytes) (take k b)) (drop k b) ∙ ap (λ (x : List ℕ). bytes ++ x) whole

pub job_range : {n : ℕ} {s : List ℕ} → JobOf n s → DimensionRange n
job_range {n} {s} j = rw j.dimension (opens_range (opens s j.opens))

-- the part of the room that Trace is lent has space for 4,096 places
module _ {n room : ℕ} {s : List ℕ} (j : JobOf n s) (b : List ℕ) (long : length b ≡ places_room) where
  pub part_inside : room ≡ listing_space * (3 * n) → room ≤ length b
  part_inside part =
      let most : listing_space * (3 * n) ≤ listing_space * (3 * 4) = mul-le-mul_left listing_space (omega (arith, job_range j)) in
      omega (arith, part, long, most)

  part_space : room ≡ listing_space * (3 * n) → space_of s (take room b) ≡ listing_space
  part_space part =
      space_is s b room listing_space (part ∙ ap (λ (m : ℕ). listing_space * (3 * m)) j.dimension) (omega (arith, job_range j, j.dimension)) (part_inside part)

  pub part_traced : (r : Result Traced Refusal) {front : List ℕ}
      → traced_as r ≡ verdict_and_count (traced s (space_of s (take room b)))
      → front ≡ buffer_after (traced s (space_of s (take room b))) (take room b)
      → room ≡ listing_space * (3 * n)
      → (listed_as s (front ++ drop room b) r ≡ traced s listing_space) × (front ++ drop room b ≡ buffer_after (traced s listing_space) b)
  part_traced r {front} answer written part =
      let space = part_space part in (
        rw written
            (rw space (read_back s (take room b) (drop room b) listing_space (traced s listing_space) refl r (rw space at answer))),
        ap (λ (x : List ℕ). x ++ drop room b) written ∙ front_written s b room ∙ ap (λ (k : ℕ). buffer_after (traced s k) b) space,
      )

-- ---- what the lines ask

module _ {n : ℕ} {s : List ℕ} (j : JobOf n s) (b : List ℕ) (r : Traced) (h : traced s listing_space ≡ answered (listed_trace s b r)) where
  pub count_within : r.count ≤ listing_space
  unfolding traced
  count_within =
      let is = (answered_inv (trace_refusal s) _ _ h).is in
      let most = trace_length (step_in s) on_same_facet (start_of s) listing_space in
      let few = subst (λ (t : Trace Place Stop). length t.places ≤ listing_space) is most in
      omega (arith, few, read_places_length (dimension s) r.count b)

  each_traceable : (p : Place) → p ∈ read_places (dimension s) r.count b → Traceable (dimension s) (field_of s) p
  unfolding traced
  each_traceable p i =
      let u = answered_inv (trace_refusal s) (trace (step_in s) on_same_facet (start_of s) listing_space) (listed_trace s b r) h in
      listed_traceable (opens s j.opens) (start_of s) (start_traceable s u.none) listing_space p
      (subst (λ (t : Trace Place Stop). p ∈ t.places) (sym u.is) i)

  pub listed_lines : length b ≡ places_room → HaveLines n s r.count b
  listed_lines long =
      let o = opens s j.opens in
      let most : 3 * dimension s * r.count ≤ 3 * dimension s * listing_space = mul-le-mul_left (3 * dimension s) count_within in
      let whole : 3 * dimension s * listing_space ≤ places_room = mul-le-mul_right listing_space (omega (arith, opens_range o)) in
      rw j.dimension (have_lines o r.count b (omega (arith, most, whole)) each_traceable)
