-- The seams of a job are what is met at the vertices of its box, one after another; and what the whole scan answers and leaves in the buffer.
use Prim.Native.Nat.{ℕ, ◌*◌, ◌/◌, ◌≤◌, ◌<◌}
use native.Mathlib.Nat.{mul-le-mul_left, mul-div-le, le_trans, zero-mul, zero-add}
use native.Mathlib.Omega.{arith}
use mathlib.Core.Path.{◌≡◌, refl, sym, ap, ap₂, subst, ◌∙◌}
use mathlib.Core.Bool.{cond}
use Rattle.std.proofs.Common.{Err}
use mathlib.Core.List.{List, [], ◌∷◌, ◌++◌, map}
use lib.ListN.{length, get_or, take, drop, length-map, length-append}
use lib.Seq.{sets, sets-eq, take_all, take-append_seam}
use borrow.Author.Tests.{lt-ltb, le-ltb}
use Rattle.exact.specs.Crossed.{count_from}
use Rattle.exact.proofs.CountFrom.{map_count_from_ext, map_count_from_suc}
use Rattle.curves.specs.Grid.{Facet, Place}
use Rattle.curves.specs.Grid as Grid
use Rattle.curves.specs.Box.{keep, pairs, box_vertices, chains, box_facets}
use Rattle.paper.specs.Job.{dimension, open_refusal}
use Rattle.paper.specs.Operations.{refused, answered, space_of, encode_places, places_over}
use Rattle.job.specs.OpenJob.{JobOf}
use Rattle.job.proofs.Opened.{job_opens}
use Rattle.seamlist.specs.Seams.{front, seams_among}
use Rattle.seamlist.specs.BoxIndex.{box_size, numbered}
use Rattle.seamlist.specs.JobSeams.{low_ends, high_ends, job_facets, seam_facets, Extent, complete, full, Seams, first_seams, seamed, extent_and_count, seams_after}
use Rattle.paper.specs.Refusals.{refusal_number, answer_by}
use Rattle.paper.specs.declared.Refusal.{Refusal}
use Rattle.paper.proofs.Refused.{refusal_some}
use Rattle.seamlist.specs.Answers.{extent_of, extent_count, seamed_as}
use Rattle.seamlist.specs.declared.Extent as Code
use Rattle.seamlist.specs.declared.Seamed.{Seamed}
use Rattle.seamlist.proofs.BoxIndex.{length_box_vertices, get_d_box_vertices}
use Rattle.seamlist.proofs.JobAnswers.{open_answered, refused_as_open, refused_keeps}
use Rattle.least.specs.Search.{least_in}
use Rattle.chains.specs.Chains.{facet_on}
use Rattle.scan.specs.Scanned.{space_for, Puts, NoSpace}
use Rattle.scan.proofs.Gathered.{gathered, pairs_gathered}

-- ---- the list

-- a list is its elements by number
by_number : {A : Type 0} (d : A) (l : List A) → map (λ i. get_or l i d) (count_from 0 (length l)) ≡ l
unfolding count_from
by_number d [] = refl
by_number d (x ∷ l) =
    ap (λ r. x ∷ r) (map_count_from_suc (λ i. get_or (x ∷ l) i d) 0 (length l) ∙ by_number d l)

-- vertex i of the job's box
unfoldable pub box_vertex : List ℕ → ℕ → Grid.Vertex
box_vertex s i = numbered (low_ends s) (high_ends s) i

-- what is met there
unfoldable pub met_in : List ℕ → ℕ → List Facet
met_in s i = keep (least_in s) (map (facet_on (box_vertex s i)) (chains (dimension s)))

-- as the code meets it
pub met_at : (s : List ℕ) {n : ℕ} (i : ℕ) → n ≡ dimension s → (v : Grid.Vertex) → v ≡ numbered (low_ends s) (high_ends s) i
    → keep (least_in s) (map (facet_on v) (chains n)) ≡ met_in s i
unfolding met_in box_vertex
met_at s i e v h = ap₂ (λ n v. keep (least_in s) (map (facet_on v) (chains n))) e h

box_vertices_lem : (s : List ℕ) → box_vertices (low_ends s) (high_ends s) ≡ map (box_vertex s) (count_from 0 (box_size (low_ends s) (high_ends s)))
unfolding box_vertex
box_vertices_lem s =
    let vs : List Grid.Vertex = box_vertices (low_ends s) (high_ends s) in
    let size : length vs ≡ box_size (low_ends s) (high_ends s) = length_box_vertices (low_ends s) (high_ends s) in
    sym (by_number [] vs)
    ∙ ap (λ m. map (λ i. get_or vs i []) (count_from 0 m)) size
    ∙ map_count_from_ext (λ i. get_or vs i []) (numbered (low_ends s) (high_ends s)) 0 (box_size (low_ends s) (high_ends s))
    (λ i l u. get_d_box_vertices (low_ends s) (high_ends s) i (omega arith))

pub met_everywhere : (s : List ℕ) → gathered (met_in s) (box_size (low_ends s) (high_ends s)) ≡ seam_facets s
unfolding met_in seam_facets seams_among job_facets box_facets least_in facet_on
met_everywhere s =
    sym (pairs_gathered (least_in s) facet_on (box_vertex s) (chains (dimension s)) (box_size (low_ends s) (high_ends s)))
    ∙ ap (λ vs. keep (least_in s) (pairs facet_on vs (chains (dimension s)))) (sym (box_vertices_lem s))

-- ---- the answer

-- what the operation says of an answer, and of the buffer
pub record Answers (s b after : List ℕ) (r : Seamed) : Type 0 where
  pub answer : answered (extent_count r) ≡ extent_and_count (seamed s (space_of s b))
  pub buffer : after ≡ seams_after (seamed s (space_of s b)) b

module _ (s b : List ℕ) (e : Refusal) (is : refusal_number e ≡ open_refusal s) where
  not_none : open_refusal s ≡ 0 → ⊥
  not_none z = refusal_some e (is ∙ z)

  pub not_opened : seamed_as (Err e) ≡ extent_and_count (seamed s (space_of s b))
  unfolding seamed_as answer_by extent_and_count
  not_opened = ap refused is ∙ sym (ap extent_and_count (refused_as_open s (space_of s b) not_none))

  pub not_written : b ≡ seams_after (seamed s (space_of s b)) b
  not_written = sym (refused_keeps s b not_none)

module _ {s : List ℕ} {n : ℕ} (j : JobOf n s) (b : List ℕ) where
  space_is : space_for n b ≡ space_of s b
  unfolding space_for space_of
  space_is = ap (λ m. length b / (3 * m)) j.dimension

  -- places written from the front of the buffer on, for which it has space
  written_over : {fs : List Facet} {after : List ℕ} {k : ℕ} → Puts n b 0 fs after k → k ≤ space_for n b → after ≡ places_over (map front fs) b
  unfolding places_over space_for
  written_over {fs} {k = k} p l =
      let e : List ℕ = encode_places (map front fs) in
      let few : length fs ≤ length b / (3 * n) = omega (arith, p.counted) in
      let fits : length e ≤ length b = subst (λ m. m ≤ length b) (sym p.bytes) (le_trans (mul-le-mul_left (3 * n) few) (mul-div-le (length b) (3 * n))) in
      p.stored
      ∙ ap (λ at. sets b at e) (zero-mul (3 * n))
      ∙ sets-eq e b 0 (subst (λ m. m ≤ length b) (sym (zero-add (length e))) fits)
      ∙ ap (λ m. e ++ drop m b) (zero-add (length e))

  -- the answer is the first of the seams
  given : {r : Seams} → first_seams (seam_facets s) (space_for n b) ≡ r → seamed s (space_of s b) ≡ answered r
  given e = open_answered (job_opens j) (space_of s b) ∙ ap (λ m. answered (first_seams (seam_facets s) m)) (sym space_is) ∙ ap answered e

  answers : {after : List ℕ} (r : Seamed) (t : Extent) (ps : List Place) (k : ℕ) → extent_count r ≡ (t, k) → length ps ≡ k
      → first_seams (seam_facets s) (space_for n b) ≡ record { extent = t; places = ps } → after ≡ places_over ps b → Answers s b after r
  unfolding extent_and_count seams_after
  answers r t ps k is l e w = record {
    answer = ap answered is ∙ ap (λ m. answered (t, m)) (sym l) ∙ sym (ap extent_and_count (given e));
    buffer = w ∙ sym (ap (λ a. seams_after a b) (given e));
  }

  -- all seams are written
  pub all_listed : {after : List ℕ} {k : ℕ} → Puts n b 0 (seam_facets s) after k → k ≤ space_for n b
      → Answers s b after record { extent = Code.TheVariants.Complete; count = k }
  unfolding extent_count extent_of first_seams
  all_listed {k = k} p l =
      let fs : List Facet = seam_facets s in
      let few : length fs ≤ space_for n b = omega (arith, p.counted) in
      let whole : take (space_for n b) fs ≡ fs = take_all (space_for n b) fs few in
      answers (record { extent = Code.TheVariants.Complete; count = k }) complete (map front fs) k refl (length-map fs front ∙ omega (arith, p.counted))
      (ap₂ (λ c ps. record { extent = cond c full complete; places = map front ps }) (le-ltb (space_for n b) (length fs) few) whole)
      (written_over p l)

  -- one more remains
  pub one_left : {after : List ℕ} → NoSpace n b 0 (seam_facets s) after → Answers s b after record { extent = Code.TheVariants.Full; count = space_for n b }
  unfolding extent_count extent_of first_seams
  one_left w =
      let fs : List Facet = seam_facets s in
      let size : length w.listed ≡ space_for n b = omega (arith, w.puts.counted) in
      let more : space_for n b < length fs = omega (arith, ap length w.is, length-append w.listed (w.next ∷ w.rest)) in
      let these : take (space_for n b) fs ≡ w.listed =
      ap₂ take (sym size) w.is ∙ take-append_seam w.listed (w.next ∷ w.rest)
      in
      answers (record { extent = Code.TheVariants.Full; count = space_for n b }) full (map front w.listed) (space_for n b) refl (length-map w.listed front ∙ size)
      (ap₂ (λ c ps. record { extent = cond c full complete; places = map front ps }) (lt-ltb (space_for n b) (length fs) more) these)
      (written_over w.puts (omega arith))
