-- The listing of a job by its cases: too long, refused, or the lines of its trace.
use Prim.Native.Nat.{ℕ, ◌≤◌, ◌<◌}
use mathlib.Core.Path.{◌≡◌, sym, ap, ◌∙◌}
use mathlib.Core.List.{List, ◌++◌}
use lib.ListN.{length}
use borrow.Author.Tests.{lt-ltb, le-ltb}
use Rattle.curves.specs.Grid.{Place}
use Rattle.curves.specs.Walk.{Trace}
use Rattle.curves.specs.Step.{Stop}
use Rattle.paper.specs.Job.{dimension, open_refusal}
use Rattle.paper.specs.Operations.{Answer, refused, answered, trace_refusal, traced, buffer_after}
use Rattle.paper.specs.Answers.{verdict_as}
use Rattle.paper.specs.Listing.{refused_line, first_line, place_lines, listing_space, listing_lines, listing}
use Rattle.paper.specs.Demand3.{read_places}
use Rattle.paper.specs.Refusals.{refusal_number, answer_by}
use Rattle.paper.specs.declared.Refusal.{Refusal}
use Rattle.paper.specs.declared.Traced.{Traced}
use Rattle.paper.proofs.Refused.{refusal_some}
use Rattle.std.proofs.Common.{Ok, Err}
use Rattle.paper.proofs.Refusals.{first_refuses, unless_refused}
use Rattle.listing.specs.Listed.{listed_trace, listed_as, places_after}
use Rattle.listing.proofs.RoomSizes.{longest_job_lem}
use Rattle.listing.proofs.PlacesShown.{read_places_length}

-- ---- too long

pub listing_long : (s : List ℕ) → 2048 < length s → refused_line 5 ≡ listing s
unfolding listing
listing_long s h = sym (rw (longest_job_lem, lt-ltb 2048 (length s) h))

pub places_kept : (s b : List ℕ) → 2048 < length s → b ≡ places_after s b
unfolding places_after
places_kept s b h = sym (rw (longest_job_lem, lt-ltb 2048 (length s) h))

-- ---- short enough

pub listing_short : (s : List ℕ) → length s ≤ 2048 → listing_lines s (traced s listing_space) ≡ listing s
unfolding listing
listing_short s h = sym (rw (longest_job_lem, le-ltb 2048 (length s) h))

pub places_written : (s b : List ℕ) → length s ≤ 2048 → buffer_after (traced s listing_space) b ≡ places_after s b
unfolding places_after
places_written s b h = sym (rw (longest_job_lem, le-ltb 2048 (length s) h))

-- a job that does not open
module _ (s : List ℕ) (e : Refusal) (is : refusal_number e ≡ open_refusal s) where
  not_traced : traced s listing_space ≡ refused (refusal_number e)
  unfolding traced trace_refusal
  not_traced =
      let r : trace_refusal s ≡ refusal_number e = first_refuses (open_refusal s) _ (λ z. refusal_some e (is ∙ z)) ∙ sym is in
      rw r (unless_refused (refusal_number e) _ (refusal_some e))

  pub listing_unopened : length s ≤ 2048 → refused_line (refusal_number e) ≡ listing s
  unfolding listing_lines
  listing_unopened l = sym (ap (listing_lines s) not_traced) ∙ listing_short s l

  pub places_unopened : (b : List ℕ) → length s ≤ 2048 → b ≡ places_after s b
  unfolding buffer_after
  places_unopened b l = sym (ap (λ (a : Answer (Trace Place Stop)). buffer_after a b) not_traced) ∙ places_written s b l

-- ---- opened

pub lines_refused : (s b : List ℕ) (e : Refusal) → listed_as s b (Err e) ≡ traced s listing_space
    → refused_line (refusal_number e) ≡ listing_lines s (traced s listing_space)
unfolding listed_as answer_by listing_lines
lines_refused s b e f = ap (listing_lines s) f

pub listed_answer : (s b : List ℕ) (r : Traced) → listed_as s b (Ok r) ≡ traced s listing_space → traced s listing_space ≡ answered (listed_trace s b r)
unfolding listed_as answer_by
listed_answer s b r f = sym f

pub trace_lines : (s b : List ℕ) (r : Traced) {n : ℕ} → traced s listing_space ≡ answered (listed_trace s b r) → n ≡ dimension s
    → first_line n (verdict_as r.verdict) r.count ++ place_lines s (read_places n r.count b) ≡ listing_lines s (traced s listing_space)
unfolding listing_lines
trace_lines s b r h e = sym (rw (h, read_places_length (dimension s) r.count b, e))
