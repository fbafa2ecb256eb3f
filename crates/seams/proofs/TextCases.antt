-- The text for a job by its cases: too long, refused, or the lines of its seams.
use Prim.Native.Nat.{ℕ, ◌≤◌, ◌<◌}
use mathlib.Core.Path.{◌≡◌, sym, ap, ◌∙◌}
use mathlib.Core.List.{List, ◌++◌}
use lib.ListN.{length}
use borrow.Author.Tests.{lt-ltb, le-ltb}
use Rattle.paper.specs.Job.{dimension, open_refusal}
use Rattle.paper.specs.Operations.{answered}
use Rattle.paper.specs.Listing.{refused_line, listing_space}
use Rattle.paper.specs.Demand3.{read_places}
use Rattle.paper.specs.Refusals.{refusal_number}
use Rattle.paper.specs.declared.Refusal.{Refusal}
use Rattle.paper.proofs.Refused.{refusal_some}
use Rattle.seamlist.specs.JobSeams.{seamed}
use Rattle.seamlist.specs.Answers.{extent_of}
use Rattle.seamlist.specs.SeamText.{seams_first_line, seam_lines, seams_lines, seams_text}
use Rattle.seamlist.specs.declared.Seamed.{Seamed}
use Rattle.seamlist.proofs.JobAnswers.{refused_as_open}
use Rattle.seams.specs.Listed.{listed_seams}
use Rattle.seams.proofs.RoomSizes.{longest_job_lem}
use Rattle.seams.proofs.SeamsListed.{read_places_length}

-- ---- too long, or not

pub text_long : (s : List ℕ) → 2048 < length s → refused_line 5 ≡ seams_text s
unfolding seams_text
text_long s h = sym (rw (longest_job_lem, lt-ltb 2048 (length s) h))

pub text_short : (s : List ℕ) → length s ≤ 2048 → seams_lines s (seamed s listing_space) ≡ seams_text s
unfolding seams_text
text_short s h = sym (rw (longest_job_lem, le-ltb 2048 (length s) h))

-- a job that does not open
pub text_unopened : (s : List ℕ) (e : Refusal) → refusal_number e ≡ open_refusal s → length s ≤ 2048 → refused_line (refusal_number e) ≡ seams_text s
unfolding seams_lines
text_unopened s e is l =
    ap refused_line is ∙ sym (ap (seams_lines s) (refused_as_open s listing_space (λ z. refusal_some e (is ∙ z)))) ∙ text_short s l

-- ---- opened

pub list_lines : (s b : List ℕ) (r : Seamed) {n : ℕ} → seamed s listing_space ≡ answered (listed_seams s b r) → n ≡ dimension s
    → seams_first_line n (extent_of r.extent) r.count ++ seam_lines s (read_places n r.count b) ≡ seams_lines s (seamed s listing_space)
unfolding seams_lines
list_lines s b r h e = sym (rw (h, read_places_length (dimension s) r.count b, e))
