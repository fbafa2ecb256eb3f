-- Seams of small boxes, each by computation from the definitions: one loop, two open curves of which the first lies under 0, a facet that stands by
-- itself, a start that Trace refuses, the spaces at which the answer is full, the bytes past the last place, and a refused job.
use Prim.Native.Nat.{ℕ}
use mathlib.Core.Path.{◌≡◌, refl}
use mathlib.Core.Bool.{true}
use mathlib.Core.List.{List, [], ◌∷◌, map, flatten}
use lib.IntN.{ℤ, pos, negsuc}
use lib.ListN.{replicate}
use Rattle.curves.specs.Grid.{Facet, Place}
use Rattle.curves.specs.Box as Box
use Rattle.curves.specs.Step as Step
use Rattle.paper.specs.Job.{vertex_bytes, encode_place}
use Rattle.paper.specs.Values.{field_of}
use Rattle.paper.specs.Operations as Operations
use Rattle.paper.specs.Operations.{Answer, refused, answered, space_of}
use Rattle.paper.proofs.Cases.{body_offsets, case_a, case_c, case_j, one_term_job, unit_start, place}
use Rattle.paper.proofs.Jobs.{entries, job_of, double_word_bytes, term}
use Rattle.seamlist.specs.Seams as Seams
use Rattle.seamlist.specs.Seams.{facet_before, front, seams_among}
use Rattle.seamlist.specs.JobSeams as JobSeams
use Rattle.seamlist.specs.JobSeams.{Seams, Extent, complete, full, first_seams, seamed, seams_after}

-- ---- jobs of dimension 2

-- box ends, terms and start
unfoldable pub plane_job : List ℤ → List (List ℕ) → Place → List ℕ
plane_job ends ts start = job_of 2 (vertex_bytes ends ∷ flatten ts ∷ encode_place start ∷ [])

-- 2·x² − 1 with box − 1 to 1 and 0 to 1: two open curves of three facets each
unfoldable pub two_lines : Place → List ℕ
two_lines start = plane_job (negsuc 0 ∷ pos 1 ∷ pos 0 ∷ pos 1 ∷ []) (term (negsuc 0) (0 ∷ 0 ∷ 0 ∷ 0 ∷ []) ∷ term (pos 2) (2 ∷ 0 ∷ 0 ∷ 0 ∷ []) ∷ []) start

-- 1,048,576·(x⁴ − x³·y) − 2·x + 15 with box 6 to 8 on both axes. Readable are only (6, 6), (6, 7), (7, 7) and (8, 8), with values
-- above, under, above and under 0
unfoldable pub near_diagonal : List ℕ
near_diagonal =
    plane_job (pos 6 ∷ pos 8 ∷ pos 6 ∷ pos 8 ∷ [])
    (term (pos 15) (0 ∷ 0 ∷ 0 ∷ 0 ∷ [])
    ∷ term (negsuc 1) (1 ∷ 0 ∷ 0 ∷ 0 ∷ [])
    ∷ term (negsuc 1048575) (3 ∷ 1 ∷ 0 ∷ 0 ∷ [])
    ∷ term (pos 1048576) (4 ∷ 0 ∷ 0 ∷ 0 ∷ [])
    ∷ [])
    (place (pos 6 ∷ pos 6 ∷ []) (1 ∷ []) 0)

-- a start in the box, and one that Trace refuses: far outside
unfoldable pub at_origin : Place
at_origin = place (pos 0 ∷ pos 0 ∷ []) (1 ∷ []) 0

unfoldable pub far_outside : Place
far_outside = place (pos 300 ∷ negsuc 300 ∷ []) (2 ∷ []) 1

-- ---- what is computed

-- the extent and the places; what this unfolds is all that the cases compute with
unfoldable pub seams_of : List ℕ → ℕ → Answer Seams
unfolding body_offsets flatten entries job_of double_word_bytes term one_term_job unit_start case_a case_c case_j plane_job two_lines near_diagonal at_origin far_outside
    Box.keep Box.pairs Box.lists_under Box.counted Box.span Box.between Box.box_vertices Box.chains Box.box_facets
    Step.readable_all Step.traceable
    Operations.space_of Operations.encode_places Operations.places_over
    Seams.lex_before Seams.facet_key Seams.facet_before Seams.front Seams.none_before Seams.least_test Seams.seams_among
    JobSeams.low_ends JobSeams.high_ends JobSeams.job_facets JobSeams.seam_facets JobSeams.first_seams JobSeams.seamed JobSeams.seams_after
seams_of s space = seamed s space

-- an answer: the extent, and the facets of the places, each with side 0
abbrev lists : Extent → List Facet → Answer Seams
lists e fs = answered record { extent = e; places = map (λ (f : Facet). record { facet = f; side = 0 }) fs }

-- ---- the order

-- the lowest vertex decides before the masks, and axis 1 before axis 2
pub low_first : facet_before record { low = negsuc 0 ∷ pos 5 ∷ []; masks = 3 ∷ [] } record { low = pos 0 ∷ negsuc 5 ∷ []; masks = 1 ∷ [] } ≡ true
unfolding seams_of
low_first = refl

-- of two chains of masks the first mask decides
pub first_mask_first : facet_before record { low = pos 0 ∷ pos 0 ∷ pos 0 ∷ []; masks = 1 ∷ 7 ∷ [] } record { low = pos 0 ∷ pos 0 ∷ pos 0 ∷ []; masks = 2 ∷ 3 ∷ [] } ≡ true
unfolding seams_of
first_mask_first = refl

-- ---- the parts

abbrev low_facet : Facet
low_facet = record { low = negsuc 0 ∷ pos 0 ∷ []; masks = 1 ∷ [] }

abbrev high_facet : Facet
high_facet = record { low = pos 0 ∷ pos 0 ∷ []; masks = 1 ∷ [] }

abbrev alone : Facet
alone = record { low = pos 7 ∷ pos 7 ∷ []; masks = 3 ∷ [] }

-- side 0
pub side_0 : front low_facet ≡ place (negsuc 0 ∷ pos 0 ∷ []) (1 ∷ []) 0
unfolding seams_of
side_0 = refl

-- one listed, and space for one: complete; for none: full
pub none_remains : (first_seams (low_facet ∷ []) 1).extent ≡ complete
unfolding seams_of
none_remains = refl

pub one_remains : (first_seams (low_facet ∷ []) 0).extent ≡ full
unfolding seams_of
one_remains = refl

-- a facet that stands by itself is the least of its seam
pub alone_listed : seams_among 2 (field_of near_diagonal) 1 (alone ∷ []) ≡ alone ∷ []
unfolding seams_of
alone_listed = refl

-- ---- the cases

-- the least of the six facets of case A, the one seam of its box: the lowest coordinates count as numbers, though their bytes are larger
pub seam_of_A : seamed case_a 2 ≡ lists complete (record { low = negsuc 0 ∷ negsuc 0 ∷ []; masks = 3 ∷ [] } ∷ [])
unfolding seams_of
seam_of_A = refl

-- with space for one it is complete: none remains
pub just_enough : seamed case_a 1 ≡ lists complete (record { low = negsuc 0 ∷ negsuc 0 ∷ []; masks = 3 ∷ [] } ∷ [])
unfolding seams_of
just_enough = refl

-- with no space it is full
pub no_space : seamed case_a 0 ≡ lists full []
unfolding seams_of
no_space = refl

-- the seam with the lower vertex comes first
pub two_seams : seamed (two_lines at_origin) 2 ≡ lists complete (low_facet ∷ high_facet ∷ [])
unfolding seams_of
two_seams = refl

pub second_remains : seamed (two_lines at_origin) 1 ≡ lists full (low_facet ∷ [])
unfolding seams_of
second_remains = refl

-- the start need not be in the box
pub start_outside : seamed (two_lines far_outside) 2 ≡ lists complete (low_facet ∷ high_facet ∷ [])
unfolding seams_of
start_outside = refl

-- a seam of two facets, and a facet that stands by itself: the simplices on both its sides are not readable
pub by_itself : seamed near_diagonal 9 ≡ lists complete (record { low = pos 6 ∷ pos 6 ∷ []; masks = 2 ∷ [] } ∷ alone ∷ [])
unfolding seams_of
by_itself = refl

-- dimension 3
pub seam_of_C : seamed case_c 1 ≡ lists complete (record { low = pos 0 ∷ pos 0 ∷ pos 0 ∷ []; masks = 1 ∷ 3 ∷ [] } ∷ [])
unfolding seams_of
seam_of_C = refl

-- a buffer of 14 bytes has space for two places; the last two bytes are kept
pub rest_kept : seams_after (seamed (two_lines at_origin) (space_of (two_lines at_origin) (replicate 14 9))) (replicate 14 9)
    ≡ 255 ∷ 255 ∷ 0 ∷ 0 ∷ 1 ∷ 0 ∷ 0 ∷ 0 ∷ 0 ∷ 0 ∷ 1 ∷ 0 ∷ 9 ∷ 9 ∷ []
unfolding seams_of
rest_kept = refl

-- a low end equal to the high one is Open's 6
pub box_refused : seamed case_j 4 ≡ refused 6
unfolding seams_of
box_refused = refl
