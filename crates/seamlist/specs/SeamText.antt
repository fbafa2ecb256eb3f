-- What the program `seams` prints for the bytes on standard input: every seam in the box, a line each, in the manner of document 01, section "The
-- listing". The request does not say how seams are shown; the lines are this program's. Text is a list of ASCII codes; the parts of a line are
-- separated by single blanks, and every line ends with a newline.
use Rattle.std.specs.Prelude.{ℕ, cond, List, [], ◌∷◌, ◌++◌, ℤ, pos, length, ltb}
use Rattle.curves.specs.Grid.{Place}
use Rattle.curves.specs.Walk.{Verdict}
use Rattle.curves.specs.Step.{Stop}
use Rattle.paper.specs.Job.{dimension}
use Rattle.paper.specs.Operations.{Answer, refused, answered}
use Rattle.paper.specs.Listing.{decimal, signed_decimal, blank_numbers, place_numbers, verdict_word, refused_line, listing_space, longest_job}
use Rattle.seamlist.specs.JobSeams.{Extent, complete, full, Seams, seamed}
use Rattle.seamlist.specs.WholeTrace.{whole_trace}

-- ---- lines

-- complete, full
unfoldable pub extent_word : Extent → List ℕ
extent_word complete = 99 ∷ 111 ∷ 109 ∷ 112 ∷ 108 ∷ 101 ∷ 116 ∷ 101 ∷ []
extent_word full = 102 ∷ 117 ∷ 108 ∷ 108 ∷ []

-- n, extent, count
unfoldable pub seams_first_line : ℕ → Extent → ℕ → List ℕ
seams_first_line n e k = decimal n ++ (32 ∷ (extent_word e ++ (32 ∷ (decimal k ++ (10 ∷ [])))))

-- numbers with blanks between them
unfoldable pub numbers_text : List ℤ → List ℕ
numbers_text [] = []
numbers_text (x ∷ v) = signed_decimal x ++ blank_numbers v

-- lowest vertex, masks, side; then verdict and count of a trace
unfoldable pub curve_line : Place → Verdict Stop → ℕ → List ℕ
curve_line p v k =
    numbers_text (place_numbers p.facet (pos p.side ∷ [])) ++ (32 ∷ (verdict_word v ++ (32 ∷ (decimal k ++ (10 ∷ [])))))

-- a seam by its place, and how far its trace goes from there
unfoldable pub seam_line : List ℕ → Place → List ℕ
seam_line s p = curve_line p (whole_trace s p).verdict (length (whole_trace s p).places)

unfoldable pub seam_lines : List ℕ → List Place → List ℕ
seam_lines s [] = []
seam_lines s (p ∷ ps) = seam_line s p ++ seam_lines s ps

-- ---- the whole

unfoldable pub seams_lines : List ℕ → Answer Seams → List ℕ
seams_lines s (refused k) = refused_line k
seams_lines s (answered r) = seams_first_line (dimension s) r.extent (length r.places) ++ seam_lines s r.places

-- more than 2,048 bytes is refusal 5, before any other test; there is space for 4,096 seams
unfoldable pub seams_text : List ℕ → List ℕ
seams_text s = cond (ltb longest_job (length s)) (refused_line 5) (seams_lines s (seamed s listing_space))
