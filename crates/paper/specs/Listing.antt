-- The listing: document 01, section "The listing", as the bytes that the program prints. Text is a list of ASCII codes;
-- numbers are separated by single blanks and every line ends with a newline.
use Rattle.std.specs.Prelude.{ℕ, suc, zero, ◌+◌, ◌/◌, ◌%◌, cond, List, [], ◌∷◌, ◌++◌, map, ℤ, pos, negsuc, length, ltb}
use Rattle.curves.specs.Grid.{Facet, Place}
use Rattle.curves.specs.Walk.{Verdict, loop, stopped, full, Trace}
use Rattle.curves.specs.Step.{Stop, edge, limit}
use Rattle.paper.specs.Job.{dimension}
use Rattle.paper.specs.Values.{field_of, point_of}
use Rattle.paper.specs.Operations.{Answer, refused, answered, traced}

-- ---- numbers

-- a number in base ten with at most d + 1 digits, in front of a text
unfoldable pub decimal_from : ℕ → ℕ → List ℕ → List ℕ
decimal_from zero a rest = (48 + a % 10) ∷ rest
decimal_from (suc d) a rest = cond (ltb a 10) ((48 + a) ∷ rest) (decimal_from d (a / 10) ((48 + a % 10) ∷ rest))

-- a number in base ten; 20 digits hold every number of 64 bits
unfoldable pub decimal : ℕ → List ℕ
decimal a = decimal_from 19 a []

-- a minus sign in front of a number under 0
unfoldable pub signed_decimal : ℤ → List ℕ
signed_decimal (pos a) = decimal a
signed_decimal (negsuc a) = 45 ∷ decimal (suc a)

-- a blank and a number, for each number of a list
unfoldable pub blank_numbers : List ℤ → List ℕ
blank_numbers [] = []
blank_numbers (x ∷ v) = 32 ∷ (signed_decimal x ++ blank_numbers v)

-- numbers with blanks between them, and a newline
unfoldable pub number_line : List ℤ → List ℕ
number_line [] = 10 ∷ []
number_line (x ∷ v) = signed_decimal x ++ (blank_numbers v ++ (10 ∷ []))

-- ---- lines

-- loop, edge, limit, full
unfoldable pub verdict_word : Verdict Stop → List ℕ
verdict_word loop = 108 ∷ 111 ∷ 111 ∷ 112 ∷ []
verdict_word (stopped edge) = 101 ∷ 100 ∷ 103 ∷ 101 ∷ []
verdict_word (stopped limit) = 108 ∷ 105 ∷ 109 ∷ 105 ∷ 116 ∷ []
verdict_word full = 102 ∷ 117 ∷ 108 ∷ 108 ∷ []

-- `refused` and the number
unfoldable pub refused_line : ℕ → List ℕ
refused_line k = 114 ∷ 101 ∷ 102 ∷ 117 ∷ 115 ∷ 101 ∷ 100 ∷ 32 ∷ (decimal k ++ (10 ∷ []))

-- n, verdict, count
unfoldable pub first_line : ℕ → Verdict Stop → ℕ → List ℕ
first_line n v k = decimal n ++ (32 ∷ (verdict_word v ++ (32 ∷ (decimal k ++ (10 ∷ [])))))

-- lowest vertex, masks, point in steps
unfoldable pub place_numbers : Facet → List ℤ → List ℤ
place_numbers f point = f.low ++ (map pos f.masks ++ point)

unfoldable pub place_line : Facet → List ℤ → List ℕ
place_line f point = number_line (place_numbers f point)

unfoldable pub place_lines : List ℕ → List Place → List ℕ
place_lines s [] = []
place_lines s (p ∷ ps) = place_line p.facet (point_of (dimension s) (field_of s) p.facet) ++ place_lines s ps

-- ---- the whole

-- the space of the program, and the longest job that it reads
unfoldable pub listing_space : ℕ
listing_space = 4096

unfoldable pub longest_job : ℕ
longest_job = 2048

unfoldable pub listing_lines : List ℕ → Answer (Trace Place Stop) → List ℕ
listing_lines s (refused k) = refused_line k
listing_lines s (answered t) = first_line (dimension s) t.verdict (length t.places) ++ place_lines s t.places

-- what the program prints for the bytes on standard input: more than 2,048 bytes is refusal 5, before any other test
unfoldable pub listing : List ℕ → List ℕ
listing s = cond (ltb longest_job (length s)) (refused_line 5) (listing_lines s (traced s listing_space))
