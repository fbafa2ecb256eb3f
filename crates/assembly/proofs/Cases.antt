-- Small cases of writing jobs, by computation from the definitions: cases A and C from their loose bodies, what is not read, the buffer at exit, and
-- each refusal.
use Prim.Native.Nat.{ℕ}
use native.Mathlib.Omega.{arith}
use mathlib.Core.Path.{◌≡◌, refl}
use mathlib.Core.List.{List, [], ◌∷◌, ◌++◌}
use lib.ListN.{length, replicate}
use Rattle.paper.specs.Limits.{dimension_ok}
use Rattle.paper.specs.Operations.{Answer, refused, answered}
use Rattle.paper.specs.Bias.{with_bias}
use Rattle.paper.proofs.Cases.{body_offsets, case_a, case_c}
use Rattle.paper.proofs.Jobs.{case_c4}
use Rattle.assembly.specs.Assembled as Assembled
use Rattle.assembly.specs.Assembled.{Loose, handed, assembled}
use Rattle.assembly.specs.Written as Written
use Rattle.assembly.specs.Written.{written, buffer_written}
use Rattle.assembly.proofs.WriteAnswers.{write_too_long}

-- ---- the loose bodies of case A

-- box − 1 to 1 on both axes
unfoldable pub box_a : List ℕ
box_a = 255 ∷ 255 ∷ 1 ∷ 0 ∷ 255 ∷ 255 ∷ 1 ∷ 0 ∷ []

-- − 1, then 2 with exponents 0 2, then 2 with 2 0
unfoldable pub terms_a : List ℕ
terms_a = 255 ∷ 255 ∷ 255 ∷ 255 ∷ 0 ∷ 0 ∷ 0 ∷ 0 ∷ 2 ∷ 0 ∷ 0 ∷ 0 ∷ 0 ∷ 2 ∷ 0 ∷ 0 ∷ 2 ∷ 0 ∷ 0 ∷ 0 ∷ 2 ∷ 0 ∷ 0 ∷ 0 ∷ []

-- 0 0, mask 1, side 0
unfoldable pub start_a : List ℕ
start_a = 0 ∷ 0 ∷ 0 ∷ 0 ∷ 1 ∷ 0 ∷ []

-- what this unfolds is all that the cases compute with
unfoldable pub answer_of : Loose → List ℕ → Answer ℕ
unfolding body_offsets case_a case_c case_c4 with_bias box_a terms_a start_a
    Assembled.body_of Assembled.entries_of Assembled.bodies_of Assembled.contents_of Assembled.job_from Assembled.assembled
    Written.write_refusal Written.written Written.over Written.over_unless Written.buffer_written
answer_of d buffer = written d buffer

-- ---- case A

-- dimension, bias, box, the first polynomial and start; the other two are empty
abbrev one_handed : ℕ → ℕ → List ℕ → List ℕ → List ℕ → Loose
one_handed n bias box terms start = handed n bias box terms [] [] start

-- the bodies of A, with any dimension and bias
abbrev bodies_a : ℕ → ℕ → Loose
bodies_a n bias = one_handed n bias box_a terms_a start_a

pub case_A : assembled (bodies_a 2 0) ≡ case_a
unfolding answer_of
case_A = refl

-- the bias in byte 3
pub case_A_bias : assembled (bodies_a 2 7) ≡ with_bias case_a 7
unfolding answer_of
case_A_bias = refl

-- the second and third polynomial are not read
pub case_A_others : assembled (handed 2 0 box_a terms_a (9 ∷ 8 ∷ 7 ∷ []) (255 ∷ []) start_a) ≡ case_a
unfolding answer_of
case_A_others = refl

-- ---- the buffer

pub one_byte_short : written (bodies_a 2 0) (replicate 53 0) ≡ refused 16
unfolding answer_of
one_byte_short = refl

pub one_byte_short_kept : buffer_written (bodies_a 2 0) (replicate 53 170) ≡ replicate 53 170
unfolding answer_of
one_byte_short_kept = refl

pub exact_room : written (bodies_a 2 0) (replicate 54 0) ≡ answered 54
unfolding answer_of
exact_room = refl

pub exact_room_left : buffer_written (bodies_a 2 0) (replicate 54 170) ≡ case_a
unfolding answer_of
exact_room_left = refl

-- two bytes more keep their values
pub more_room : written (bodies_a 2 0) (replicate 54 170 ++ (187 ∷ 204 ∷ [])) ≡ answered 54
unfolding answer_of
more_room = refl

pub more_room_left : buffer_written (bodies_a 2 0) (replicate 54 170 ++ (187 ∷ 204 ∷ [])) ≡ case_a ++ (187 ∷ 204 ∷ [])
unfolding answer_of
more_room_left = refl

-- ---- the other dimensions

-- C: box 0 to 1; x and y, and z for dimension 4
pub case_C : assembled (handed 3 0 (0 ∷ 0 ∷ 1 ∷ 0 ∷ 0 ∷ 0 ∷ 1 ∷ 0 ∷ 0 ∷ 0 ∷ 1 ∷ 0 ∷ [])
    (1 ∷ 0 ∷ 0 ∷ 0 ∷ 1 ∷ 0 ∷ 0 ∷ 0 ∷ []) (1 ∷ 0 ∷ 0 ∷ 0 ∷ 0 ∷ 1 ∷ 0 ∷ 0 ∷ []) (5 ∷ []) (0 ∷ 0 ∷ 0 ∷ 0 ∷ 0 ∷ 0 ∷ 1 ∷ 3 ∷ 0 ∷ [])) ≡ case_c
unfolding answer_of
case_C = refl

pub case_C_4 : assembled (handed 4 0 (0 ∷ 0 ∷ 1 ∷ 0 ∷ 0 ∷ 0 ∷ 1 ∷ 0 ∷ 0 ∷ 0 ∷ 1 ∷ 0 ∷ 0 ∷ 0 ∷ 1 ∷ 0 ∷ [])
    (1 ∷ 0 ∷ 0 ∷ 0 ∷ 1 ∷ 0 ∷ 0 ∷ 0 ∷ []) (1 ∷ 0 ∷ 0 ∷ 0 ∷ 0 ∷ 1 ∷ 0 ∷ 0 ∷ []) (1 ∷ 0 ∷ 0 ∷ 0 ∷ 0 ∷ 0 ∷ 1 ∷ 0 ∷ [])
    (0 ∷ 0 ∷ 0 ∷ 0 ∷ 0 ∷ 0 ∷ 0 ∷ 0 ∷ 1 ∷ 3 ∷ 7 ∷ 0 ∷ [])) ≡ case_c4
unfolding answer_of
case_C_4 = refl

-- ---- refusals

-- 1, 5 and 258 are no dimensions
pub dimension_1 : written (bodies_a 1 0) (replicate 80 0) ≡ refused 3
unfolding answer_of
dimension_1 = refl

pub dimension_5 : written (bodies_a 5 0) (replicate 80 0) ≡ refused 3
unfolding answer_of
dimension_5 = refl

-- no byte; its low eight bits are 2
pub dimension_258 : written (bodies_a 258 0) (replicate 80 0) ≡ refused 3
unfolding answer_of
dimension_258 = refl

-- a box of seven bytes
pub short_box : written (one_handed 2 0 (255 ∷ 255 ∷ 1 ∷ 0 ∷ 255 ∷ 255 ∷ 1 ∷ []) terms_a start_a) (replicate 80 0) ≡ refused 5
unfolding answer_of
short_box = refl

-- a box of 65,544 bytes, whatever they are: the low 16 bits of its length are 8
pub long_box : (buffer tail : List ℕ) → length tail ≡ 65536 → written (one_handed 2 0 (box_a ++ tail) terms_a start_a) buffer ≡ refused 5
unfolding box_a dimension_ok Assembled.body_of
long_box buffer tail h = write_too_long (one_handed 2 0 (box_a ++ tail) terms_a start_a) buffer refl 0 (omega arith) (omega arith)

-- 1 to 1 on axis 1
pub flat_box : written (one_handed 2 0 (1 ∷ 0 ∷ 1 ∷ 0 ∷ 255 ∷ 255 ∷ 1 ∷ 0 ∷ []) terms_a start_a) (replicate 80 0) ≡ refused 6
unfolding answer_of
flat_box = refl

-- coefficient 0
pub no_coefficient : written (one_handed 2 0 box_a (0 ∷ 0 ∷ 0 ∷ 0 ∷ 1 ∷ 0 ∷ 0 ∷ 0 ∷ []) start_a) (replicate 80 0) ≡ refused 7
unfolding answer_of
no_coefficient = refl

-- mask 0
pub no_mask : written (one_handed 2 0 box_a terms_a (0 ∷ 0 ∷ 0 ∷ 0 ∷ 0 ∷ 0 ∷ [])) (replicate 80 0) ≡ refused 8
unfolding answer_of
no_mask = refl

-- the buffer comes last
pub no_mask_no_room : written (one_handed 2 0 box_a terms_a (0 ∷ 0 ∷ 0 ∷ 0 ∷ 0 ∷ 0 ∷ [])) (replicate 20 0) ≡ refused 8
unfolding answer_of
no_mask_no_room = refl
