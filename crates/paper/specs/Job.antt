-- The job: document 01, section "The job", and the refusals of Open. A job is the list of its bytes.
use Rattle.std.specs.Prelude.{ℕ, suc, zero, ◌+◌, ◌*◌, ◌-◌, ◌/◌, ◌%◌, Bool, true, false, not, cond, ◌&&◌, ◌||◌, List, [], ◌∷◌, ◌++◌, map, ℤ, pos, nat_abs, length, take, drop, leb, ltb, eqb}
use Rattle.std.specs.Int.Signed.{le_z, lt_z}
use Rattle.exact.specs.Int.{neg}
use Rattle.exact.specs.Crossed.{count_from}
use Rattle.curves.specs.Grid.{Vertex, Place, place_ok}
use Rattle.paper.specs.Bytes.{byte, word, signed_word, signed_double_word, word_bytes}
use Rattle.paper.specs.Limits.{dimension_ok, coordinate_limit, term_limit, coefficient_limit, degree_limit}

-- ---- contents

-- byte 1
unfoldable pub dimension : List ℕ → ℕ
dimension s = byte s 1

-- byte 3, from 0 to 255: a value no larger in size counts as 0 (request 2.7)
unfoldable pub bias : List ℕ → ℕ
bias s = byte s 3

-- entry k of the contents: offset from byte 0 and length
unfoldable pub entry_offset : List ℕ → ℕ → ℕ
entry_offset s k = word s (4 * k + 4)

unfoldable pub entry_length : List ℕ → ℕ → ℕ
entry_length s k = word s (4 * k + 6)

-- where the contents of n + 1 entries end
unfoldable pub contents_end : ℕ → ℕ
contents_end n = 4 * n + 8

-- a polynomial's length: 8 bytes a term, 1 term at least
unfoldable pub polynomial_length_ok : ℕ → ℕ → Bool
polynomial_length_ok n l = eqb (l % 8) 0 && (leb 8 l && leb l (8 * term_limit n))

-- the length of body k of n + 1: box, polynomials, start
unfoldable pub length_ok : ℕ → ℕ → ℕ → Bool
length_ok n k l = cond (eqb k 0) (eqb l (4 * n)) (cond (eqb k n) (eqb l (3 * n)) (polynomial_length_ok n l))

-- the m entries from entry k on: the first body begins at `at`, each other where the last ended, the last ends the job
unfoldable pub entries_ok : ℕ → List ℕ → ℕ → ℕ → ℕ → Bool
entries_ok n s zero k at = eqb at (length s)
entries_ok n s (suc m) k at =
    eqb (entry_offset s k) at
    && (length_ok n k (entry_length s k) && entries_ok n s m (k + 1) (at + entry_length s k))

unfoldable pub contents_ok : ℕ → List ℕ → Bool
contents_ok n s = leb (contents_end n) (length s) && entries_ok n s (n + 1) 0 (contents_end n)

-- body k
unfoldable pub body : List ℕ → ℕ → List ℕ
body s k = take (entry_length s k) (drop (entry_offset s k) s)

-- ---- box

-- the low and high end of axis a
unfoldable pub low_end : List ℕ → ℕ → ℤ
low_end b a = signed_word b (4 * a)

unfoldable pub high_end : List ℕ → ℕ → ℤ
high_end b a = signed_word b (4 * a + 2)

-- − 256 to 256, low under high
unfoldable pub axis_ok : List ℕ → ℕ → Bool
axis_ok b a =
    le_z (neg (pos coordinate_limit)) (low_end b a) && (lt_z (low_end b a) (high_end b a) && le_z (high_end b a) (pos coordinate_limit))

-- a test holds for the m numbers from k on
unfoldable pub all_from : (ℕ → Bool) → ℕ → ℕ → Bool
all_from t k zero = true
all_from t k (suc m) = t k && all_from t (k + 1) m

unfoldable pub box_ok : ℕ → List ℕ → Bool
box_ok n b = all_from (axis_ok b) 0 n

-- ---- polynomials

unfoldable pub term_count : List ℕ → ℕ
term_count b = length b / 8

-- the coefficient of term i, and its exponent of axis a
unfoldable pub coefficient_of : List ℕ → ℕ → ℤ
coefficient_of b i = signed_double_word b (8 * i)

unfoldable pub exponent_of : List ℕ → ℕ → ℕ → ℕ
exponent_of b i a = byte b (8 * i + 4 + a)

-- the exponents of the m axes from axis a on are 0
unfoldable pub exponents_zero : List ℕ → ℕ → ℕ → ℕ → Bool
exponents_zero b i a m = all_from (λ k. eqb (exponent_of b i k) 0) a m

-- the sum of a term's four exponents
unfoldable pub degree : List ℕ → ℕ → ℕ
degree b i = exponent_of b i 0 + exponent_of b i 1 + exponent_of b i 2 + exponent_of b i 3

-- coefficient not 0 and at most 1,048,576 in size; exponents above n are 0; their sum is at most 4
unfoldable pub term_ok : ℕ → List ℕ → ℕ → Bool
term_ok n b i =
    not (eqb (nat_abs (coefficient_of b i)) 0)
    && (leb (nat_abs (coefficient_of b i)) coefficient_limit && (exponents_zero b i n (4 - n) && leb (degree b i) degree_limit))

-- a term's exponents as the digits of a number, axis 1 weighing most
unfoldable pub exponent_weight : List ℕ → ℕ → ℕ
exponent_weight b i =
    exponent_of b i 0 * 16777216 + exponent_of b i 1 * 65536 + exponent_of b i 2 * 256 + exponent_of b i 3

-- term i rises strictly over the one before
unfoldable pub rises : List ℕ → ℕ → Bool
rises b i = eqb i 0 || ltb (exponent_weight b (i - 1)) (exponent_weight b i)

unfoldable pub polynomial_ok : ℕ → List ℕ → Bool
polynomial_ok n b = all_from (λ i. term_ok n b i && rises b i) 0 (term_count b)

-- ---- start

-- the place in 3n bytes: n signed 16-bit coordinates, n − 1 masks, a side
unfoldable pub decode_place : ℕ → List ℕ → Place
decode_place n b = record {
  facet = record { low = map (λ a. signed_word b (2 * a)) (count_from 0 n); masks = map (byte b) (count_from (2 * n) (n - 1)) };
  side = byte b (3 * n - 1);
}

-- the bytes of a place
unfoldable pub vertex_bytes : Vertex → List ℕ
vertex_bytes [] = []
vertex_bytes (x ∷ v) = word_bytes x ++ vertex_bytes v

unfoldable pub encode_place : Place → List ℕ
encode_place p = vertex_bytes p.facet.low ++ (p.facet.masks ++ (p.side ∷ []))

-- the same job with another place as its start
unfoldable pub with_start : List ℕ → Place → List ℕ
with_start s p = take (entry_offset s (dimension s)) s ++ encode_place p

-- ---- refusals

-- the number k if the test holds, else what the rest says; 0 is no refusal
unfoldable pub refuse_if : Bool → ℕ → ℕ → ℕ
refuse_if true k rest = k
refuse_if false k rest = rest

-- the refusal of Open, tested in rising number; 0 if the job opens
unfoldable pub open_refusal : List ℕ → ℕ
open_refusal s =
    refuse_if (ltb (length s) 4) 1
    (refuse_if (not (eqb (byte s 0) 1)) 2
    (refuse_if (not (dimension_ok (dimension s))) 3
    (refuse_if (not (eqb (byte s 2) (dimension s + 1))) 4
    (refuse_if (not (contents_ok (dimension s) s)) 5
    (refuse_if (not (box_ok (dimension s) (body s 0))) 6
    (refuse_if (not (all_from (λ k. polynomial_ok (dimension s) (body s k)) 1 (dimension s - 1))) 7
    (refuse_if (not (place_ok (dimension s) (decode_place (dimension s) (body s (dimension s))))) 8 0)))))))
