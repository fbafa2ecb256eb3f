-- Numbers in a list of bytes, little-endian. A byte past the end reads as 0; every operation tests lengths before it reads.
use Rattle.std.specs.Prelude.{ℕ, ◌+◌, ◌*◌, ◌-◌, ◌/◌, ◌%◌, cond, List, [], ◌∷◌, ℤ, pos, negsuc, get_or, ltb}

unfoldable pub byte : List ℕ → ℕ → ℕ
byte s k = get_or s k 0

-- 16 bits, unsigned
unfoldable pub word : List ℕ → ℕ → ℕ
word s k = byte s k + 256 * byte s (k + 1)

-- 32 bits, unsigned
unfoldable pub double_word : List ℕ → ℕ → ℕ
double_word s k = word s k + 65536 * word s (k + 2)

-- an unsigned number under 2 · half, read as signed: those from half on stand for the number less 2 · half
unfoldable pub signed : ℕ → ℕ → ℤ
signed half u = cond (ltb u half) (pos u) (negsuc (half + half - (u + 1)))

-- 16 and 32 bits, signed
unfoldable pub signed_word : List ℕ → ℕ → ℤ
signed_word s k = signed 32768 (word s k)

unfoldable pub signed_double_word : List ℕ → ℕ → ℤ
signed_double_word s k = signed 2147483648 (double_word s k)

-- the 16 bits of a whole number, and its two bytes
unfoldable pub word_of : ℤ → ℕ
word_of (pos a) = a % 65536
word_of (negsuc a) = 65535 - a % 65536

unfoldable pub word_bytes : ℤ → List ℕ
word_bytes z = word_of z % 256 ∷ word_of z / 256 ∷ []
