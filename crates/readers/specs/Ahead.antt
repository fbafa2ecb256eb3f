-- What a reader is asked and what it answers: in the words of the machine that reads one byte a step (`run` of the crate formula), so that what one
-- reader has read is one state of it. A text is read in dimension n, from byte `at` on, at a depth of open parentheses.
use Rattle.std.specs.Prelude.{ℕ, ◌-◌, ◌^◌, ◌≤◌, ◌<◌, ◌≡◌, Bool, true, false, cond, ◌&&◌, List, length, drop, get_or, eqb, leb}
use Rattle.std.proofs.Math.Option.{Option}
use Rattle.formula.specs.Grammar.{Formula, number}
use Rattle.formula.specs.Polynomial.{Polynomial, zero_polynomial, difference_of}
use Rattle.formula.specs.Meaning.{evaluate, on_result}
use Rattle.formula.specs.Reader.{Left, none, Factor, one, Level, State, expect, in_number, after_atom, in_product, in_sum, run, Reading, sum_with, product_with}
use Rattle.formula.specs.Read.{nesting_limit, is_read}

-- the reading from a state on
unfoldable pub read_from : ℕ → State → List ℕ → ℕ → Reading
read_from n q s at = run nesting_limit n q (drop at s)

-- byte i of the text is b
unfoldable pub byte_is : List ℕ → ℕ → ℕ → Bool
byte_is s i b = eqb (get_or s i 0) b

unfoldable pub is_digit : List ℕ → ℕ → Bool
is_digit s i = leb 48 (get_or s i 0) && leb (get_or s i 0) 57

-- the first product of a sum, with its optional minus
unfoldable pub signed_by : Bool → Option Polynomial → Option Polynomial
signed_by minus p = cond minus (on_result (difference_of zero_polynomial) p) p

-- an atom comes, with something before it, in a text that is read to its end
pub record AtomAhead (n : ℕ) (s : List ℕ) (at depth : ℕ) : Type 0 where
  pub left : Left
  pub factor : Factor
  pub levels : List Level
  pub deep : length levels ≡ depth
  pub alive : is_read (read_from n (expect false left factor levels) s at) ≡ true

-- a product comes
pub record ProductAhead (n : ℕ) (s : List ℕ) (at depth : ℕ) : Type 0 where
  pub left : Left
  pub levels : List Level
  pub deep : length levels ≡ depth
  pub alive : is_read (read_from n (expect false left one levels) s at) ≡ true

-- a sum comes
pub record SumAhead (n : ℕ) (s : List ℕ) (at depth : ℕ) : Type 0 where
  pub levels : List Level
  pub deep : length levels ≡ depth
  pub alive : is_read (read_from n (expect true none one levels) s at) ≡ true

-- the bytes from `at` to `next` are an atom, with this result
pub record AtomRead (n : ℕ) (s : List ℕ) (at depth next : ℕ) (result : Option Polynomial) : Type 0 where
  pub formula : Formula
  pub is : result ≡ evaluate formula
  pub forward : at < next
  pub inside : next ≤ length s
  pub reads_on :
      (l : Left) (b : Factor) (ls : List Level) → length ls ≡ depth
      → read_from n (expect false l b ls) s at ≡ read_from n (after_atom formula l b ls) s next

pub record PowerRead (n : ℕ) (s : List ℕ) (at depth next : ℕ) (result : Option Polynomial) : Type 0 where
  pub formula : Formula
  pub is : result ≡ evaluate formula
  pub forward : at < next
  pub inside : next ≤ length s
  pub reads_on :
      (l : Left) (b : Factor) (ls : List Level) → length ls ≡ depth
      → read_from n (expect false l b ls) s at ≡ read_from n (in_product (product_with b formula) l ls) s next

-- a product so far, behind one of its powers
pub record ProductSoFar (n : ℕ) (s : List ℕ) (at depth next : ℕ) (result : Option Polynomial) : Type 0 where
  pub formula : Formula
  pub is : result ≡ evaluate formula
  pub forward : at < next
  pub inside : next ≤ length s
  pub reads_on :
      (l : Left) (ls : List Level) → length ls ≡ depth
      → read_from n (expect false l one ls) s at ≡ read_from n (in_product formula l ls) s next

pub record ProductRead (n : ℕ) (s : List ℕ) (at depth next : ℕ) (result : Option Polynomial) : Type 0 where
  pub formula : Formula
  pub is : result ≡ evaluate formula
  pub forward : at < next
  pub inside : next ≤ length s
  pub reads_on :
      (l : Left) (ls : List Level) → length ls ≡ depth
      → read_from n (expect false l one ls) s at ≡ read_from n (in_sum (sum_with l formula) ls) s next

-- a sum so far, behind one of its products
pub record SumSoFar (n : ℕ) (s : List ℕ) (at depth next : ℕ) (result : Option Polynomial) : Type 0 where
  pub formula : Formula
  pub is : result ≡ evaluate formula
  pub forward : at < next
  pub inside : next ≤ length s
  pub reads_on :
      (ls : List Level) → length ls ≡ depth
      → read_from n (expect true none one ls) s at ≡ read_from n (in_sum formula ls) s next

-- a whole sum: no sign follows
pub record SumRead (n : ℕ) (s : List ℕ) (at depth next : ℕ) (result : Option Polynomial) : Type 0 where
  pub so_far : SumSoFar n s at depth next result
  pub no_plus : byte_is s next 43 ≡ false
  pub no_minus : byte_is s next 45 ≡ false

-- k digits so far, with the value v
pub record NumberSoFar (n : ℕ) (s : List ℕ) (at depth next v : ℕ) : Type 0 where
  pub forward : at < next
  pub inside : next ≤ length s
  pub few : next - at ≤ 7
  pub small : v < 10 ^ (next - at)
  pub reads_on :
      (l : Left) (b : Factor) (ls : List Level) → length ls ≡ depth
      → read_from n (expect false l b ls) s at ≡ read_from n (in_number (next - at) v l b ls) s next

pub record NumberRead (n : ℕ) (s : List ℕ) (at depth next v : ℕ) : Type 0 where
  pub forward : at < next
  pub inside : next ≤ length s
  pub small : v < 10000000
  pub reads_on :
      (l : Left) (b : Factor) (ls : List Level) → length ls ≡ depth
      → read_from n (expect false l b ls) s at ≡ read_from n (after_atom (number v) l b ls) s next
