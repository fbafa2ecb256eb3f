-- The bytes of a job from loose bodies: document 02, request 2.2, with the form of document 01, section "The job".
use Rattle.std.specs.Prelude.{ℕ, zero, suc, ◌+◌, ◌-◌, cond, List, [], ◌∷◌, ◌++◌, pos, length, get_or, eqb}
use Rattle.paper.specs.Bytes.{word_bytes}
use Rattle.paper.specs.Job.{contents_end}

-- what is handed over: the dimension n, the bias, and loose bodies
pub record Loose : Type 0 where
  pub n : ℕ
  pub bias : ℕ
  pub box : List ℕ
  pub polynomials : List (List ℕ)
  pub start : List ℕ

-- with as many polynomials as the largest dimension has
abbrev pub handed : ℕ → ℕ → List ℕ → List ℕ → List ℕ → List ℕ → List ℕ → Loose
handed n bias box p1 p2 p3 start = record { n = n; bias = bias; box = box; polynomials = p1 ∷ p2 ∷ p3 ∷ []; start = start }

-- body k of n + 1: box, the first n − 1 polynomials, start; the polynomials past them are not read
unfoldable pub body_of : Loose → ℕ → List ℕ
body_of d k = cond (eqb k 0) d.box (cond (eqb k d.n) d.start (get_or d.polynomials (k - 1) []))

-- ---- the job whose body k is f k

-- the m entries from entry k on: the first body begins at `at`, each other where the last ended. Offset and length have 16 bits each; of a number
-- that is too long for its entry the low ones stand there
unfoldable pub entries_of : (ℕ → List ℕ) → ℕ → ℕ → ℕ → List ℕ
entries_of f k zero at = []
entries_of f k (suc m) at = word_bytes (pos at) ++ (word_bytes (pos (length (f k))) ++ entries_of f (k + 1) m (at + length (f k)))

-- the m bodies from body k on, one behind the other
unfoldable pub bodies_of : (ℕ → List ℕ) → ℕ → ℕ → List ℕ
bodies_of f k zero = []
bodies_of f k (suc m) = f k ++ bodies_of f (k + 1) m

-- byte 0 is 1, byte 1 is n, byte 2 is n + 1, byte 3 is the bias; then n + 1 entries. An n over 255 is no byte; Open turns it down like any other dimension
unfoldable pub contents_of : ℕ → ℕ → (ℕ → List ℕ) → List ℕ
contents_of n bias f = (1 ∷ n ∷ (n + 1) ∷ bias ∷ []) ++ entries_of f 0 (n + 1) (contents_end n)

-- contents first, bodies behind them
unfoldable pub job_from : ℕ → ℕ → (ℕ → List ℕ) → List ℕ
job_from n bias f = contents_of n bias f ++ bodies_of f 0 (n + 1)

-- the job from loose bodies
unfoldable pub assembled : Loose → List ℕ
assembled d = job_from d.n d.bias (body_of d)
