-- The exit by comparisons. Of the vertices other than p the first is kept, and each further one either leaves it or takes its place: n − 1
-- comparisons of two vertices, each by the columns other than theirs. What is kept at the end is the exit (`proofs.ExitCompared`).
use Rattle.std.specs.Prelude.{ℕ, suc, zero, ◌+◌, ◌-◌, ◌%◌, Bool, true, false, cond, List, [], ◌∷◌, eqb}
use Rattle.std.specs.Bool.{beq}
use Rattle.exact.specs.Sign.{Sign, negative, nought, positive, lex_sign}
use Rattle.exact.specs.Det.{Column}
use Rattle.exact.specs.Crossed.{coefficients, remove}
use Rattle.exact.specs.Minors.{position, skip}

-- a sign is above nought
unfoldable pub above : Sign → Bool
above negative = false
above nought = false
above positive = true

-- the sign of a determinant that is not 0: `plus` says whether it is above 0
unfoldable pub sign_of : Bool → Sign
sign_of true = positive
sign_of false = negative

-- the lexicographic sign of a vertex that stands before the vertices other than q and r; what its own column is does not matter
unfoldable pub pair_sign : ℕ → List Column → ℕ → ℕ → Sign
pair_sign n us q r = lex_sign (coefficients n ([] ∷ remove (position q r) (remove q us)) 0)

-- q stays against a later vertex r, where the determinant of the facet without p is above 0 or not
unfoldable pub stays : ℕ → List Column → Bool → ℕ → ℕ → ℕ → Bool
stays n us plus p q r = beq (beq (above (pair_sign n us q r)) plus) (eqb ((q + r + p) % 2) 0)

-- what is kept of q and of m further vertices other than p, from the k-th on
unfoldable pub kept_from : ℕ → List Column → Bool → ℕ → ℕ → ℕ → ℕ → ℕ
kept_from n us plus p q k zero = q
kept_from n us plus p q k (suc m) =
    kept_from n us plus p (cond (stays n us plus p q (skip p k)) q (skip p k)) (suc k) m

-- the exit by comparisons
unfoldable pub compared_exit : ℕ → List Column → Bool → ℕ → ℕ
compared_exit n us plus p = kept_from n us plus p (skip p 0) 1 (n - 1)

-- the determinant of the facet without the exit e is above 0: as that of the facet without p, turned round if e + p is even
unfoldable pub plus_across : Bool → ℕ → ℕ → Bool
plus_across plus p e = beq plus (eqb ((p + e) % 2) 1)
