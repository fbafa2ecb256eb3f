-- What request 2.8 says of the order of terms: of any list of terms, and of a polynomial of a job. Permutations are mathlib's.
use Rattle.std.specs.Prelude.{ℕ, ◌≡◌, true, pos}
use mathlib.Core.List.{List, Perm}
use Rattle.std.specs.Int.{w64}
use Rattle.std.proofs.Common.{SFits}
use Rattle.exact.specs.Size.{Size}
use Rattle.curves.specs.Grid.{Vertex}
use Rattle.paper.specs.Job.{dimension, body}
use Rattle.paper.specs.Values.{raw_sum}
use Rattle.paper.specs.RunningSum.{Term, sum_in_order, partial_sum, TermsWithin, vertex_within, partial_sum_limit, terms_of}

-- every order us of the terms ts has the same sum, and none of its partial sums leaves the limit of dimension n, nor 64 bits
pub record AnyOrder (n : ℕ) (v : Vertex) (ts : List Term) : Type 0 where
  pub same_sum : (us : List Term) → Perm ts us → sum_in_order v us ≡ sum_in_order v ts
  pub within_limit : (us : List Term) → Perm ts us → (k : ℕ) → Size (partial_sum_limit n) (partial_sum v us k)
  pub within_64_bits : (us : List Term) → Perm ts us → (k : ℕ) → SFits w64 (partial_sum v us k)

-- terms and a vertex within the limits, with a sum of just the bound
pub record ReachesLimit (n : ℕ) (v : Vertex) (ts : List Term) : Type 0 where
  pub terms : TermsWithin n ts
  pub vertex : vertex_within v ≡ true
  pub sum : sum_in_order v ts ≡ pos (partial_sum_limit n)

-- the terms of body k of a job, in every order, have the polynomial's sum
pub record BodyAnyOrder (s : List ℕ) (k : ℕ) (v : Vertex) : Type 0 where
  pub any_order : AnyOrder (dimension s) v (terms_of (body s k))
  pub sum : (us : List Term) → Perm (terms_of (body s k)) us → sum_in_order v us ≡ raw_sum (body s k) v
