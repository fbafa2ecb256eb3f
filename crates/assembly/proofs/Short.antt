-- No job is longer than 1,732 bytes: in dimension 4 contents of 24, a box of 16, three polynomials of 560 and a start of 12.
use Prim.Native.Nat.{ℕ, zero, suc, ◌+◌, ◌*◌, ◌-◌, ◌≤◌, ◌<◌}
use native.Mathlib.Omega.{arith}
use mathlib.Core.Path.{◌≡◌, ap, ◌∙◌}
use mathlib.Core.Bool.{true}
use mathlib.Core.List.{List, ◌++◌}
use lib.ListN.{length, length-append}
use Rattle.paper.specs.Limits.{dimension_ok}
use Rattle.paper.specs.Job.{contents_end}
use Rattle.paper.proofs.Tests.{dimension_range}
use Rattle.paper.proofs.TermLimit.{term_limit_most}
use Rattle.paper.proofs.Bodies.{box_kind, start_kind, polynomial_kind}
use Rattle.assembly.specs.Assembled.{bodies_of, job_from}
use Rattle.assembly.specs.LooseRefusal.{lengths_ok}
use Rattle.assembly.proofs.Lengths.{job_length, bodies_snoc}
use Rattle.assembly.proofs.Entries.{kind_at}

bodies_most : (f : ℕ → List ℕ) (k m : ℕ) → ((j : ℕ) → k ≤ j → j < k + m → length (f j) ≤ 560) → length (bodies_of f k m) ≤ 560 * m
unfolding bodies_of
bodies_most f k zero h = omega arith
bodies_most f k (suc m) h =
    let later = bodies_most f (k + 1) m (λ j l u. h j (omega arith) (omega arith)) in
    omega (arith, length-append (f k) (bodies_of f (k + 1) m), h k (omega arith) (omega arith))

-- box, polynomials, start
three_parts : (n : ℕ) (f : ℕ → List ℕ) → 0 < n → length (bodies_of f 0 (n + 1)) ≡ length (f 0) + length (bodies_of f 1 (n - 1)) + length (f n)
unfolding bodies_of
three_parts n f p =
    let count : n + 1 ≡ suc (suc (n - 1)) = omega arith in
    let last : 1 + (n - 1) ≡ n = omega arith in
    let polynomials : List ℕ = bodies_of f 1 (n - 1) in
    ap (λ m. length (bodies_of f 0 m)) count
    ∙ ap (λ b. length (f 0 ++ b)) (bodies_snoc f 1 (n - 1) ∙ ap (λ k. polynomials ++ f k) last)
    ∙ omega (arith, length-append (f 0) (polynomials ++ f n), length-append polynomials (f n))

module _ (n bias : ℕ) (f : ℕ → List ℕ) (d : dimension_ok n ≡ true) (t : lengths_ok n f ≡ true) where
  polynomials_short : length (bodies_of f 1 (n - 1)) ≤ 560 * (n - 1)
  polynomials_short =
      bodies_most f 1 (n - 1)
      (λ k l u. omega (arith, (polynomial_kind n k (length (f k)) l (omega arith) (kind_at n f t k (omega arith))).high, term_limit_most n))

  pub job_short : length (job_from n bias f) ≤ 1732
  unfolding contents_end
  job_short =
      let r = dimension_range n d in
      let some : 0 < n = omega (arith, r.low) in
      omega (
        arith,
        r.high,
        job_length n bias f,
        three_parts n f some,
        box_kind n (length (f 0)) (kind_at n f t 0 (omega arith)),
        polynomials_short,
        start_kind n (length (f n)) some (kind_at n f t n (omega arith)),
      )
