-- The jobs of the marked cases are built by the same rule: `job_of` of the crate paper goes over a list of bodies.
use Prim.Native.Nat.{ℕ, suc, zero, ◌+◌}
use native.Mathlib.Omega.{arith}
use mathlib.Core.Path.{◌≡◌, refl, ap, ◌∙◌}
use mathlib.Core.List.{List, ◌++◌, flatten, map}
use lib.IntN.{pos}
use lib.ListN.{length}
use Rattle.exact.specs.Crossed.{count_from}
use Rattle.paper.specs.Bytes.{word_bytes}
use Rattle.paper.specs.Job.{contents_end}
use Rattle.paper.proofs.Jobs.{entries, job_of}
use Rattle.assembly.specs.Assembled.{entries_of, bodies_of, contents_of, job_from}

entries_listed : (f : ℕ → List ℕ) (k m at : ℕ) → entries at (map f (count_from k m)) ≡ entries_of f k m at
unfolding entries entries_of count_from
entries_listed f k zero at = refl
entries_listed f k (suc m) at =
    let next : suc k ≡ k + 1 = omega arith in
    ap (λ l. word_bytes (pos at) ++ (word_bytes (pos (length (f k))) ++ l))
    (entries_listed f (suc k) m (at + length (f k)) ∙ ap (λ j. entries_of f j m (at + length (f k))) next)

bodies_listed : (f : ℕ → List ℕ) (k m : ℕ) → flatten (map f (count_from k m)) ≡ bodies_of f k m
unfolding bodies_of count_from flatten
bodies_listed f k zero = refl
bodies_listed f k (suc m) =
    let next : suc k ≡ k + 1 = omega arith in ap (λ l. f k ++ l) (bodies_listed f (suc k) m ∙ ap (λ j. bodies_of f j m) next)

pub built_same : (n : ℕ) (f : ℕ → List ℕ) → job_of n (map f (count_from 0 (n + 1))) ≡ job_from n 0 f
unfolding job_of job_from contents_of
built_same n f = rw (entries_listed f 0 (n + 1) (contents_end n), bodies_listed f 0 (n + 1))
