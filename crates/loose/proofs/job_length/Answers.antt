-- `loose::job_length` meets its contract: after k turns it is the length of the contents and the first k bodies.
use mathlib.Core.Path.{◌≡◌, ap, ◌∙◌}
use mathlib.Core.Bool.{true}
use mathlib.Core.List.{List, []}
use Prim.Native.Nat.{ℕ, ◌+◌, ◌≤◌, ◌<◌}
use native.Mathlib.Omega.{arith}
use lib.ListN.{length, get_or}
use Rattle.paper.specs.Job.{contents_end}
use Rattle.bits.specs.Axes.{Axes}
use Rattle.assembly.specs.Assembled.{bodies_of}
use Rattle.assembly.specs.LooseRefusal.{lengths_ok}
use Rattle.assembly.proofs.Entries.{kind_small, kind_at}
use Rattle.laying.specs.Laid.{body_at}
use Rattle.laying.proofs.Behind.{offset_more}
use Rattle.laying.proofs.BodyRead.{body_read}
use Rattle.std.specs.Borrow.{Bor}
use Rattle.loose.proofs.job_length.Invariants.{Summed}
use Rattle.loose.proofs.job_length.Goals as goal

-- a body of the right length is short
body-short : (n : ℕ) (f : ℕ → List ℕ) → Axes n → lengths_ok n f ≡ true → (k : ℕ) → k < n + 1 → length (f k) ≤ 560
body-short n f a h k l = kind_small n k (length (f k)) a.high (omega arith) (kind_at n f h k (omega arith))

sum_more : {n sum k l : ℕ} {f : ℕ → List ℕ} → Summed n f sum k → l ≡ length (f k) → l ≤ 560 → k < n + 1 → Summed n f (sum + l) (k + 1)
sum_more {n} {sum} {k} {l} {f} p e s u = record {
  within = omega arith;
  sum = offset_more f k (contents_end n) sum p.sum e;
  size = omega (arith, p.size);
}

pub loop-k-init : goal.loop-k-init
unfolding contents_end bodies_of
loop-k-init c = record { within = omega arith; sum = omega arith; size = omega (arith, c.requires.0.high) }

-- one body more
more : {n sum k : ℕ} (bodies : List (Bor (List ℕ))) → Axes n → lengths_ok n (body_at bodies) ≡ true → Summed n (body_at bodies) sum k → k < n + 1
    → Summed n (body_at bodies) (sum + length (get_or bodies k (record { ref_ptr = (0, 0); now = [] })).now) (k + 1)
more {n} {sum} {k} bodies axes right p l =
    let e = ap length (body_read bodies k) in
    let short = body-short n (body_at bodies) axes right k l in
    sum_more p e (omega (arith, e, short)) l

pub overflow_add-length-in-loop-k : goal.overflow_add-length-in-loop-k
overflow_add-length-in-loop-k c = record { fits = omega (arith, (more c.args.bodies c.requires.0 c.requires.1 c.loop-k.invariant c.loop-k-test.true).size, c.requires.0.high, c.loop-k-test.true) }

pub loop-k-preserved : goal.loop-k-preserved
loop-k-preserved c = more c.args.bodies c.requires.0 c.requires.1 c.loop-k.invariant c.loop-k-test.true

pub returns : goal.returns
returns c =
    let n = c.args.n in
    let all : c.loop-k.k ≡ n + 1 = omega (arith, c.loop-k.invariant.within, c.loop-k-test.false) in
    c.loop-k.invariant.sum ∙ ap (λ k. contents_end n + length (bodies_of (body_at c.args.bodies) 0 k)) all
