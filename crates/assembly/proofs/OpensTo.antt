-- Opening the job from loose bodies: its contents pass exactly if every body has a length of its kind, its bodies are then the loose ones, and Open
-- refuses it with the number that the tests of the loose bodies give, for every dimension, bias and bodies.
use Prim.Native.Nat.{ℕ, ◌+◌, ◌≤◌}
use native.Mathlib.Omega.{arith}
use mathlib.Core.Path.{◌≡◌, refl, sym, ap, ◌∙◌}
use mathlib.Core.Bool.{Bool, true, false, not}
use mathlib.Core.List.{List, ◌++◌}
use lib.ListN.{length, drop}
use lib.Seq.{drop_at}
use lib.Dec.{ltb}
use borrow.Author.Tests.{le-ltb, le-leb, eq-eqb}
use Rattle.exact.proofs.AndTests.{and-true}
use Rattle.paper.specs.Limits.{dimension_ok}
use Rattle.paper.specs.Bytes.{byte}
use Rattle.paper.specs.Job as Job
use Rattle.paper.specs.Job.{dimension, contents_end, contents_ok, body, all_from, refuse_if, open_refusal}
use Rattle.paper.specs.Operations.{first_refusal}
use Rattle.paper.proofs.Tests.{all_fails_at, dimension_range}
use Rattle.paper.proofs.Refusals.{refuse_here, refuse_later}
use Rattle.paper.proofs.Opens.{behind_contents, behind_same}
use Rattle.paper.proofs.Bodies.{contents_entries}
use Rattle.assembly.specs.Assembled.{Loose, body_of, entries_of, bodies_of, contents_of, job_from, assembled}
use Rattle.assembly.specs.Written.{write_refusal}
use Rattle.assembly.specs.LooseRefusal.{lengths_ok, form_refusal, loose_refusal}
use Rattle.assembly.proofs.Lengths.{contents_length, job_length}
use Rattle.assembly.proofs.Entries.{Fits, kind_small, kind_ok, entries_passed, entries_pass, bodies_read}

module _ (n bias : ℕ) (f : ℕ → List ℕ) where
  -- ---- where contents and bodies stand

  entries_stand : drop 4 (job_from n bias f) ≡ entries_of f 0 (n + 1) (contents_end n) ++ bodies_of f 0 (n + 1)
  unfolding job_from contents_of
  entries_stand = refl

  bodies_stand : drop (contents_end n) (job_from n bias f) ≡ bodies_of f 0 (n + 1)
  unfolding job_from
  bodies_stand = drop_at (contents_of n bias f) (bodies_of f 0 (n + 1)) (contents_end n) (contents_length n bias f)

  -- the first four bytes
  pub job_mark : byte (job_from n bias f) 0 ≡ 1
  unfolding byte job_from contents_of
  job_mark = refl

  pub job_dimension : dimension (job_from n bias f) ≡ n
  unfolding dimension byte job_from contents_of
  job_dimension = refl

  pub job_count : byte (job_from n bias f) 2 ≡ n + 1
  unfolding byte job_from contents_of
  job_count = refl

  pub job_bias : Job.bias (job_from n bias f) ≡ bias
  unfolding Job.bias byte job_from contents_of
  job_bias = refl

  -- ---- the contents

  module _ (d : dimension_ok n ≡ true) where
    lengths_fit : lengths_ok n f ≡ true → Fits n f 0 (n + 1) (contents_end n)
    unfolding lengths_ok contents_end
    lengths_fit h = let r = dimension_range n d in record { axes = r.high; last = omega arith; room = omega (arith, r.high); kinds = h }

    right_lengths : contents_ok n (job_from n bias f) ≡ true → lengths_ok n f ≡ true
    unfolding contents_ok lengths_ok
    right_lengths h =
        let s : List ℕ = job_from n bias f in
        (entries_passed n s f 0 (n + 1) (contents_end n) (contents_end n) (bodies_of f 0 (n + 1)) entries_stand (omega arith) (sym (job_length n bias f))
        (contents_entries n s h)).kinds

    right_contents : lengths_ok n f ≡ true → contents_ok n (job_from n bias f) ≡ true
    unfolding contents_ok
    right_contents h =
        and-true (le-leb (contents_end n) (length (job_from n bias f)) (omega (arith, job_length n bias f)))
        (entries_pass n (job_from n bias f) f 0 (n + 1) (contents_end n) (bodies_of f 0 (n + 1)) entries_stand (sym (job_length n bias f)) (lengths_fit h))

    pub contents_is : contents_ok n (job_from n bias f) ≡ lengths_ok n f
    contents_is = go (contents_ok n (job_from n bias f)) (lengths_ok n f) refl refl
      where
        go : (a b : Bool) → contents_ok n (job_from n bias f) ≡ a → lengths_ok n f ≡ b → contents_ok n (job_from n bias f) ≡ lengths_ok n f
        go true b p q = p ∙ sym (right_lengths p)
        go false true p q = right_contents q ∙ sym q
        go false false p q = p ∙ sym q

    -- ---- the bodies

    pub same_body : lengths_ok n f ≡ true → (k : ℕ) → k ≤ n → body (job_from n bias f) k ≡ f k
    same_body h k l =
        bodies_read n (job_from n bias f) f 0 (n + 1) (contents_end n) (bodies_of f 0 (n + 1)) entries_stand bodies_stand (lengths_fit h)
        k (omega arith) (omega arith)

  -- ---- the refusals

  -- of a job with a dimension
  form_is : dimension_ok n ≡ true → refuse_if (not (contents_ok n (job_from n bias f))) 5 (behind_contents n (body (job_from n bias f))) ≡ form_refusal n f
  unfolding form_refusal
  form_is d =
      ap (λ t. refuse_if (not t) 5 (behind_contents n (body (job_from n bias f)))) (contents_is d) ∙ go (lengths_ok n f) refl
    where
      go : (t : Bool) → lengths_ok n f ≡ t
          → refuse_if (not (lengths_ok n f)) 5 (behind_contents n (body (job_from n bias f))) ≡ refuse_if (not (lengths_ok n f)) 5 (behind_contents n f)
      go true e = ap (refuse_if _ 5) (behind_same n (body (job_from n bias f)) f (same_body d e))
      go false e = refuse_here 5 _ (ap not e) ∙ sym (refuse_here 5 _ (ap not e))

  -- Open refuses the job as the tests of the loose bodies do
  pub opens_to : open_refusal (job_from n bias f) ≡ loose_refusal n f
  unfolding refuse_if open_refusal loose_refusal
  opens_to =
      refuse_later 1 _ (le-ltb (length (job_from n bias f)) 4 long)
      ∙ rw (job_mark, job_dimension, job_count, eq-eqb (n + 1) (n + 1) refl) (go (dimension_ok n) refl)
    where
      long : 4 ≤ length (job_from n bias f)
      long = unfold contents_end in omega (arith, job_length n bias f)

      go : (t : Bool) → dimension_ok n ≡ t
          → refuse_if (not (dimension_ok n)) 3 (refuse_if (not (contents_ok n (job_from n bias f))) 5 (behind_contents n (body (job_from n bias f))))
          ≡ refuse_if (not (dimension_ok n)) 3 (form_refusal n f)
      go true e = ap (refuse_if (not (dimension_ok n)) 3) (form_is e)
      go false e = refuse_here 3 _ (ap not e) ∙ sym (refuse_here 3 _ (ap not e))

  -- a body whose length does not fit its entry: the job does not open, whatever the low bits of the length say
  pub too_long_five : dimension_ok n ≡ true → (k : ℕ) → k ≤ n → 65536 ≤ length (f k) → open_refusal (job_from n bias f) ≡ 5
  unfolding loose_refusal form_refusal lengths_ok
  too_long_five d k l h =
      opens_to ∙ (refuse_later 3 _ (ap not d) ∙ refuse_here 5 _ (ap not wrong))
    where
      long : (t : Bool) → kind_ok n f k ≡ t → kind_ok n f k ≡ false
      long true e = absurd (omega (arith, h, kind_small n k (length (f k)) (dimension_range n d).high l e))
      long false e = e

      wrong : all_from (kind_ok n f) 0 (n + 1) ≡ false
      wrong = all_fails_at (kind_ok n f) 0 (n + 1) k (omega arith) (omega arith) (long (kind_ok n f k) refl)

-- the refusal of writing, by the tests of the loose bodies
pub write_refusal_is : (d : Loose) (buffer : List ℕ)
    → write_refusal d buffer ≡ first_refusal (loose_refusal d.n (body_of d)) (refuse_if (ltb (length buffer) (length (assembled d))) 16 0)
unfolding write_refusal assembled
write_refusal_is d buffer = rw (opens_to d.n d.bias (body_of d))
