-- What the answer says in words: which loose bodies and buffers are turned away and with what number, and what is answered and written otherwise.
use Prim.Native.Nat.{ℕ, zero, suc, ◌≤◌, ◌<◌}
use native.Mathlib.Omega.{arith}
use mathlib.Core.Path.{◌≡◌, refl, sym, ap, ◌∙◌}
use mathlib.Core.Bool.{Bool, true, false, not}
use mathlib.Core.List.{List}
use lib.ListN.{length}
use lib.Dec.{ltb, lit<}
use borrow.Author.Tests.{ltb-false, lt-ltb, le-ltb, not-false}
use Rattle.paper.specs.Limits.{dimension_ok}
use Rattle.paper.specs.Job.{refuse_if}
use Rattle.paper.specs.Operations.{refused, answered}
use Rattle.paper.proofs.Refusals.{not_refused, refuse_here, refuse_later, neither_refused, first_refuses, first_passes}
use Rattle.paper.proofs.Refusals.{unless_refused, unless_answered, answered_inv, RefusedBy, refused_inv}
use Rattle.assembly.specs.Assembled.{Loose, body_of, assembled}
use Rattle.assembly.specs.Written.{write_refusal, written, over, over_unless, buffer_written}
use Rattle.assembly.specs.LooseRefusal.{lengths_ok, form_refusal, loose_refusal}
use Rattle.assembly.proofs.Short.{job_short}
use Rattle.assembly.proofs.OpensTo.{opens_to, too_long_five, write_refusal_is}

-- the numbers with which the operation turns away: no dimension, a length, the box, a term, the start, the buffer
pub data WriteNumber (k : ℕ) : Type 0 where
  by_dimension : k ≡ 3 → WriteNumber k
  by_length : k ≡ 5 → WriteNumber k
  by_box : k ≡ 6 → WriteNumber k
  by_term : k ≡ 7 → WriteNumber k
  by_start : k ≡ 8 → WriteNumber k
  by_buffer : k ≡ 16 → WriteNumber k

-- a test refuses, or the rest does
either : {P : Type 0} (t : Bool) (k rest r : ℕ) → refuse_if t k rest ≡ r → (r ≡ k → P) → (rest ≡ r → P) → P
unfolding refuse_if
either true k rest r h here later = here (sym h)
either false k rest r h here later = later h

-- the number of the tests of the loose bodies
loose_number : (n : ℕ) (f : ℕ → List ℕ) (k : ℕ) → 0 < k → loose_refusal n f ≡ k → WriteNumber k
unfolding loose_refusal form_refusal
loose_number n f k l h =
    either _ 3 _ k h by_dimension
    (λ h5. either _ 5 _ k h5 by_length
    (λ h6. either _ 6 _ k h6 by_box
    (λ h7. either _ 7 _ k h7 by_term
    (λ h8. either _ 8 0 k h8 by_start (λ z. absurd (omega (arith, l, z)))))))

kept : (r : ℕ) (s buffer : List ℕ) → 0 < r → over_unless r s buffer ≡ buffer
unfolding over_unless
kept zero s buffer l = absurd (omega arith)
kept (suc r) s buffer l = refl

-- ---- answered

-- what an answer comes from
pub record Given (d : Loose) (buffer : List ℕ) (l : ℕ) : Type 0 where
  pub loose : loose_refusal d.n (body_of d) ≡ 0
  pub is : length (assembled d) ≡ l
  pub room : length (assembled d) ≤ length buffer
  pub left : buffer_written d buffer ≡ over (assembled d) buffer

pub write_given : (d : Loose) (buffer : List ℕ) (l : ℕ) → written d buffer ≡ answered l → Given d buffer l
unfolding written buffer_written over_unless
write_given d buffer l h =
    let a = answered_inv (write_refusal d buffer) (length (assembled d)) l h in
    let r = neither_refused _ _ (sym (write_refusal_is d buffer) ∙ a.none) in
    record {
      loose = r.first;
      is = a.is;
      room = ltb-false _ _ (not_refused _ 16 0 (lit< tt) r.next).test;
      left = rw a.none;
    }

module _ (d : Loose) (buffer : List ℕ) where
  -- ---- turned away

  refuses : (k : ℕ) → 0 < k → write_refusal d buffer ≡ k → written d buffer ≡ refused k
  unfolding written
  refuses k l r = unless_refused (write_refusal d buffer) (length (assembled d)) (λ z. omega arith) ∙ ap refused r

  -- by the tests of the loose bodies, whatever the buffer
  pub write_loose : (k : ℕ) → 0 < k → loose_refusal d.n (body_of d) ≡ k → written d buffer ≡ refused k
  write_loose k l e = refuses k l (write_refusal_is d buffer ∙ first_refuses _ _ (λ z. omega arith) ∙ e)

  -- no dimension
  pub write_not_dimension : dimension_ok d.n ≡ false → written d buffer ≡ refused 3
  unfolding loose_refusal
  write_not_dimension h = write_loose 3 (omega arith) (refuse_here 3 _ (ap not h))

  -- a body too long for its entry
  pub write_too_long : dimension_ok d.n ≡ true → (k : ℕ) → k ≤ d.n → 65536 ≤ length (body_of d k) → written d buffer ≡ refused 5
  write_too_long h k l u =
      write_loose 5 (omega arith) (sym (opens_to d.n d.bias (body_of d)) ∙ too_long_five d.n d.bias (body_of d) h k l u)

  -- bodies of a job, by the room for it
  module _ (h : loose_refusal d.n (body_of d) ≡ 0) where
    by_room : write_refusal d buffer ≡ refuse_if (ltb (length buffer) (length (assembled d))) 16 0
    by_room = write_refusal_is d buffer ∙ first_passes _ h

    pub write_no_room : length buffer < length (assembled d) → written d buffer ≡ refused 16
    write_no_room u = refuses 16 (omega arith) (by_room ∙ refuse_here 16 0 (lt-ltb (length buffer) (length (assembled d)) u))

    pub write_room : length (assembled d) ≤ length buffer
        → (written d buffer ≡ answered (length (assembled d))) × (buffer_written d buffer ≡ over (assembled d) buffer)
    unfolding written buffer_written over_unless
    write_room u =
        let none : write_refusal d buffer ≡ 0 = by_room ∙ refuse_later 16 0 (le-ltb (length buffer) (length (assembled d)) u) in
        (unless_answered (length (assembled d)) none, rw none)

  -- ---- a refusal

  refusal_is : (k : ℕ) → written d buffer ≡ refused k → RefusedBy (write_refusal d buffer) k
  unfolding written
  refusal_is k h = refused_inv (write_refusal d buffer) (length (assembled d)) h

  -- nothing is written
  pub refused_nothing : (k : ℕ) → written d buffer ≡ refused k → buffer_written d buffer ≡ buffer
  unfolding buffer_written
  refused_nothing k h = kept (write_refusal d buffer) (assembled d) buffer (refusal_is k h).some

  -- its number
  pub refusal_numbers : (k : ℕ) → written d buffer ≡ refused k → WriteNumber k
  refusal_numbers k h = go (loose_refusal d.n (body_of d)) refl
    where
      r : RefusedBy (write_refusal d buffer) k
      r = refusal_is k h

      go : (l : ℕ) → loose_refusal d.n (body_of d) ≡ l → WriteNumber k
      go zero e =
          either _ 16 0 k (sym (by_room e) ∙ r.is) by_buffer (λ z. absurd (omega (arith, r.some, r.is, z)))
      go (suc l) e =
          let first : write_refusal d buffer ≡ loose_refusal d.n (body_of d) = write_refusal_is d buffer ∙ first_refuses _ _ (λ z. omega arith) in
          loose_number d.n (body_of d) k (omega (arith, r.some, r.is)) (sym first ∙ r.is)

-- ---- the length answered

-- the loose bodies of an answer have a dimension and right lengths
pub record RightForm (n : ℕ) (f : ℕ → List ℕ) : Type 0 where
  pub dimensions : dimension_ok n ≡ true
  pub lengths : lengths_ok n f ≡ true

pub loose_form : (n : ℕ) (f : ℕ → List ℕ) → loose_refusal n f ≡ 0 → RightForm n f
unfolding loose_refusal form_refusal
loose_form n f h =
    let r = not_refused _ 3 _ (lit< tt) h in
    record { dimensions = not-false _ r.test; lengths = not-false _ (not_refused _ 5 _ (lit< tt) r.next).test }

-- no job is longer
pub written_short : (d : Loose) (buffer : List ℕ) (l : ℕ) → written d buffer ≡ answered l → l ≤ 1732
unfolding assembled
written_short d buffer l h =
    let g = write_given d buffer l h in
    let t = loose_form d.n (body_of d) g.loose in
    omega (arith, g.is, job_short d.n d.bias (body_of d) t.dimensions t.lengths)
