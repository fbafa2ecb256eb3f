-- The entries of the contents, read from a list in which they stand: an entry reads as the low 16 bits of the body's offset and of its length. So the
-- test of the entries passes exactly if each body has a length of its kind.
use Prim.Native.Nat.{ℕ, zero, suc, ◌+◌, ◌*◌, ◌%◌, ◌≤◌, ◌<◌}
use native.Mathlib.Omega.{arith}
use mathlib.Core.Path.{◌≡◌, refl, ap, subst, ◌∙◌}
use mathlib.Core.Bool.{Bool, true, false}
use mathlib.Core.List.{List, ◌++◌}
use lib.IntN.{pos}
use lib.ListN.{length, take, drop, length-append}
use lib.Seq.{take_at}
use lib.Dec.{eqb}
use borrow.Author.Tests.{eqb-true, eqb-false, eq-eqb}
use Rattle.exact.proofs.AndTests.{and_left, and_right, and-true}
use Rattle.paper.specs.Bytes.{word_of, word_bytes}
use Rattle.paper.specs.Job.{entry_offset, entry_length, length_ok, entries_ok, all_from, body}
use Rattle.paper.proofs.Encode.{drop_on, read_bits}
use Rattle.paper.proofs.Tests.{all_at}
use Rattle.paper.proofs.TermLimit.{term_limit_most}
use Rattle.paper.proofs.Bodies.{entries_first, entries_none, box_kind, start_kind, polynomial_kind}
use Rattle.assembly.specs.Assembled.{entries_of, bodies_of}
use Rattle.assembly.specs.LooseRefusal.{lengths_ok}

-- ---- one entry

-- entries that stand in a list from entry k on: what entry k reads as, and the entries behind it
module _ (s : List ℕ) (f : ℕ → List ℕ) (k m at : ℕ) (rest : List ℕ) (stand : drop (4 * k + 4) s ≡ entries_of f k (suc m) at ++ rest) where
  offset_read : entry_offset s k ≡ at % 65536
  unfolding entry_offset entries_of word_bytes word_of
  offset_read = read_bits s (4 * k + 4) (pos at) _ stand

  length_read : entry_length s k ≡ length (f k) % 65536
  unfolding entry_length entries_of word_bytes word_of
  length_read =
      read_bits s (4 * k + 6) (pos (length (f k))) (entries_of f (k + 1) m (at + length (f k)) ++ rest)
      (drop_on s (4 * k + 4) 2 (4 * k + 6) (word_bytes (pos at)) _ (omega arith) refl stand)

  entries_next : drop (4 * (k + 1) + 4) s ≡ entries_of f (k + 1) m (at + length (f k)) ++ rest
  unfolding entries_of word_bytes
  entries_next =
      drop_on s (4 * k + 4) 4 (4 * (k + 1) + 4) (word_bytes (pos at) ++ word_bytes (pos (length (f k)))) _ (omega arith) refl stand

-- ---- the lengths of bodies

-- no body of a right length is longer than 70 terms
pub kind_small : (n k l : ℕ) → n ≤ 4 → k ≤ n → length_ok n k l ≡ true → l ≤ 560
kind_small n k l u i h = go (eqb k 0) refl (eqb k n) refl
  where
    go : (a : Bool) → eqb k 0 ≡ a → (b : Bool) → eqb k n ≡ b → l ≤ 560
    go true e b w = omega (arith, box_kind n l (subst (λ j. length_ok n j l ≡ true) (eqb-true k 0 e) h))
    go false e true w =
        let some : 0 < n = omega (arith, eqb-true k n w, eqb-false k 0 e) in
        omega (arith, start_kind n l some (subst (λ j. length_ok n j l ≡ true) (eqb-true k n w) h))
    go false e false w =
        let t = polynomial_kind n k l (omega (arith, eqb-false k 0 e)) (omega (arith, eqb-false k n w)) h in
        omega (arith, t.high, term_limit_most n)

-- body k of n + 1 has a length of its kind
abbrev pub kind_ok : ℕ → (ℕ → List ℕ) → ℕ → Bool
kind_ok n f k = length_ok n k (length (f k))

-- each, where all have
pub kind_at : (n : ℕ) (f : ℕ → List ℕ) → lengths_ok n f ≡ true → (k : ℕ) → k ≤ n → kind_ok n f k ≡ true
unfolding lengths_ok
kind_at n f h k l = all_at (kind_ok n f) 0 (n + 1) k h (omega arith) (omega arith)

-- ---- the test of the entries

-- It adds up the low 16 bits of the lengths, never more than the lengths themselves. As the sum ends where the list does, no length has more.
pub record Passed (n : ℕ) (f : ℕ → List ℕ) (k m on at : ℕ) : Type 0 where
  pub same : on ≡ at
  pub kinds : all_from (kind_ok n f) k m ≡ true

pub entries_passed :
    (n : ℕ) (s : List ℕ) (f : ℕ → List ℕ) (k m on at : ℕ) (rest : List ℕ) → drop (4 * k + 4) s ≡ entries_of f k m at ++ rest
    → on ≤ at → at + length (bodies_of f k m) ≡ length s → entries_ok n s m k on ≡ true → Passed n f k m on at
unfolding bodies_of all_from
entries_passed n s f k zero on at rest stand h e t = record { same = omega (arith, entries_none n s k on t); kinds = refl }
entries_passed n s f k (suc m) on at rest stand h e t =
    let first = entries_first n s m k on t in
    let read : entry_length s k ≡ length (f k) % 65536 = length_read s f k m at rest stand in
    let later = entries_passed n s f (k + 1) m (on + entry_length s k) (at + length (f k)) rest (entries_next s f k m at rest stand)
    (omega arith) (omega (arith, length-append (f k) (bodies_of f (k + 1) m))) first.later in
    let whole : entry_length s k ≡ length (f k) = omega (arith, later.same) in
    record {
      same = omega (arith, later.same);
      kinds = and-true (subst (λ l. length_ok n k l ≡ true) whole first.kind) later.kinds;
    }

-- The other way round: bodies of right lengths fit 16 bits, so each entry says what it should.
pub record Fits (n : ℕ) (f : ℕ → List ℕ) (k m at : ℕ) : Type 0 where
  pub axes : n ≤ 4
  pub last : k + m ≡ n + 1
  pub room : at + 560 * m < 65536
  pub kinds : all_from (kind_ok n f) k m ≡ true

module _ {n : ℕ} {f : ℕ → List ℕ} {k m at : ℕ} (t : Fits n f k (suc m) at) where
  first_kind : kind_ok n f k ≡ true
  unfolding all_from
  first_kind = and_left (kind_ok n f k) (all_from (kind_ok n f) (k + 1) m) t.kinds

  first_small : length (f k) ≤ 560
  first_small = kind_small n k (length (f k)) t.axes (omega (arith, t.last)) first_kind

  fits_next : Fits n f (k + 1) m (at + length (f k))
  unfolding all_from
  fits_next =
      record {
        axes = t.axes;
        last = omega (arith, t.last);
        room = omega (arith, t.room, first_small);
        kinds = and_right (kind_ok n f k) (all_from (kind_ok n f) (k + 1) m) t.kinds;
      }

  module _ (s rest : List ℕ) (stand : drop (4 * k + 4) s ≡ entries_of f k (suc m) at ++ rest) where
    offset_whole : entry_offset s k ≡ at
    offset_whole = omega (arith, offset_read s f k m at rest stand, t.room)

    length_whole : entry_length s k ≡ length (f k)
    length_whole = omega (arith, length_read s f k m at rest stand, first_small)

    body_here : drop at s ≡ bodies_of f k (suc m) → body s k ≡ f k
    unfolding bodies_of body
    body_here b =
        rw (offset_whole, length_whole)
        (ap (take (length (f k))) b ∙ take_at (f k) (bodies_of f (k + 1) m) (length (f k)) refl)

pub entries_pass :
    (n : ℕ) (s : List ℕ) (f : ℕ → List ℕ) (k m at : ℕ) (rest : List ℕ) → drop (4 * k + 4) s ≡ entries_of f k m at ++ rest
    → at + length (bodies_of f k m) ≡ length s → Fits n f k m at → entries_ok n s m k at ≡ true
unfolding bodies_of entries_ok
entries_pass n s f k zero at rest stand e t = eq-eqb at (length s) (omega arith)
entries_pass n s f k (suc m) at rest stand e t =
    rw (offset_whole t s rest stand, length_whole t s rest stand)
    (and-true (eq-eqb at at refl) (and-true (first_kind t)
    (entries_pass n s f (k + 1) m (at + length (f k)) rest (entries_next s f k m at rest stand)
    (omega (arith, length-append (f k) (bodies_of f (k + 1) m))) (fits_next t))))

-- ---- the bodies behind the entries

pub bodies_read :
    (n : ℕ) (s : List ℕ) (f : ℕ → List ℕ) (k m at : ℕ) (rest : List ℕ) → drop (4 * k + 4) s ≡ entries_of f k m at ++ rest
    → drop at s ≡ bodies_of f k m → Fits n f k m at → (j : ℕ) → k ≤ j → j < k + m → body s j ≡ f j
unfolding bodies_of
bodies_read n s f k zero at rest stand b t j l u = absurd (omega arith)
bodies_read n s f k (suc m) at rest stand b t j l u =
    go (bodies_read n s f (k + 1) m (at + length (f k)) rest (entries_next s f k m at rest stand)
    (drop_on s at (length (f k)) (at + length (f k)) (f k) (bodies_of f (k + 1) m) refl refl b) (fits_next t) j) (eqb k j) refl
  where
    go : (k + 1 ≤ j → j < k + 1 + m → body s j ≡ f j) → (a : Bool) → eqb k j ≡ a → body s j ≡ f j
    go later true e = subst (λ i. body s i ≡ f i) (eqb-true k j e) (body_here t s rest stand b)
    go later false e = later (omega (arith, eqb-false k j e)) (omega arith)
