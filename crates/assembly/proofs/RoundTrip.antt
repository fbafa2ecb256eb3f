-- A job that opens is written again, byte by byte, from its own bodies; and the same job with another start is written from them and that start.
use Prim.Native.Nat.{ℕ, zero, suc, ◌+◌, ◌*◌, ◌-◌, ◌/◌, ◌%◌, ◌≤◌, ◌<◌}
use native.Mathlib.Omega.{arith}
use mathlib.Core.Path.{◌≡◌, refl, sym, ap, ap₂, ◌∙◌}
use mathlib.Core.Bool.{Bool, true, false}
use mathlib.Core.List.{List, [], ◌∷◌, ◌++◌, map, append_assoc}
use lib.IntN.{pos}
use lib.ListN.{length, take, drop, length-append, take-append-drop, drop_of_length-le, get_or-append}
use lib.Seq.{drop-drop, take_at}
use lib.Dec.{eqb}
use borrow.Author.Tests.{eqb-true, eqb-false, le-ltb, eq-eqb, ne_eqb}
use Rattle.exact.specs.Crossed.{count_from}
use Rattle.exact.proofs.CountFrom.{length_map_count_from, get_d_map_count_from}
use Rattle.curves.specs.Grid.{Place}
use Rattle.paper.specs.Bytes.{byte, word, word_of, word_bytes}
use Rattle.paper.specs.Job as Job
use Rattle.paper.specs.Job.{dimension, entry_offset, entry_length, contents_end, entries_ok, contents_ok, body, encode_place, with_start, open_refusal}
use Rattle.paper.specs.Operations.{answered}
use Rattle.paper.proofs.Refusals.{first_passes, refuse_later, unless_answered}
use Rattle.paper.proofs.Opens.{Opens, opens, opens_range}
use Rattle.paper.proofs.Bodies.{contents_entries, entries_first, entries_none, contents_long, contents_body_length, body_length, last_end, start_length}
use Rattle.paper.proofs.Encode.{first_two}
use Rattle.assembly.specs.Assembled.{Loose, body_of, entries_of, bodies_of, contents_of, job_from, assembled}
use Rattle.assembly.specs.Written.{write_refusal, written, over, over_unless, buffer_written}
use Rattle.assembly.specs.Own.{own_bodies, other_start}
use Rattle.assembly.proofs.Lengths.{entries_by_length, bodies_same, job_same, bodies_snoc}

-- ---- the bytes of what was read

-- two bytes are those of the number they make
two_bytes : (x y : ℕ) → x < 256 → y < 256 → word_bytes (pos (x + 256 * y)) ≡ x ∷ y ∷ []
unfolding word_bytes word_of
two_bytes x y p q =
    let whole : (x + 256 * y) % 65536 ≡ x + 256 * y = omega arith in
    let low : (x + 256 * y) % 256 ≡ x = omega arith in
    let high : (x + 256 * y) / 256 ≡ y = omega arith in
    rw (whole, low, high)

-- where a number is read its bytes stand
word_stands : (s : List ℕ) (k j : ℕ) → ((i : ℕ) → byte s i < 256) → k + 2 ≡ j → j ≤ length s → drop k s ≡ word_bytes (pos (word s k)) ++ drop j s
unfolding word
word_stands s k j h e l =
    first_two s k j e l ∙ ap (λ b. b ++ drop j s) (sym (two_bytes (byte s k) (byte s (k + 1)) (h k) (h (k + 1))))

-- ---- contents that are right

-- the bodies, one behind the other, are all that stands from the first on
bodies_again : (n : ℕ) (s : List ℕ) (k m at : ℕ) → entries_ok n s m k at ≡ true → bodies_of (body s) k m ≡ drop at s
unfolding bodies_of body
bodies_again n s k zero at h = sym (drop_of_length-le s {i = at} (omega (arith, entries_none n s k at h)))
bodies_again n s k (suc m) at h =
    let f = entries_first n s m k at h in
    let l : ℕ = entry_length s k in
    ap₂ (λ o r. take l (drop o s) ++ r) f.begins (bodies_again n s (k + 1) m (at + l) f.later ∙ sym (drop-drop l at s))
    ∙ take-append-drop l (drop at s)

module _ (n : ℕ) (s : List ℕ) (right : contents_ok n s ≡ true) (h : (i : ℕ) → byte s i < 256) where
  -- entry k and what stands behind it
  entry_again : (k : ℕ) → k ≤ n
      → drop (4 * k + 4) s ≡ word_bytes (pos (entry_offset s k)) ++ (word_bytes (pos (entry_length s k)) ++ drop (4 * (k + 1) + 4) s)
  unfolding entry_offset entry_length contents_end
  entry_again k l =
      word_stands s (4 * k + 4) (4 * k + 6) h (omega arith) (omega (arith, contents_long n s right))
      ∙ ap (λ r. word_bytes (pos (word s (4 * k + 4))) ++ r)
      (word_stands s (4 * k + 6) (4 * (k + 1) + 4) h (omega arith) (omega (arith, contents_long n s right)))

  -- the entries of the bodies are those of the job
  entries_again : (k m at : ℕ) → k + m ≡ n + 1 → entries_ok n s m k at ≡ true
      → entries_of (body s) k m at ++ drop (contents_end n) s ≡ drop (4 * k + 4) s
  unfolding entries_of contents_end word_bytes
  entries_again k zero at e t = let same : 4 * n + 8 ≡ 4 * k + 4 = omega arith in ap (λ i. drop i s) same
  entries_again k (suc m) at e t =
      let f = entries_first n s m k at t in
      let size : length (body s k) ≡ entry_length s k = contents_body_length n s right k (omega arith) in
      let back : List ℕ = word_bytes (pos (entry_length s k)) ++ drop (4 * (k + 1) + 4) s in
      rw (size, entries_again (k + 1) m (at + entry_length s k) (omega arith) f.later)
      (ap (λ o. word_bytes (pos o) ++ back) (sym f.begins) ∙ sym (entry_again k (omega arith)))

-- ---- a job that opens

-- the first four bytes of a list and the rest
first_four : (s : List ℕ) → 4 ≤ length s → byte s 0 ∷ byte s 1 ∷ byte s 2 ∷ byte s 3 ∷ drop 4 s ≡ s
unfolding byte
first_four (a ∷ b ∷ c ∷ d ∷ s) h = refl
first_four [] h = absurd (omega arith)
first_four (a ∷ []) h = absurd (omega arith)
first_four (a ∷ b ∷ []) h = absurd (omega arith)
first_four (a ∷ b ∷ c ∷ []) h = absurd (omega arith)

module _ {s : List ℕ} (o : Opens s) (h : (i : ℕ) → byte s i < 256) where
  -- it is the job whose bodies are its own
  pub job_again : job_from (dimension s) (Job.bias s) (body s) ≡ s
  unfolding job_from contents_of contents_ok dimension Job.bias
  job_again =
      let n : ℕ = dimension s in
      let entries : entries_ok n s (n + 1) 0 (contents_end n) ≡ true =
      contents_entries n s o.contents in
      rw (bodies_again n s 0 (n + 1) (contents_end n) entries, entries_again n s o.contents h 0 (n + 1) (contents_end n) (omega arith) entries)
      (ap₂ (λ a c. a ∷ dimension s ∷ c ∷ Job.bias s ∷ drop 4 s) (sym o.mark) (sym o.entries) ∙ first_four s o.long)

-- the bodies handed over are the job's
own_body : (s : List ℕ) (more : List (List ℕ)) (k : ℕ) → k ≤ dimension s → body_of (own_bodies s more) k ≡ body s k
unfolding body_of own_bodies
own_body s more k l = go (eqb k 0) refl (eqb k (dimension s)) refl
  where
    go : (a : Bool) → eqb k 0 ≡ a → (b : Bool) → eqb k (dimension s) ≡ b → body_of (own_bodies s more) k ≡ body s k
    go true e b w = rw e (ap (body s) (sym (eqb-true k 0 e)))
    go false e true w = rw (e, w) (ap (body s) (sym (eqb-true k (dimension s) w)))
    go false e false w =
        let n : ℕ = dimension s in
        let some : 0 < k = omega (arith, eqb-false k 0 e) in
        let before : k - 1 < n - 1 = omega (arith, eqb-false k n w) in
        let same : 1 + (k - 1) ≡ k = omega arith in
        rw (e, w)
        (get_or-append (map (body s) (count_from 1 (n - 1))) more [] (k - 1) (omega (arith, length_map_count_from (body s) 1 (n - 1)))
        ∙ (get_d_map_count_from (body s) [] 1 (n - 1) (k - 1) before ∙ ap (body s) same))

module _ (s : List ℕ) (more : List (List ℕ)) (o : open_refusal s ≡ 0) (h : (i : ℕ) → byte s i < 256) where
  -- any job that opens is written again byte by byte from its own bodies, whatever polynomials stand behind its own
  pub own_again : assembled (own_bodies s more) ≡ s
  unfolding assembled own_bodies
  own_again = job_same (dimension s) (Job.bias s) (body_of (own_bodies s more)) (body s) (own_body s more) ∙ job_again (opens s o) h

  module _ (buffer : List ℕ) (room : length s ≤ length buffer) where
    own_refusal : write_refusal (own_bodies s more) buffer ≡ 0
    unfolding write_refusal
    own_refusal = rw own_again (first_passes _ o ∙ refuse_later 16 0 (le-ltb (length buffer) (length s) room))

    -- the operation does it
    pub written_again : written (own_bodies s more) buffer ≡ answered (length s)
    unfolding written
    written_again = unless_answered _ own_refusal ∙ ap (λ t. answered (length t)) own_again

    pub buffer_again : buffer_written (own_bodies s more) buffer ≡ over s buffer
    unfolding buffer_written over_unless
    buffer_again = rw (own_refusal, own_again)

-- ---- another start

-- a job up to its start
abbrev before_start : ℕ → ℕ → (ℕ → List ℕ) → List ℕ
before_start n bias f = contents_of n bias f ++ bodies_of f 0 n

job_last : (n bias : ℕ) (f : ℕ → List ℕ) → job_from n bias f ≡ before_start n bias f ++ f n
unfolding job_from
job_last n bias f =
    let more : n + 1 ≡ suc n = omega arith in
    let all : 0 + n ≡ n = omega arith in
    ap (λ b. contents_of n bias f ++ b) (ap (bodies_of f 0) more ∙ bodies_snoc f 0 n ∙ ap (λ k. bodies_of f 0 n ++ f k) all)
    ∙ sym (append_assoc (contents_of n bias f) (bodies_of f 0 n) (f n))

-- it depends on no more of the start than its length
before_start_same : (n bias : ℕ) (f g : ℕ → List ℕ) → ((k : ℕ) → k < n → f k ≡ g k) → length (f n) ≡ length (g n)
    → before_start n bias f ≡ before_start n bias g
unfolding contents_of
before_start_same n bias f g h e =
    rw (entries_by_length f g 0 (n + 1) (contents_end n) (λ k l u. go k u (eqb k n) refl), bodies_same f g 0 n (λ k l u. h k (omega arith)))
  where
    go : (k : ℕ) → k < 0 + (n + 1) → (b : Bool) → eqb k n ≡ b → length (f k) ≡ length (g k)
    go k u true w = rw (eqb-true k n w) e
    go k u false w = ap length (h k (omega (arith, eqb-false k n w)))

module _ (d : Loose) (b : List ℕ) where
  other_before : (k : ℕ) → k < d.n → body_of (other_start d b) k ≡ body_of d k
  unfolding body_of other_start
  other_before k l = rw (ne_eqb k d.n (λ e. omega arith))

  other_last : 0 < d.n → body_of (other_start d b) d.n ≡ b
  unfolding body_of other_start
  other_last l = rw (ne_eqb d.n 0 (λ e. omega arith), eq-eqb d.n d.n refl)

-- what stands in front of the start of a job that opens
before_own_start : {s : List ℕ} → Opens s → ((i : ℕ) → byte s i < 256)
    → take (entry_offset s (dimension s)) s ≡ before_start (dimension s) (Job.bias s) (body s)
before_own_start {s} o h =
    let n : ℕ = dimension s in
    let front : List ℕ = before_start n (Job.bias s) (body s) in
    let whole : front ++ body s n ≡ s = sym (job_last n (Job.bias s) (body s)) ∙ job_again o h in
    let size : length front ≡ entry_offset s n =
    omega (arith, length-append front (body s n), ap length whole, last_end o, body_length o n (omega arith)) in
    ap (take (entry_offset s n)) (sym whole) ∙ take_at front (body s n) (entry_offset s n) size

module _ (s : List ℕ) (more : List (List ℕ)) (o : open_refusal s ≡ 0) (h : (i : ℕ) → byte s i < 256) (p : Place) where
  -- the same job with another place as its start is written from the job's own bodies and that start
  pub another_start : length (encode_place p) ≡ 3 * dimension s → with_start s p ≡ assembled (other_start (own_bodies s more) (encode_place p))
  unfolding with_start assembled own_bodies other_start
  another_start l =
      let n : ℕ = dimension s in
      let f : ℕ → List ℕ = body_of (other_start (own_bodies s more) (encode_place p)) in
      let last : f n ≡ encode_place p = other_last (own_bodies s more) (encode_place p) (omega (arith, (opens_range (opens s o)).low)) in
      let own : (k : ℕ) → k < n → body s k ≡ f k =
      λ k u. sym (other_before (own_bodies s more) (encode_place p) k u ∙ own_body s more k (omega arith)) in
      let size : length (body s n) ≡ length (f n) = start_length (opens s o) ∙ sym (ap length last ∙ l) in
      ap₂ ◌++◌ (before_own_start (opens s o) h ∙ before_start_same n (Job.bias s) (body s) f own size) (sym last)
      ∙ sym (job_last n (Job.bias s) f)
