-- A job with another place as its start: it opens as the job does, its dimension, its bias and every body but the last are the
-- job's, and its start is the place. So its values, box and readable vertices are the job's.
use Prim.Native.Nat.{ℕ, suc, zero, ◌+◌, ◌*◌, ◌-◌, ◌≤◌, ◌<◌}
use native.Mathlib.Omega.{arith}
use mathlib.Core.Path.{◌≡◌, refl, sym, ap, subst, ◌∙◌}
use mathlib.Core.Bool.{true, not}
use mathlib.Core.List.{List, ◌++◌, map}
use lib.ListN.{length, take, drop, length-append, length-drop, take-append-drop, get_or-append}
use lib.Seq.{get_or-take, take-append-le, drop-append-le, length-take-le, take_all, drop_at}
use borrow.Author.Tests.{le-ltb, eq-eqb}
use Rattle.exact.specs.Crossed.{count_from}
use Rattle.curves.specs.Grid.{Vertex, Place, place_ok}
use Rattle.paper.specs.Bytes.{byte, word}
use Rattle.paper.specs.Job.{dimension, bias, entry_offset, entry_length, contents_end, entries_ok, contents_ok, body, decode_place, encode_place, with_start, open_refusal}
use Rattle.paper.specs.Values.{raw_sum, sums, field_from, field_of}
use Rattle.paper.specs.Operations.{start_of}
use Rattle.paper.proofs.ShortPlaces.{short_place}
use Rattle.paper.proofs.Tests.{all_from_lem}
use Rattle.paper.proofs.Refusals.{refuse_later}
use Rattle.paper.proofs.Opens.{Opens, opens_range}
use Rattle.paper.proofs.Bodies.{body_length, first_offset, next_offset, last_end, start_length, body_bound}
use Rattle.paper.proofs.Encode.{encode_length, decode_encode, encode_decode}

-- ---- a job that has what Open asks for opens

pub opens_back : (s : List ℕ) → Opens s → open_refusal s ≡ 0
unfolding open_refusal
opens_back s o =
    refuse_later 1 _ (le-ltb (length s) 4 o.long)
    ∙ (refuse_later 2 _ (ap not (eq-eqb (byte s 0) 1 o.mark))
    ∙ (refuse_later 3 _ (ap not o.dimensions)
    ∙ (refuse_later 4 _ (ap not (eq-eqb (byte s 2) (dimension s + 1) o.entries))
    ∙ (refuse_later 5 _ (ap not o.contents)
    ∙ (refuse_later 6 _ (ap not o.box)
    ∙ (refuse_later 7 _ (ap not (all_from_lem _ 1 (dimension s - 1) (λ k l u. o.polynomial k l (omega arith))))
    ∙ refuse_later 8 0 (ap not o.start)))))))

-- ---- a list with a new end

module _ (s e : List ℕ) (m : ℕ) (inside : m ≤ length s) where
  front_length : length (take m s) ≡ m
  front_length = length-take-le m s inside

  -- what lies in front of the new end is as it was
  front_byte : (i : ℕ) → i < m → byte (take m s ++ e) i ≡ byte s i
  unfolding byte
  front_byte i l = get_or-append (take m s) e 0 i (omega (arith, front_length)) ∙ get_or-take m s i 0 l

  front_part : (at l : ℕ) → at + l ≤ m → take l (drop at (take m s ++ e)) ≡ take l (drop at s)
  front_part at l h =
      go e ∙ (sym (go (drop m s)) ∙ ap (λ x. take l (drop at x)) (take-append-drop m s))
    where
      go : (e' : List ℕ) → take l (drop at (take m s ++ e')) ≡ take l (drop at (take m s))
      go e' =
          let a : at ≤ length (take m s) = omega (arith, front_length) in
          let b : l ≤ length (drop at (take m s)) = omega (arith, front_length, length-drop at (take m s)) in
          ap (take l) (drop-append-le at (take m s) e' a) ∙ take-append-le l (drop at (take m s)) e' b

-- ---- the bodies lie in rising order

module _ {s : List ℕ} (o : Opens s) where
  -- each body ends before the start begins
  before_start_lem : (j k : ℕ) → k + suc j ≡ dimension s → entry_offset s k + entry_length s k ≤ entry_offset s (dimension s)
  before_start_lem zero k e =
      let next : entry_offset s (dimension s) ≡ entry_offset s k + entry_length s k =
      subst (λ x. entry_offset s x ≡ entry_offset s k + entry_length s k) (omega arith) (next_offset o k (omega arith)) in
      omega arith
  before_start_lem (suc j) k e = omega (arith, before_start_lem j (k + 1) (omega arith), next_offset o k (omega arith))

  -- and so do the contents
  contents_before_start : contents_end (dimension s) ≤ entry_offset s (dimension s)
  contents_before_start =
      let r = opens_range o in
      omega (arith, before_start_lem (dimension s - 1) 0 (omega arith), first_offset o)

  -- the start is all that stands from its offset on
  last_body : body s (dimension s) ≡ drop (entry_offset s (dimension s)) s
  unfolding body
  last_body = take_all (entry_length s (dimension s)) (drop (entry_offset s (dimension s)) s) (omega (arith, last_end o, length-drop (entry_offset s (dimension s)) s))

-- the entries' test looks at the entries and at the length alone
pub entries_same : (n : ℕ) (s t : List ℕ) (m k at : ℕ) → length t ≡ length s
    → ((j : ℕ) → j < k + m → entry_offset t j ≡ entry_offset s j) → ((j : ℕ) → j < k + m → entry_length t j ≡ entry_length s j)
    → entries_ok n t m k at ≡ entries_ok n s m k at
unfolding entries_ok
entries_same n s t zero k at l f g = rw l
entries_same n s t (suc m) k at l f g =
    rw (
      f k (omega arith),
      g k (omega arith),
      entries_same n s t m (k + 1) (at + entry_length s k) l (λ j u. f j (omega arith)) (λ j u. g j (omega arith)),
    )

-- ---- the same job with another start

module _ {s : List ℕ} (o : Opens s) (p : Place) where
  start_inside : entry_offset s (dimension s) ≤ length s
  start_inside = omega (arith, last_end o)

  contents_byte : (i : ℕ) → i < contents_end (dimension s) → byte (with_start s p) i ≡ byte s i
  unfolding with_start
  contents_byte i l = front_byte s (encode_place p) (entry_offset s (dimension s)) start_inside i (omega (arith, contents_before_start o))

  pub with_start_dimension : dimension (with_start s p) ≡ dimension s
  unfolding contents_end dimension
  with_start_dimension = contents_byte 1 (omega arith)

  pub with_start_bias : bias (with_start s p) ≡ bias s
  unfolding contents_end bias
  with_start_bias = contents_byte 3 (omega arith)

  with_start_offset : (k : ℕ) → k ≤ dimension s → entry_offset (with_start s p) k ≡ entry_offset s k
  unfolding contents_end entry_offset word
  with_start_offset k l = rw (contents_byte (4 * k + 4) (omega arith), contents_byte (4 * k + 4 + 1) (omega arith))

  with_start_entry_length : (k : ℕ) → k ≤ dimension s → entry_length (with_start s p) k ≡ entry_length s k
  unfolding contents_end entry_length word
  with_start_entry_length k l = rw (contents_byte (4 * k + 6) (omega arith), contents_byte (4 * k + 6 + 1) (omega arith))

  pub with_start_body : (k : ℕ) → k < dimension s → body (with_start s p) k ≡ body s k
  unfolding body with_start
  with_start_body k l =
      rw (with_start_entry_length k (omega arith), with_start_offset k (omega arith))
      (front_part s (encode_place p) (entry_offset s (dimension s)) start_inside (entry_offset s k) (entry_length s k)
      (before_start_lem o (dimension s - suc k) k (omega arith)))

  module _ (h : place_ok (dimension s) p ≡ true) where
    pub with_start_length : length (with_start s p) ≡ length s
    unfolding with_start
    with_start_length =
        let a = length-append (take (entry_offset s (dimension s)) s) (encode_place p) in
        let b = front_length s (encode_place p) (entry_offset s (dimension s)) start_inside in
        let c = encode_length (dimension s) p h in
        omega (arith, last_end o, start_length o, body_length o (dimension s) (omega arith))

    -- the last body is the place's bytes
    pub with_start_last : body (with_start s p) (dimension s) ≡ encode_place p
    unfolding body with_start
    with_start_last =
        let at : ℕ = entry_offset s (dimension s) in
        let whole : length (encode_place p) ≤ entry_length s (dimension s) =
        omega (arith, encode_length (dimension s) p h, start_length o, body_length o (dimension s) (omega arith)) in
        rw (with_start_entry_length (dimension s) (omega arith), with_start_offset (dimension s) (omega arith))
        (ap (take (entry_length s (dimension s))) (drop_at (take at s) (encode_place p) at (front_length s (encode_place p) at start_inside))
        ∙ take_all (entry_length s (dimension s)) (encode_place p) whole)

    with_start_contents : contents_ok (dimension s) (with_start s p) ≡ true
    unfolding contents_ok
    with_start_contents =
        rw (
          with_start_length,
          entries_same (dimension s) s (with_start s p) (dimension s + 1) 0 (contents_end (dimension s)) with_start_length
              (λ j l. with_start_offset j (omega arith)) (λ j l. with_start_entry_length j (omega arith)),
        )
        o.contents

    module _ (w : short_place p ≡ true) where
      pub with_start_start : start_of (with_start s p) ≡ p
      unfolding start_of
      with_start_start = rw (with_start_dimension, with_start_last) (decode_encode (dimension s) p h w)

      pub with_start_opens : Opens (with_start s p)
      unfolding contents_end
      with_start_opens =
          record {
            long = omega (arith, with_start_length, o.long);
            mark = contents_byte 0 (omega arith) ∙ o.mark;
            dimensions = rw with_start_dimension o.dimensions;
            entries = rw with_start_dimension (contents_byte 2 (omega arith) ∙ o.entries);
            contents = rw with_start_dimension with_start_contents;
            box = rw (with_start_dimension, with_start_body 0 (omega (arith, (opens_range o).low))) o.box;
            polynomial =
                λ k l u. rw (with_start_dimension, with_start_body k (omega (arith, with_start_dimension))) (o.polynomial k l (omega (arith, with_start_dimension)));
            start = rw (with_start_dimension, with_start_last, decode_encode (dimension s) p h w) h;
          }

-- ---- the field

pub map_same : {A : Type 0} (f g : ℕ → A) (k m : ℕ) → ((i : ℕ) → k ≤ i → i < k + m → f i ≡ g i) → map f (count_from k m) ≡ map g (count_from k m)
unfolding count_from
map_same f g k zero h = refl
map_same f g k (suc m) h = rw (h k (omega arith) (omega arith), map_same f g (suc k) m (λ i l u. h i (omega arith) (omega arith)))

-- the sums come from the dimension and the polynomials
pub sums_same : (s t : List ℕ) → dimension t ≡ dimension s → ((k : ℕ) → k < dimension s → body t k ≡ body s k) → (v : Vertex) → sums t v ≡ sums s v
unfolding sums
sums_same s t e f v =
    ap (λ n. map (λ k. raw_sum (body t k) v) (count_from 1 (n - 1))) e
    ∙ map_same (λ k. raw_sum (body t k) v) (λ k. raw_sum (body s k) v) 1 (dimension s - 1) (λ k l u. ap (λ b. raw_sum b v) (f k (omega arith)))

-- the values, the box and the readable vertices come from the dimension, the bias and the bodies in front of the start
field_same :
    (s t : List ℕ) → 0 < dimension s → dimension t ≡ dimension s → bias t ≡ bias s
    → ((k : ℕ) → k < dimension s → body t k ≡ body s k) → field_of t ≡ field_of s
unfolding field_of
field_same s t p e g f = λ i. field_from (e i) (g i) (f 0 p i) (λ v. sums_same s t e f v i)

pub with_start_field : {s : List ℕ} → Opens s → (p : Place) → field_of (with_start s p) ≡ field_of s
with_start_field {s} o p =
    field_same s (with_start s p) (omega (arith, (opens_range o).low)) (with_start_dimension o p) (with_start_bias o p) (with_start_body o p)

-- a job is that with its own start as its start
pub with_start_own : {s : List ℕ} → Opens s → ((i : ℕ) → byte s i < 256) → with_start s (start_of s) ≡ s
unfolding with_start start_of
with_start_own {s} o h =
    let at : ℕ = entry_offset s (dimension s) in
    let l : ℕ = entry_length s (dimension s) in
    let own : encode_place (decode_place (dimension s) (body s (dimension s))) ≡ body s (dimension s) =
    encode_decode (dimension s) (body s (dimension s)) (omega (arith, (opens_range o).low)) (start_length o) (body_bound s (dimension s) 256 h) in
    ap (λ b. take at s ++ b) (own ∙ last_body o) ∙ take-append-drop at s
