-- A job with another bias: Open answers as it does of the job, since byte 3 has no part in its tests, and dimension, bodies, box and
-- readable vertices are the job's; only the values go by the other bias. With bias 0 everything is as it was before the request.
use Prim.Native.Nat.{ℕ, suc, zero, ◌+◌, ◌*◌, ◌≤◌, ◌<◌}
use native.Mathlib.Omega.{arith}
use mathlib.Core.Logic.{◌≢◌, ◌↔◌}
use mathlib.Core.Path.{◌≡◌, refl, sym, ap, ap₂, ◌∙◌}
use mathlib.Core.Bool.{Bool, true, false, not, cond, ◌||◌}
use mathlib.Core.List.{List, [], ◌∷◌, map}
use lib.IntN.{ℤ}
use lib.ListN.{length, take, drop, length-set, get_or-eq_default}
use lib.Seq.{get_or-set_same, get_or-set_other, drop-set-lt}
use lib.Dec.{eqb, ltb}
use borrow.Author.Tests.{ltb-true, ltb-false, eqb-false, le-ltb, eq-eqb, ne_eqb}
use Rattle.curves.specs.Grid.{Vertex, Facet, facet_vertices}
use Rattle.curves.specs.Step.{Field, every}
use Rattle.curves.specs.Joined.{Joined}
use Rattle.paper.specs.Bytes.{byte, word}
use Rattle.paper.specs.Limits.{readable_limit}
use Rattle.paper.specs.Job.{dimension, bias, entry_offset, entry_length, contents_end, contents_ok, body, term_count}
use Rattle.paper.specs.Job.{refuse_if, open_refusal}
use Rattle.paper.specs.Values.{readable_sum, value_of, sums, inside_from, field_from, field_of}
use Rattle.paper.specs.Operations.{unless, open_values, opened, polynomial_terms, start_of, facet_refusal}
use Rattle.paper.specs.Demand3.{InCurve}
use Rattle.paper.specs.Bias.{with_bias, biased_field, field_without_bias, open_refusal_without_bias}
use Rattle.paper.proofs.Refusals.{refuse_here, refuse_later, answered_later, unless_refused}
use Rattle.paper.proofs.Opens.{Opens, opens, behind_contents, behind_same}
use Rattle.paper.proofs.Bodies.{contents_before}
use Rattle.paper.proofs.WithStart.{entries_same, map_same, sums_same}
use Rattle.paper.proofs.BiasedValues.{value_without_bias, readable_values}

-- ---- the bytes

module _ (s : List ℕ) (b : ℕ) where
  other_length : length (with_bias s b) ≡ length s
  unfolding with_bias
  other_length = length-set s 3 b

  other_byte : (i : ℕ) → (i ≡ 3 → ⊥) → byte (with_bias s b) i ≡ byte s i
  unfolding with_bias byte
  other_byte i h = get_or-set_other s 3 i b 0 h

  pub with_bias_bias : 4 ≤ length s → bias (with_bias s b) ≡ b
  unfolding with_bias bias byte
  with_bias_bias l = get_or-set_same s 3 b 0 (omega arith)

  pub with_bias_dimension : dimension (with_bias s b) ≡ dimension s
  unfolding dimension
  with_bias_dimension = other_byte 1 (λ e. omega arith)

  other_offset : (k : ℕ) → entry_offset (with_bias s b) k ≡ entry_offset s k
  unfolding entry_offset word
  other_offset k = rw (other_byte (4 * k + 4) (λ e. omega arith), other_byte (4 * k + 4 + 1) (λ e. omega arith))

  other_entry_length : (k : ℕ) → entry_length (with_bias s b) k ≡ entry_length s k
  unfolding entry_length word
  other_entry_length k = rw (other_byte (4 * k + 6) (λ e. omega arith), other_byte (4 * k + 6 + 1) (λ e. omega arith))

  other_contents : (n : ℕ) → contents_ok n (with_bias s b) ≡ contents_ok n s
  unfolding contents_ok
  other_contents n =
      rw (other_length, entries_same n s (with_bias s b) (n + 1) 0 (contents_end n) other_length (λ j l. other_offset j) (λ j l. other_entry_length j))

  -- where the contents are right no body begins in front of byte 4
  other_body : (n k : ℕ) → contents_ok n s ≡ true → k ≤ n → body (with_bias s b) k ≡ body s k
  unfolding body
  other_body n k h l = rw (other_entry_length k, other_offset k) (ap (take (entry_length s k)) behind)
    where
      behind : drop (entry_offset s k) (with_bias s b) ≡ drop (entry_offset s k) s
      behind = unfold with_bias contents_end in drop-set-lt (entry_offset s k) s 3 b (omega (arith, contents_before n s k h l))

-- ---- Open's refusal

module _ (s : List ℕ) (b : ℕ) where
  bodies_same : (n : ℕ) → contents_ok n s ≡ true → behind_contents n (body (with_bias s b)) ≡ behind_contents n (body s)
  bodies_same n h = behind_same n (body (with_bias s b)) (body s) (λ k l. other_body s b n k h l)

  -- byte 3 has no part in Open's tests, whatever the bytes
  pub with_bias_open : open_refusal (with_bias s b) ≡ open_refusal s
  unfolding open_refusal
  with_bias_open =
      rw (
        other_length s b,
        other_byte s b 0 (λ e. omega arith),
        with_bias_dimension s b,
        other_byte s b 2 (λ e. omega arith),
        other_contents s b (dimension s),
      )
      (ap (refuse_if _ 1) (ap (refuse_if _ 2) (ap (refuse_if _ 3) (ap (refuse_if _ 4) (go (contents_ok (dimension s) s) refl)))))
    where
      go : (t : Bool) → contents_ok (dimension s) s ≡ t
          → refuse_if (not (contents_ok (dimension s) s)) 5 (behind_contents (dimension s) (body (with_bias s b)))
          ≡ refuse_if (not (contents_ok (dimension s) s)) 5 (behind_contents (dimension s) (body s))
      go true e = ap (refuse_if _ 5) (bodies_same (dimension s) e)
      go false e = refuse_here 5 _ (ap not e) ∙ sym (refuse_here 5 _ (ap not e))

-- refusal 2 is for byte 0 alone
pub refusal_2 : (s : List ℕ) → (open_refusal s ≡ 2) ↔ ((4 ≤ length s) × (byte s 0 ≢ 1))
unfolding open_refusal
refusal_2 s = (
  λ h. go h (ltb (length s) 4) (eqb (byte s 0) 1) refl refl,
  λ w. refuse_later 1 _ (le-ltb (length s) 4 w.0) ∙ refuse_here 2 _ (ap not (ne_eqb (byte s 0) 1 w.1)),
)
  where
    go : open_refusal s ≡ 2 → (t u : Bool) → ltb (length s) 4 ≡ t → eqb (byte s 0) 1 ≡ u → (4 ≤ length s) × (byte s 0 ≢ 1)
    go h true u e f = unfold open_refusal in let z : ◌≡◌ {A = ℕ} 1 2 = sym (refuse_here 1 _ e) ∙ h in absurd (omega arith)
    go h false false e f = (ltb-false _ _ e, eqb-false _ _ f)
    go h false true e f = unfold open_refusal in
        let r2 = (answered_later _ 1 _ (λ z. omega arith) h).next in
        let r3 = sym (refuse_later 2 _ (ap not f)) ∙ r2 in
        let r4 = (answered_later _ 3 _ (λ z. omega arith) r3).next in
        let r5 = (answered_later _ 4 _ (λ z. omega arith) r4).next in
        let r6 = (answered_later _ 5 _ (λ z. omega arith) r5).next in
        let r7 = (answered_later _ 6 _ (λ z. omega arith) r6).next in
        let r8 = (answered_later _ 7 _ (λ z. omega arith) r7).next in
        let z : ◌≡◌ {A = ℕ} 0 2 = (answered_later _ 8 _ (λ z. omega arith) r8).next in
        absurd (omega arith)

-- ---- a job that opens

module _ {s : List ℕ} (o : Opens s) (b : ℕ) where
  pub with_bias_body : (k : ℕ) → k ≤ dimension s → body (with_bias s b) k ≡ body s k
  with_bias_body k l = other_body s b (dimension s) k o.contents l

  with_bias_terms : (k : ℕ) → polynomial_terms (with_bias s b) k ≡ polynomial_terms s k
  unfolding polynomial_terms
  with_bias_terms k = rw (with_bias_dimension s b) (go (ltb k (dimension s)) refl)
    where
      go : (t : Bool) → ltb k (dimension s) ≡ t
          → cond (ltb k (dimension s)) (term_count (body (with_bias s b) k)) 0 ≡ cond (ltb k (dimension s)) (term_count (body s k)) 0
      go true e = rw (with_bias_body k (omega (arith, ltb-true k (dimension s) e)))
      go false e = rw e

  with_bias_values : open_values (with_bias s b) ≡ open_values s
  unfolding open_values
  with_bias_values =
      ap₂ (λ n l. n ∷ l) (with_bias_dimension s b)
      (map_same (polynomial_terms (with_bias s b)) (polynomial_terms s) 1 3 (λ k l u. with_bias_terms k))

  pub with_bias_start : start_of (with_bias s b) ≡ start_of s
  unfolding start_of
  with_bias_start = rw (with_bias_dimension s b, with_bias_body (dimension s) (omega arith))

  -- only the values go by the other bias
  pub with_bias_field : field_of (with_bias s b) ≡ biased_field s b
  unfolding field_of biased_field
  with_bias_field =
      let sum = sums_same s (with_bias s b) (with_bias_dimension s b) (λ k l. with_bias_body k (omega arith)) in
      λ i. field_from (with_bias_dimension s b i) (with_bias_bias s b o.long i) (with_bias_body 0 (omega arith) i) (λ v. sum v i)

  -- the joined facets are those of the biased values
  pub with_bias_curve : (f : Facet) → InCurve (with_bias s b) f ↔ Joined (dimension s) (biased_field s b) (start_of s).facet f
  with_bias_curve f = rw (with_bias_dimension s b, with_bias_field, with_bias_start) (λ h. h, λ h. h)

  -- the bias has no part in refusals 9 and 10
  pub with_bias_facet : (f : Facet) → facet_refusal (with_bias s b) f ≡ facet_refusal s f
  unfolding facet_refusal field_from field_of biased_field
  with_bias_facet f =
      ap (λ (φ : Field). refuse_if (not (every φ.in_box (facet_vertices f))) 9 (refuse_if (not (every φ.readable (facet_vertices f))) 10 0))
      with_bias_field

-- ---- the readable test and the bias

-- a byte lies within the readable limit of every dimension
byte_readable : {b : ℕ} (n : ℕ) → b < 256 → b ≤ readable_limit n
byte_readable {b} n l = go (eqb n 4) refl
  where
    go : (t : Bool) → eqb n 4 ≡ t → b ≤ readable_limit n
    go true e = unfold readable_limit in rw e (omega arith)
    go false e = unfold readable_limit in rw e (omega arith)

-- so whether the sums or the values are tested for readable cannot be told from outside
pub readable_either_way :
    (s : List ℕ) → bias s < 256 → (v : Vertex) → every (readable_sum (dimension s)) ((field_of s).value v) ≡ (field_of s).readable v
unfolding field_from field_of
readable_either_way s l v = readable_values (dimension s) (bias s) (byte_readable (dimension s) (omega arith)) (sums s v)

-- ---- Open's answer

-- it is the same at every bias, the counts of terms too, whatever the bytes
pub with_bias_opened : (s : List ℕ) (b : ℕ) → opened (with_bias s b) ≡ opened s
unfolding opened
with_bias_opened s b = rw (with_bias_open s b) (go (open_refusal s) refl)
  where
    go : (r : ℕ) → open_refusal s ≡ r → unless (open_refusal s) (open_values (with_bias s b)) ≡ unless (open_refusal s) (open_values s)
    go zero e = ap (unless (open_refusal s)) (with_bias_values (opens s e) b)
    go (suc r) e = unless_refused _ _ (λ h. omega arith) ∙ sym (unless_refused _ _ (λ h. omega arith))

-- ---- bias 0: as before the request

-- the values are the sums
pub bias_0_field : (s : List ℕ) → bias s ≡ 0 → field_of s ≡ field_without_bias s
unfolding field_from field_of field_without_bias
bias_0_field s e =
    λ i.
    record {
      value = λ v. (ap (λ b. map (value_of b) (sums s v)) e ∙ same (sums s v)) i;
      in_box = inside_from (body s 0) 0;
      readable = λ v. every (readable_sum (dimension s)) (sums s v);
    }
  where
    same : (zs : List ℤ) → map (value_of 0) zs ≡ zs
    same [] = refl
    same (z ∷ zs) = ap₂ (λ x l. x ∷ l) (value_without_bias z) (same zs)

-- the refusals of Open are those of document 01
pub bias_0_open : (s : List ℕ) → bias s ≡ 0 → open_refusal s ≡ open_refusal_without_bias s
unfolding open_refusal open_refusal_without_bias bias
bias_0_open s e = rw (eq-eqb (byte s 3) 0 e) (go (ltb (length s) 4) (not (eqb (byte s 0) 1)) _)
  where
    go : (t u : Bool) (rest : ℕ) → refuse_if t 1 (refuse_if u 2 rest) ≡ refuse_if t 1 (refuse_if (u || false) 2 (refuse_if t 1 (refuse_if u 2 rest)))
    go true u rest = unfold refuse_if in refl
    go false true rest = unfold refuse_if in refl
    go false false rest = unfold refuse_if in refl

-- at every bias they are what document 01 says of the same job with byte 3 set to 0
pub any_bias_open : (s : List ℕ) → open_refusal s ≡ open_refusal_without_bias (with_bias s 0)
any_bias_open s = sym (with_bias_open s 0) ∙ bias_0_open (with_bias s 0) (go (ltb (length s) 4) refl)
  where
    go : (t : Bool) → ltb (length s) 4 ≡ t → bias (with_bias s 0) ≡ 0
    go true e = unfold bias byte in get_or-eq_default (with_bias s 0) 0 {n = 3} (omega (arith, ltb-true (length s) 4 e, other_length s 0))
    go false e = with_bias_bias s 0 (ltb-false _ _ e)
