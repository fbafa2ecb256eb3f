-- Places written one part after another: how many there are, their bytes, and the space that is left.
use Prim.Native.Nat.{ℕ, suc, ◌+◌, ◌*◌, ◌/◌, ◌≤◌, ◌<◌}
use native.Mathlib.Nat.{mul-zero, mul-suc, mul_comm, mul-add, mul-le-mul_left, mul-div-le, le_trans, add-zero, div-le_self}
use native.Mathlib.Omega.{arith}
use mathlib.Core.Path.{◌≡◌, refl, sym, ap, subst, ◌∙◌}
use mathlib.Core.Bool.{Bool, true, false, cond}
use mathlib.Core.List.{List, [], ◌∷◌, ◌++◌, map, append-nil, append_assoc}
use lib.ListN.{length, length-append}
use lib.Seq.{sets, length-sets}
use Rattle.curves.specs.Grid.{Facet, place_ok}
use Rattle.curves.specs.Box.{keep}
use Rattle.paper.specs.Job.{encode_place}
use Rattle.paper.specs.Operations.{encode_places}
use Rattle.paper.proofs.Encode.{encode_length}
use Rattle.bits.proofs.Sets.{sets_append}
use Rattle.seamlist.specs.Seams.{front}
use Rattle.std.proofs.Common.{Some}
use Rattle.scan.specs.Scanned.{space_for, Puts, NoSpace, ScannedIs}
use Rattle.scan.proofs.Gathered.{gathered, gathered_split}

-- the bytes of two lists of places
encoded_append : (fs gs : List Facet) → encode_places (map front (fs ++ gs)) ≡ encode_places (map front fs) ++ encode_places (map front gs)
unfolding encode_places
encoded_append [] gs = refl
encoded_append (f ∷ fs) gs =
    ap (λ l. encode_place (front f) ++ l) (encoded_append fs gs)
    ∙ sym (append_assoc (encode_place (front f)) (encode_places (map front fs)) (encode_places (map front gs)))

-- ---- parts

pub puts_none : (n : ℕ) (before : List ℕ) (count : ℕ) → Puts n before count [] before count
unfolding encode_places
puts_none n before count = record { counted = sym (add-zero count); bytes = sym (mul-zero (3 * n)); stored = refl }

module _ {n : ℕ} {before : List ℕ} {count : ℕ} {fs : List Facet} {here : List ℕ} {k : ℕ} (p : Puts n before count fs here k) where
  pub same_size : length here ≡ length before
  same_size = ap length p.stored ∙ length-sets before (count * (3 * n)) (encode_places (map front fs))

  pub same_space : space_for n here ≡ space_for n before
  unfolding space_for
  same_space = ap (λ m. m / (3 * n)) same_size

  pub puts_more : {gs : List Facet} {after : List ℕ} {m : ℕ} → Puts n here k gs after m → Puts n before count (fs ++ gs) after m
  puts_more {gs} {after} {m} q =
      let F : List ℕ = encode_places (map front fs) in
      let G : List ℕ = encode_places (map front gs) in
      let at : k * (3 * n) ≡ count * (3 * n) + length F =
      omega (arith, p.bytes, mul_comm k (3 * n), mul_comm count (3 * n), ap (λ j. 3 * n * j) p.counted, mul-add (3 * n) count (length fs))
      in
      record {
        counted = omega (arith, p.counted, q.counted, length-append fs gs);
        bytes =
            ap length (encoded_append fs gs)
            ∙ length-append F G
            ∙ omega (arith, p.bytes, q.bytes, ap (λ j. 3 * n * j) (length-append fs gs), mul-add (3 * n) (length fs) (length gs));
        stored =
            q.stored
            ∙ ap (λ b. sets b (k * (3 * n)) G) p.stored
            ∙ ap (λ j. sets (sets before (count * (3 * n)) F) j G) at
            ∙ sym (sets_append before (count * (3 * n)) F G)
            ∙ ap (sets before (count * (3 * n))) (sym (encoded_append fs gs));
      }

-- ---- the parts of a loop

module _ (F : ℕ → List Facet) {n : ℕ} {before : List ℕ} {count : ℕ} (j : ℕ) {here : List ℕ} {found : ℕ}
    (p : Puts n before count (gathered F j) here found) {after : List ℕ} where
  pub part_on : {k : ℕ} → ScannedIs n here found (F j) after (Some k) → ScannedIs n before count (gathered F (j + 1)) after (Some k)
  unfolding gathered
  part_on {k} s =
      let next : j + 1 ≡ suc j = omega arith in
      (subst (λ i. Puts n before count (gathered F i) after k) (sym next) (puts_more p s.0), subst (λ m. k ≤ m) (same_space p) s.1)

  pub part_full : (m : ℕ) → j < m → NoSpace n here found (F j) after → NoSpace n before count (gathered F m) after
  part_full m l s =
      let r = gathered_split F j m l in
      record {
        listed = gathered F j ++ s.listed;
        next = s.next;
        rest = s.rest ++ r.0;
        is =
            r.1
            ∙ ap (λ x. gathered F j ++ (x ++ r.0)) s.is
            ∙ ap (λ x. gathered F j ++ x) (append_assoc s.listed (s.next ∷ s.rest) r.0)
            ∙ sym (append_assoc (gathered F j) s.listed (s.next ∷ (s.rest ++ r.0)));
        puts = subst (Puts n before count (gathered F j ++ s.listed) after) (same_space p) (puts_more p s.puts);
      }

-- ---- one facet

module _ {n : ℕ} {before : List ℕ} {count : ℕ} (t : Facet → Bool) (f : Facet) (few : count ≤ space_for n before) where
  pub facet_passed : t f ≡ false → ScannedIs n before count (keep t (f ∷ [])) before (Some count)
  unfolding keep
  facet_passed h = (subst (λ l. Puts n before count l before count) (sym (ap (λ b. cond b (f ∷ []) []) h)) (puts_none n before count), few)

  pub facet_left : t f ≡ true → space_for n before ≤ count → NoSpace n before count (keep t (f ∷ [])) before
  unfolding keep
  facet_left h l =
      let e : count ≡ space_for n before = omega arith in
      record {
        listed = [];
        next = f;
        rest = [];
        is = ap (λ b. cond b (f ∷ []) []) h;
        puts = subst (Puts n before count [] before) e (puts_none n before count);
      }

  pub facet_put : {after : List ℕ} → t f ≡ true → count < space_for n before → place_ok n (front f) ≡ true
      → after ≡ sets before (count * (3 * n)) (encode_place (front f)) → ScannedIs n before count (keep t (f ∷ [])) after (Some (count + 1))
  unfolding keep encode_places
  facet_put {after} h l o e = (
    subst (λ fs. Puts n before count fs after (count + 1)) (sym (ap (λ b. cond b (f ∷ []) []) h))
        (record {
          counted = refl;
          bytes = ap length (append-nil (encode_place (front f))) ∙ encode_length n (front f) o ∙ omega (arith, mul-suc (3 * n) 0, mul-zero (3 * n));
          stored = e ∙ ap (sets before (count * (3 * n))) (sym (append-nil (encode_place (front f))));
        }),
    omega arith,
  )

-- a place more has room in the buffer
pub room : (n count : ℕ) (buffer : List ℕ) → count < space_for n buffer → count * (3 * n) + 3 * n ≤ length buffer
unfolding space_for
room n count buffer h =
    omega (arith, mul_comm count (3 * n), mul-suc (3 * n) count, le_trans (mul-le-mul_left (3 * n) h) (mul-div-le (length buffer) (3 * n)))

-- a place more is counted
pub counts_on : (n count : ℕ) (buffer : List ℕ) → count < space_for n buffer → count + 1 ≤ length buffer
unfolding space_for
counts_on n count buffer h = omega (arith, h, div-le_self (length buffer) (3 * n))
