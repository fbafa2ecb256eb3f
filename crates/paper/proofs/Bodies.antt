-- The bodies of a job whose contents are right: they lie inside the job, one behind the other, and have the length of their
-- kind. The first part is about the contents alone, over any dimension; the second is about a job that opens.
use mathlib.Core.Path.{◌≡◌, refl, sym, subst, ◌∙◌}
use mathlib.Core.Bool.{Bool, true, false, ◌&&◌}
use mathlib.Core.List.{List, []}
use Prim.Native.Nat.{ℕ, suc, zero, ◌+◌, ◌*◌, ◌-◌, ◌%◌, ◌≤◌, ◌<◌}
use native.Mathlib.Omega.{arith}
use lib.Dec.{leb, ltb, eqb, lit<}
use lib.ListN.{length, take, drop, get_or, length-take, length-drop, get_or-eq_default}
use lib.Seq.{get_or-take, get_or-drop}
use borrow.Author.Tests.{ltb-true, ltb-false, leb-true, eqb-true, eqb-false, eq-eqb, ne_eqb, not-false}
use Rattle.exact.proofs.AndTests.{and_left, and_right}
use Rattle.paper.specs.Bytes.{byte}
use Rattle.paper.specs.Limits.{term_limit}
use Rattle.paper.specs.Job.{dimension, entry_offset, entry_length, contents_end, polynomial_length_ok, length_ok, entries_ok, contents_ok, body, term_count, open_refusal}
use Rattle.paper.specs.Operations.{body_refusal, body_part}
use Rattle.paper.proofs.Refusals.{not_refused, neither_refused, part_refused, part_given}
use Rattle.paper.proofs.Opens.{Opens, opens, opens_range}

-- ---- the entries

-- what the entries from entry k on say of entry k itself
pub record EntryOk (n : ℕ) (s : List ℕ) (m k at : ℕ) : Type 0 where
  pub begins : entry_offset s k ≡ at
  pub kind : length_ok n k (entry_length s k) ≡ true
  pub later : entries_ok n s m (k + 1) (at + entry_length s k) ≡ true

pub entries_first : (n : ℕ) (s : List ℕ) (m k at : ℕ) → entries_ok n s (suc m) k at ≡ true → EntryOk n s m k at
unfolding entries_ok
entries_first n s m k at h =
    let first : Bool = eqb (entry_offset s k) at in
    let second : Bool = length_ok n k (entry_length s k) in
    let third : Bool = entries_ok n s m (k + 1) (at + entry_length s k) in
    record {
      begins = eqb-true _ _ (and_left first (second && third) h);
      kind = and_left second third (and_right first (second && third) h);
      later = and_right second third (and_right first (second && third) h);
    }

-- with no entry left, the bodies end where the job ends
pub entries_none : (n : ℕ) (s : List ℕ) (k at : ℕ) → entries_ok n s 0 k at ≡ true → at ≡ length s
unfolding entries_ok
entries_none n s k at h = eqb-true _ _ h

-- no entry begins behind the job's end
pub entries_inside : (n : ℕ) (s : List ℕ) (m k at : ℕ) → entries_ok n s m k at ≡ true → at ≤ length s
entries_inside n s zero k at h = omega (arith, entries_none n s k at h)
entries_inside n s (suc m) k at h =
    omega (arith, entries_inside n s m (k + 1) (at + entry_length s k) (entries_first n s m k at h).later)

-- the entries from entry j on, begun at entry j's own offset
pub entries_from : (n : ℕ) (s : List ℕ) (m k at j r : ℕ) → entries_ok n s m k at ≡ true → k + m ≡ j + suc r → k ≤ j
    → EntryOk n s r j (entry_offset s j)
entries_from n s zero k at j r h e l = absurd (omega arith)
entries_from n s (suc m) k at j r h e l =
    let f = entries_first n s m k at h in
    go f (entries_from n s m (k + 1) (at + entry_length s k) j r f.later) (eqb k j) refl
  where
    go : EntryOk n s m k at → (k + 1 + m ≡ j + suc r → k + 1 ≤ j → EntryOk n s r j (entry_offset s j)) → (b : Bool) → eqb k j ≡ b
        → EntryOk n s r j (entry_offset s j)
    go f rest true w =
        let same : k ≡ j = eqb-true k j w in
        let left : m ≡ r = omega arith in
        let here : EntryOk n s m k (entry_offset s k) = subst (λ (x : ℕ). EntryOk n s m k x) (sym f.begins) f in
        subst (λ (x : ℕ). EntryOk n s r x (entry_offset s x)) same (subst (λ (x : ℕ). EntryOk n s x k (entry_offset s k)) left here)
    go f rest false w = rest (omega arith) (omega (arith, eqb-false k j w))

-- no entry from entry k on begins before entry k does
entries_behind : (n : ℕ) (s : List ℕ) (m k at j : ℕ) → entries_ok n s m k at ≡ true → k ≤ j → j < k + m → at ≤ entry_offset s j
entries_behind n s zero k at j h l u = absurd (omega arith)
entries_behind n s (suc m) k at j h l u =
    let f = entries_first n s m k at h in
    go f.begins (entries_behind n s m (k + 1) (at + entry_length s k) j f.later) (eqb k j) refl
  where
    go : entry_offset s k ≡ at → (k + 1 ≤ j → j < k + 1 + m → at + entry_length s k ≤ entry_offset s j) → (b : Bool) → eqb k j ≡ b → at ≤ entry_offset s j
    go e rest true w = let same : entry_offset s j ≡ at = subst (λ (x : ℕ). entry_offset s x ≡ at) (eqb-true k j w) e in omega arith
    go e rest false w = omega (arith, rest (omega (arith, eqb-false k j w)) (omega arith))

-- ---- the bodies of contents that are right

pub contents_entries : (n : ℕ) (s : List ℕ) → contents_ok n s ≡ true → entries_ok n s (n + 1) 0 (contents_end n) ≡ true
unfolding contents_ok
contents_entries n s h = and_right (leb (contents_end n) (length s)) (entries_ok n s (n + 1) 0 (contents_end n)) h

-- entry k of contents that are right, for any dimension
pub contents_entry : (n : ℕ) (s : List ℕ) (k : ℕ) → contents_ok n s ≡ true → k ≤ n → EntryOk n s (n - k) k (entry_offset s k)
contents_entry n s k h l =
    entries_from n s (n + 1) 0 (contents_end n) k (n - k) (contents_entries n s h) (omega arith) (omega arith)

pub contents_inside : (n : ℕ) (s : List ℕ) (k : ℕ) → contents_ok n s ≡ true → k ≤ n → entry_offset s k + entry_length s k ≤ length s
contents_inside n s k h l = entries_inside n s (n - k) (k + 1) _ (contents_entry n s k h l).later

-- each body begins behind the contents
pub contents_before : (n : ℕ) (s : List ℕ) (k : ℕ) → contents_ok n s ≡ true → k ≤ n → contents_end n ≤ entry_offset s k
contents_before n s k h l = entries_behind n s (n + 1) 0 (contents_end n) k (contents_entries n s h) (omega arith) (omega arith)

pub contents_long : (n : ℕ) (s : List ℕ) → contents_ok n s ≡ true → contents_end n ≤ length s
unfolding contents_ok
contents_long n s h = leb-true _ _ (and_left (leb (contents_end n) (length s)) (entries_ok n s (n + 1) 0 (contents_end n)) h)

-- lengths by kind, over any dimension above 0
pub box_kind : (n l : ℕ) → length_ok n 0 l ≡ true → l ≡ 4 * n
unfolding length_ok
box_kind n l h = eqb-true l (4 * n) h

pub start_kind : (n l : ℕ) → 0 < n → length_ok n n l ≡ true → l ≡ 3 * n
unfolding length_ok
start_kind n l p h =
    let away : eqb n 0 ≡ false = ne_eqb n 0 (λ e. omega arith) in
    let same : eqb n n ≡ true = eq-eqb n n refl in
    eqb-true l (3 * n) (rw (away, same) at h)

pub record PolynomialLength (n l : ℕ) : Type 0 where
  pub whole : l % 8 ≡ 0
  pub low : 8 ≤ l
  pub high : l ≤ 8 * term_limit n

pub polynomial_kind : (n k l : ℕ) → 0 < k → k < n → length_ok n k l ≡ true → PolynomialLength n l
unfolding length_ok polynomial_length_ok
polynomial_kind n k l p u h =
    let away : eqb k 0 ≡ false = ne_eqb k 0 (λ e. omega arith) in
    let before : eqb k n ≡ false = ne_eqb k n (λ e. omega arith) in
    let t : (eqb (l % 8) 0 && (leb 8 l && leb l (8 * term_limit n))) ≡ true = rw (away, before) at h in
    let bounds = and_right (eqb (l % 8) 0) (leb 8 l && leb l (8 * term_limit n)) t in
    record {
      whole = eqb-true _ _ (and_left (eqb (l % 8) 0) (leb 8 l && leb l (8 * term_limit n)) t);
      low = leb-true _ _ (and_left (leb 8 l) (leb l (8 * term_limit n)) bounds);
      high = leb-true _ _ (and_right (leb 8 l) (leb l (8 * term_limit n)) bounds);
    }

-- a part of a list that lies inside it
part_length : (s : List ℕ) (at l : ℕ) → at + l ≤ length s → length (take l (drop at s)) ≡ l
part_length s at l h = simp (length-take, length-drop) (omega arith)

-- the bodies of contents that are right, for any dimension above 0
module _ (n : ℕ) (s : List ℕ) (h : contents_ok n s ≡ true) where
  pub contents_body_length : (k : ℕ) → k ≤ n → length (body s k) ≡ entry_length s k
  unfolding body
  contents_body_length k l = part_length s (entry_offset s k) (entry_length s k) (contents_inside n s k h l)

  pub contents_box_length : length (body s 0) ≡ 4 * n
  contents_box_length =
      contents_body_length 0 (omega arith) ∙ box_kind n (entry_length s 0) (contents_entry n s 0 h (omega arith)).kind

  pub contents_start_length : 0 < n → length (body s n) ≡ 3 * n
  contents_start_length p =
      contents_body_length n (omega arith) ∙ start_kind n (entry_length s n) p (contents_entry n s n h (omega arith)).kind

  pub contents_polynomial_length : (k : ℕ) → 0 < k → k < n → PolynomialLength n (length (body s k))
  contents_polynomial_length k p u =
      subst (PolynomialLength n) (sym (contents_body_length k (omega arith)))
      (polynomial_kind n k (entry_length s k) p u (contents_entry n s k h (omega arith)).kind)

-- ---- the bodies of a job that opens

module _ {s : List ℕ} (o : Opens s) where
  -- each body lies inside the job
  pub body_inside : (k : ℕ) → k ≤ dimension s → entry_offset s k + entry_length s k ≤ length s
  body_inside k l = contents_inside (dimension s) s k o.contents l

  pub body_length : (k : ℕ) → k ≤ dimension s → length (body s k) ≡ entry_length s k
  body_length k l = contents_body_length (dimension s) s o.contents k l

  -- a body's bytes are bytes of the job
  pub body_byte : (k i : ℕ) → i < entry_length s k → byte (body s k) i ≡ byte s (entry_offset s k + i)
  unfolding body byte
  body_byte k i l = rw (get_or-take, get_or-drop)

  -- the first body follows the contents
  pub first_offset : entry_offset s 0 ≡ contents_end (dimension s)
  first_offset =
      let e : entries_ok (dimension s) s (suc (dimension s)) 0 (contents_end (dimension s)) ≡ true =
      subst (λ (x : ℕ). entries_ok (dimension s) s x 0 (contents_end (dimension s)) ≡ true) (omega arith) (contents_entries (dimension s) s o.contents) in
      (entries_first (dimension s) s (dimension s) 0 (contents_end (dimension s)) e).begins

  -- each other body begins where the last ended
  pub next_offset : (k : ℕ) → k < dimension s → entry_offset s (k + 1) ≡ entry_offset s k + entry_length s k
  next_offset k l =
      let f = contents_entry (dimension s) s k o.contents (omega arith) in
      let e : entries_ok (dimension s) s (suc (dimension s - (k + 1))) (k + 1) (entry_offset s k + entry_length s k) ≡ true =
      subst (λ (x : ℕ). entries_ok (dimension s) s x (k + 1) (entry_offset s k + entry_length s k) ≡ true) (omega arith) f.later in
      (entries_first (dimension s) s (dimension s - (k + 1)) (k + 1) (entry_offset s k + entry_length s k) e).begins

  -- the last body ends the job
  pub last_end : entry_offset s (dimension s) + entry_length s (dimension s) ≡ length s
  last_end =
      let f = contents_entry (dimension s) s (dimension s) o.contents (omega arith) in
      entries_none (dimension s) s (dimension s + 1) (entry_offset s (dimension s) + entry_length s (dimension s))
      (subst (λ (x : ℕ). entries_ok (dimension s) s x (dimension s + 1) (entry_offset s (dimension s) + entry_length s (dimension s)) ≡ true) (omega arith) f.later)

  -- the lengths of the bodies by kind
  pub box_length : length (body s 0) ≡ 4 * dimension s
  box_length = contents_box_length (dimension s) s o.contents

  pub start_length : length (body s (dimension s)) ≡ 3 * dimension s
  start_length = contents_start_length (dimension s) s o.contents (omega (arith, (opens_range o).low))

  pub polynomial_length : (k : ℕ) → 0 < k → k < dimension s → PolynomialLength (dimension s) (length (body s k))
  polynomial_length k p u = contents_polynomial_length (dimension s) s o.contents k p u

  -- a polynomial has no more terms than the limit
  pub terms_high : (k : ℕ) → 0 < k → k < dimension s → term_count (body s k) ≤ term_limit (dimension s)
  unfolding term_count
  terms_high k p u = let f = polynomial_length k p u in omega arith

  -- no body is empty
  pub body_not_empty : (k : ℕ) → k ≤ dimension s → 0 < length (body s k)
  body_not_empty k l = go (eqb k 0) refl (eqb k (dimension s)) refl
    where
      go : (a : Bool) → eqb k 0 ≡ a → (b : Bool) → eqb k (dimension s) ≡ b → 0 < length (body s k)
      go true e b f =
          subst (λ (x : ℕ). 0 < length (body s x)) (sym (eqb-true k 0 e)) (omega (arith, box_length, (opens_range o).low))
      go false e true f =
          subst (λ (x : ℕ). 0 < length (body s x)) (sym (eqb-true k (dimension s) f)) (omega (arith, start_length, (opens_range o).low))
      go false e false f =
          let p : 0 < k = omega (arith, eqb-false k 0 e) in
          let u : k < dimension s = omega (arith, eqb-false k (dimension s) f) in
          omega (arith, (polynomial_length k p u).low)

-- a bound on every byte of a list holds of every byte of a body
pub body_bound : (s : List ℕ) (k limit : ℕ) → ((i : ℕ) → byte s i < limit) → (i : ℕ) → byte (body s k) i < limit
unfolding body byte
body_bound s k limit f i = go (ltb i (entry_length s k)) refl
  where
    go : (b : Bool) → ltb i (entry_length s k) ≡ b → get_or (take (entry_length s k) (drop (entry_offset s k) s)) i 0 < limit
    go true e =
        let l : i < entry_length s k = ltb-true _ _ e in
        rw (get_or-take, get_or-drop) (f (entry_offset s k + i))
    go false e =
        let l : entry_length s k ≤ i = ltb-false _ _ e in
        let past : length (take (entry_length s k) (drop (entry_offset s k) s)) ≤ i = simp length-take (omega arith) in
        rw (get_or-eq_default (take (entry_length s k) (drop (entry_offset s k) s)) 0 past) (omega (arith, f 0))

-- ---- Body

-- what Body does not refuse
pub record BodyGiven (s : List ℕ) (k : ℕ) : Type 0 where
  pub opened : open_refusal s ≡ 0
  pub index : k ≤ dimension s

pub body_given : (s : List ℕ) (k : ℕ) → body_refusal s k ≡ 0 → BodyGiven s k
unfolding body_refusal
body_given s k h =
    let f = neither_refused _ _ h in
    let t = not_refused _ _ _ (lit< tt) f.next in
    record { opened = f.first; index = omega (arith, ltb-true k (dimension s + 1) (not-false _ t.test)) }

-- a refusal's part is empty
pub refused_part : (s : List ℕ) (k : ℕ) → (body_refusal s k ≡ 0 → ⊥) → body_part s k ≡ []
unfolding body_part
refused_part s k h = part_refused (body_refusal s k) (body s k) h

-- any other is the body, and no body is empty
pub given_part : (s : List ℕ) (k : ℕ) → body_refusal s k ≡ 0 → body_part s k ≡ body s k
unfolding body_part
given_part s k h = part_given (body s k) h

pub given_part_not_empty : (s : List ℕ) (k : ℕ) → body_refusal s k ≡ 0 → 0 < length (body_part s k)
given_part_not_empty s k h =
    let g = body_given s k h in rw (given_part s k h) (body_not_empty (opens s g.opened) k g.index)
