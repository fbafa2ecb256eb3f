-- A place's bytes, stored one number behind another, are the bytes that the definition gives it.
use Rattle.std.proofs.Common.{ℕ, suc, zero, ◌+◌, ◌*◌, ◌-◌, ◌^◌, ◌≤◌, ◌<◌, ◌≡◌, refl, sym, ap, ◌∙◌, arith, Bool, true, not, ◌&&◌, List, [], ◌∷◌, ◌++◌, length, set, get_or, take, append-nil, append_assoc}
use Rattle.std.proofs.lemmas.List.{take_more, length-take-le}
use lib.Dec.{ltb, eqb}
use lib.Seq.{sets}
use borrow.Author.Tests.{ltb-true, lt-ltb, eqb-true}
use Rattle.exact.proofs.AndTests.{and_left, and_right, and-true}
use Rattle.exact.specs.Int.{0ℤ}
use Rattle.curves.specs.Grid.{Place, chain, holds, place_ok, facet_ok}
use Rattle.curves.specs.Grid as Grid
use Rattle.curves.specs.Step.{every}
use Rattle.paper.specs.Bytes.{word_bytes}
use Rattle.paper.specs.Job.{vertex_bytes, encode_place}
use Rattle.paper.specs.Operations.{encode_places}
use Rattle.paper.proofs.ShortPlaces.{short, short_place}
use Rattle.paper.specs.declared.Vertex.{Vertex}
use Rattle.paper.specs.declared.HeldPlace.{HeldPlace}
use Rattle.bits.specs.Axes.{Axes}
use Rattle.bits.proofs.Sets.{sets_append}
use Rattle.bits.proofs.EachDimension.{each_axes}
use Rattle.places.specs.Held.{vertex_as, masks_as, facet_as, place_as}
use Rattle.places.specs.PlaceBytes.{FitsBytes}

-- ---- the numbers that count fit their bytes

-- a test of the first n members of a list, and of what stands for those past its end, holds of each of them
every_taken : {A : Type 0} (t : A → Bool) (n : ℕ) (l : List A) (k : ℕ) (d : A) → k < n → t d ≡ true → every t (take n l) ≡ true
    → t (get_or l k d) ≡ true
unfolding every
every_taken t zero l k d h i e = absurd (omega arith)
every_taken t (suc n) [] k d h i e = i
every_taken t (suc n) (x ∷ l) zero d h i e = and_left (t x) (every t (take n l)) e
every_taken t (suc n) (x ∷ l) (suc k) d h i e = every_taken t n l k d (omega arith) i (and_right (t x) (every t (take n l)) e)

module _ (n : ℕ) (v : Vertex) (h : every short (vertex_as n v) ≡ true) where
  pub coordinate_short : (a : ℕ) → a < n → short (get_or v.coordinates a 0ℤ) ≡ true
  unfolding vertex_as short
  coordinate_short a l = every_taken short n v.coordinates a 0ℤ l refl h

-- the masks of a chain
under_byte : ℕ → Bool
under_byte m = ltb m 256

chain_bytes : (n before : ℕ) (ms : List ℕ) → 2 ^ n ≤ 256 → chain n before ms ≡ true → every under_byte ms ≡ true
unfolding chain every under_byte
chain_bytes n before [] l e = refl
chain_bytes n before (m ∷ ms) l e =
    let rest : Bool = not (eqb m before) && chain n m ms in
    let under : m < 2 ^ n = ltb-true m (2 ^ n) (and_left (ltb m (2 ^ n)) (holds n m before && rest) e) in
    let later : rest ≡ true = and_right (holds n m before) rest (and_right (ltb m (2 ^ n)) (holds n m before && rest) e) in
    and-true (lt-ltb m 256 (omega arith)) (chain_bytes n m ms l (and_right (not (eqb m before)) (chain n m ms) later))

powers : (n : ℕ) → Axes n → 2 ^ n ≤ 256
powers = each_axes (λ n. 2 ^ n ≤ 256) (omega arith) (omega arith) (omega arith)

module _ (n : ℕ) (p : HeldPlace) (a : Axes n) (h : chain n 0 (masks_as n p) ≡ true) where
  pub mask_small : (k : ℕ) → k < n - 1 → get_or p.masks k 0 < 256
  unfolding masks_as under_byte
  mask_small k l =
      ltb-true (get_or p.masks k 0) 256
      (every_taken under_byte (n - 1) p.masks k 0 l refl (chain_bytes n 0 (take (n - 1) p.masks) (powers n a) h))

-- ---- the numbers one behind another

bytes_append : (v w : Grid.Vertex) → vertex_bytes (v ++ w) ≡ vertex_bytes v ++ vertex_bytes w
unfolding vertex_bytes
bytes_append [] w = refl
bytes_append (x ∷ v) w = ap (λ t. word_bytes x ++ t) (bytes_append v w) ∙ sym (append_assoc (word_bytes x) (vertex_bytes v) (vertex_bytes w))

bytes_length : (v : Grid.Vertex) → length (vertex_bytes v) ≡ 2 * length v
unfolding vertex_bytes word_bytes
bytes_length [] = refl
bytes_length (x ∷ v) = omega (arith, bytes_length v)

module _ (b : List ℕ) (at : ℕ) where
  -- one coordinate more
  pub word_more : (v : Grid.Vertex) (a : ℕ) {k r : List ℕ} → a < length v → k ≡ sets b at (vertex_bytes (take a v))
      → r ≡ sets k (at + 2 * a) (word_bytes (get_or v a 0ℤ)) → r ≡ sets b at (vertex_bytes (take (a + 1) v))
  unfolding vertex_bytes
  word_more v a {k} {r} l e h =
      let x = get_or v a 0ℤ in
      let behind : at + 2 * a ≡ at + length (vertex_bytes (take a v)) = omega (arith, bytes_length (take a v), length-take-le a v (omega arith)) in
      h
      ∙ (λ i. sets (e i) (behind i) (word_bytes x))
      ∙ sym (sets_append b at (vertex_bytes (take a v)) (word_bytes x))
      ∙ ap (sets b at)
      (ap (λ (t : List ℕ). vertex_bytes (take a v) ++ t) (sym (append-nil (word_bytes x)))
      ∙ sym (bytes_append (take a v) (x ∷ []))
      ∙ ap vertex_bytes (sym (take_more v a 0ℤ l)))

-- ---- the whole place

pub masks_length : (p : HeldPlace) (n : ℕ) → Axes n → length p.masks ≡ 3 → length (masks_as n p) ≡ n - 1
unfolding masks_as
masks_length p n a h = length-take-le (n - 1) p.masks (omega (arith, a.high))

module _ {n : ℕ} {p : HeldPlace} (f : FitsBytes n p) where
  abbrev low_count : Bool
  low_count = eqb (length (vertex_as n p.low)) n

  abbrev mask_count : Bool
  mask_count = eqb (suc (length (masks_as n p))) n

  abbrev masks_chain : Bool
  masks_chain = chain n 0 (masks_as n p)

  pub fits_low : every short (vertex_as n p.low) ≡ true
  unfolding short_place place_as facet_as
  fits_low = f.short

  counts : (low_count && (mask_count && masks_chain)) ≡ true
  unfolding place_ok facet_ok place_as facet_as
  counts = and_left (low_count && (mask_count && masks_chain)) (ltb p.side 2) f.form

  pub fits_masks : chain n 0 (masks_as n p) ≡ true
  fits_masks = and_right mask_count masks_chain (and_right low_count (mask_count && masks_chain) counts)

  pub fits_side : p.side < 2
  unfolding place_ok place_as
  fits_side = ltb-true p.side 2 (and_right (facet_ok n (facet_as n p)) (ltb p.side 2) f.form)

  pub place_stored : (b : List ℕ) (at : ℕ) {l m r : List ℕ} {k : ℕ} → l ≡ sets b at (vertex_bytes (vertex_as n p.low)) → m ≡ sets l (at + 2 * n) (masks_as n p)
      → k ≡ at + 3 * n - 1 → r ≡ set m k p.side → r ≡ sets b at (encode_place (place_as n p))
  unfolding encode_place place_as facet_as
  place_stored b at {k = k} e g d h =
      let v : Grid.Vertex = vertex_as n p.low in
      let ms : List ℕ = masks_as n p in
      let lv = eqb-true (length v) n (and_left low_count (mask_count && masks_chain) counts) in
      let lm = eqb-true (suc (length ms)) n (and_left mask_count masks_chain (and_right low_count (mask_count && masks_chain) counts)) in
      let behind : at + 2 * n ≡ at + length (vertex_bytes v) = omega (arith, bytes_length v) in
      let last : k ≡ at + length (vertex_bytes v) + length ms = omega (arith, bytes_length v, f.axes.low) in
      h
      ∙ (λ i. set (g i) (last i) p.side)
      ∙ (λ i. set (sets (e i) (behind i) ms) (at + length (vertex_bytes v) + length ms) p.side)
      ∙ sym (sets_append (sets b at (vertex_bytes v)) (at + length (vertex_bytes v)) ms (p.side ∷ []))
      ∙ sym (sets_append b at (vertex_bytes v) (ms ++ (p.side ∷ [])))

-- one place more
pub encode_places_snoc : (ps : List Place) (p : Place) → encode_places (ps ++ (p ∷ [])) ≡ encode_places ps ++ encode_place p
unfolding encode_places
encode_places_snoc [] p = append-nil (encode_place p)
encode_places_snoc (q ∷ ps) p =
    ap (λ l. encode_place q ++ l) (encode_places_snoc ps p) ∙ sym (append_assoc (encode_place q) (encode_places ps) (encode_place p))
