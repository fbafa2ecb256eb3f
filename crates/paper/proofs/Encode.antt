-- A place and its 3n bytes: a well-formed place with short coordinates is read back from its bytes, and 3n bytes are those
-- of the place they read as.
use Prim.Native.Nat.{ℕ, suc, zero, ◌+◌, ◌*◌, ◌-◌, ◌/◌, ◌%◌, ◌^◌, ◌≤◌, ◌<◌}
use native.Mathlib.Omega.{arith}
use mathlib.Core.Path.{◌≡◌, refl, sym, ap, subst, ◌∙◌}
use mathlib.Core.Bool.{true}
use mathlib.Core.List.{List, [], ◌∷◌, ◌++◌, map}
use lib.IntN.{ℤ}
use lib.ListN.{length, drop, get_or, length-append, length-map, drop_of_length-le}
use lib.Seq.{get_or-drop, drop-drop, drop_at, drop-cons}
use lib.Dec.{ltb}
use borrow.Author.Tests.{ltb-true, lt-ltb}
use Rattle.exact.proofs.AndTests.{and_left, and_right, and-true}
use Rattle.exact.specs.Crossed.{count_from}
use Rattle.exact.proofs.CountFrom.{length_count_from}
use Rattle.curves.specs.Grid.{Vertex, Place, place_ok, under}
use Rattle.curves.specs.Step.{every}
use Rattle.curves.proofs.SameFacet.{facet_path, place_path}
use Rattle.curves.proofs.IncidenceOf.{place_formed}
use Rattle.curves.proofs.Finite.{chain_under}
use Rattle.paper.specs.Bytes.{byte, word, signed, signed_word, word_of, word_bytes}
use Rattle.paper.specs.Job.{decode_place, vertex_bytes, encode_place}
use Rattle.paper.proofs.ShortPlaces.{short, short_place}
use Rattle.paper.proofs.WordBytes.{word_of_under, signed_word_of, word_together, word_bytes_signed}

-- ---- lengths

pub vertex_bytes_length : (v : Vertex) → length (vertex_bytes v) ≡ 2 * length v
unfolding vertex_bytes word_bytes
vertex_bytes_length [] = refl
vertex_bytes_length (x ∷ v) = omega (arith, vertex_bytes_length v)

pub encode_length : (n : ℕ) (p : Place) → place_ok n p ≡ true → length (encode_place p) ≡ 3 * n
unfolding encode_place
encode_length n p h =
    let f = place_formed n p h in
    simp length-append (omega (arith, vertex_bytes_length p.facet.low))

pub decoded_low_length : (n : ℕ) (b : List ℕ) → length (decode_place n b).facet.low ≡ n
unfolding decode_place
decoded_low_length n b = simp length-map (length_count_from 0 n)

-- ---- read back

-- the byte i places behind k is the i-th of what stands from k on
byte_behind : (b : List ℕ) (k i j : ℕ) → k + i ≡ j → byte b j ≡ get_or (drop k b) i 0
unfolding byte
byte_behind b k i j e = ap (λ m. get_or b m 0) (sym e) ∙ sym (get_or-drop k b i 0)

-- the list behind a part of it
pub drop_on : (b : List ℕ) (k i j : ℕ) (front rest : List ℕ) → k + i ≡ j → length front ≡ i → drop k b ≡ front ++ rest → drop j b ≡ rest
drop_on b k i j front rest e l h =
    ap (λ m. drop m b) (sym e) ∙ (sym (drop-drop i k b) ∙ (ap (drop i) h ∙ drop_at front rest i l))

-- where a byte stands, it is read
read_byte : (b : List ℕ) (k x : ℕ) (rest : List ℕ) → drop k b ≡ x ∷ rest → byte b k ≡ x
read_byte b k x rest e = byte_behind b k 0 k (omega arith) ∙ ap (λ l. get_or l 0 0) e

-- where the two bytes of a number stand, its 16 bits are read
pub read_bits : (b : List ℕ) (k : ℕ) (x : ℤ) (rest : List ℕ) → drop k b ≡ word_bytes x ++ rest → word b k ≡ word_of x
unfolding word word_bytes
read_bits b k x rest e =
    let low : byte b k ≡ word_of x % 256 = byte_behind b k 0 k (omega arith) ∙ ap (λ l. get_or l 0 0) e in
    let high : byte b (k + 1) ≡ word_of x / 256 = byte_behind b k 1 (k + 1) (omega arith) ∙ ap (λ l. get_or l 1 0) e in
    omega (arith, word_together (word_of x))

-- where those of a short number stand, it is read
read_word : (b : List ℕ) (k : ℕ) (x : ℤ) (rest : List ℕ) → short x ≡ true → drop k b ≡ word_bytes x ++ rest → signed_word b k ≡ x
unfolding signed_word
read_word b k x rest h e = ap (signed 32768) (read_bits b k x rest e) ∙ signed_word_of x h

-- where the bytes of a vertex stand, its coordinates are read
read_vertex : (b : List ℕ) (k : ℕ) (v : Vertex) (rest : List ℕ) → every short v ≡ true → drop (2 * k) b ≡ vertex_bytes v ++ rest
    → map (λ a. signed_word b (2 * a)) (count_from k (length v)) ≡ v
unfolding count_from every vertex_bytes word_bytes
read_vertex b k [] rest h e = refl
read_vertex b k (x ∷ v) rest h e =
    let here : signed_word b (2 * k) ≡ x = read_word b (2 * k) x (vertex_bytes v ++ rest) (and_left (short x) (every short v) h) e in
    let later : drop (2 * suc k) b ≡ vertex_bytes v ++ rest = drop_on b (2 * k) 2 (2 * suc k) (word_bytes x) (vertex_bytes v ++ rest) (omega arith) refl e in
    rw (here, read_vertex b (suc k) v rest (and_right (short x) (every short v) h) later)

-- where a list of masks stands, it is read
read_masks : (b : List ℕ) (k : ℕ) (ms rest : List ℕ) → drop k b ≡ ms ++ rest → map (byte b) (count_from k (length ms)) ≡ ms
unfolding count_from
read_masks b k [] rest e = refl
read_masks b k (m ∷ ms) rest e =
    let here : byte b k ≡ m = read_byte b k m (ms ++ rest) e in
    let later : drop (suc k) b ≡ ms ++ rest = drop_on b k 1 (suc k) (m ∷ []) (ms ++ rest) (omega arith) refl e in
    rw (here, read_masks b (suc k) ms rest later)

pub decode_encode : (n : ℕ) (p : Place) → place_ok n p ≡ true → short_place p ≡ true → decode_place n (encode_place p) ≡ p
unfolding decode_place encode_place short_place
decode_encode n p h w =
    let f = place_formed n p h in
    let v : Vertex = p.facet.low in
    let ms : List ℕ = p.facet.masks in
    let b : List ℕ = vertex_bytes v ++ (ms ++ (p.side ∷ [])) in
    let at-masks : drop (2 * n) b ≡ ms ++ (p.side ∷ []) = drop_at (vertex_bytes v) (ms ++ (p.side ∷ [])) (2 * n) (omega (arith, vertex_bytes_length v)) in
    let at_side : drop (3 * n - 1) b ≡ p.side ∷ [] =
    drop_on b (2 * n) (n - 1) (3 * n - 1) ms (p.side ∷ []) (omega arith) (omega arith) at-masks in
    place_path _ p
    (facet_path _ p.facet
    (subst (λ m. map (λ a. signed_word b (2 * a)) (count_from 0 m) ≡ v) f.low_length (read_vertex b 0 v (ms ++ (p.side ∷ [])) w refl))
    (subst (λ m. map (byte b) (count_from (2 * n) m) ≡ ms) (omega arith) (read_masks b (2 * n) ms (p.side ∷ []) at-masks)))
    (read_byte b (3 * n - 1) p.side [] at_side)

-- so places differ if and only if their bytes do
pub encode_injective : (n : ℕ) (p q : Place) → place_ok n p ≡ true → short_place p ≡ true → place_ok n q ≡ true → short_place q ≡ true
    → encode_place p ≡ encode_place q → p ≡ q
encode_injective n p q hp wp hq wq e = sym (decode_encode n p hp wp) ∙ (ap (decode_place n) e ∙ decode_encode n q hq wq)

-- ---- the bytes of what was read

-- two bytes that stand in a list, and what stands behind them
pub first_two : (b : List ℕ) (k j : ℕ) → k + 2 ≡ j → j ≤ length b → drop k b ≡ byte b k ∷ byte b (k + 1) ∷ drop j b
unfolding byte
first_two b k j e l =
    let next : suc k ≡ k + 1 = omega arith in
    let behind : suc (k + 1) ≡ j = omega arith in
    rw (drop-cons b k 0 (omega arith), drop-cons b (suc k) 0 (omega arith), next, behind)

word_here : (b : List ℕ) (k : ℕ) → ((i : ℕ) → byte b i < 256) → word_bytes (signed_word b k) ≡ byte b k ∷ byte b (k + 1) ∷ []
unfolding signed_word word
word_here b k h = word_bytes_signed (byte b k) (byte b (k + 1)) (h k) (h (k + 1))

last_byte : (b : List ℕ) (k : ℕ) → k + 1 ≡ length b → drop k b ≡ byte b k ∷ []
unfolding byte
last_byte b k e = drop-cons b k 0 (omega arith) ∙ ap (λ r. get_or b k 0 ∷ r) (drop_of_length-le b {i = suc k} (omega arith))

-- the bytes of m coordinates that are read from k on, and what stands behind them
write_vertex : (b : List ℕ) (k m j : ℕ) → 2 * (k + m) ≡ j → j ≤ length b → ((i : ℕ) → byte b i < 256)
    → vertex_bytes (map (λ a. signed_word b (2 * a)) (count_from k m)) ++ drop j b ≡ drop (2 * k) b
unfolding count_from vertex_bytes
write_vertex b k zero j e l h = let same : j ≡ 2 * k = omega arith in rw same
write_vertex b k (suc m) j e l h =
    let later = write_vertex b (suc k) m j (omega arith) l h in
    let two : drop (2 * k) b ≡ byte b (2 * k) ∷ byte b (2 * k + 1) ∷ drop (2 * suc k) b = first_two b (2 * k) (2 * suc k) (omega arith) (omega arith) in
    let here : word_bytes (signed_word b (2 * k)) ≡ byte b (2 * k) ∷ byte b (2 * k + 1) ∷ [] = word_here b (2 * k) h in
    rw (two, here, later)

write_masks : (b : List ℕ) (k m j : ℕ) → k + m ≡ j → j ≤ length b → map (byte b) (count_from k m) ++ drop j b ≡ drop k b
unfolding count_from byte
write_masks b k zero j e l = let same : j ≡ k = omega arith in rw same
write_masks b k (suc m) j e l =
    let later = write_masks b (suc k) m j (omega arith) l in
    rw (drop-cons b k 0 (omega arith), later)

pub encode_decode : (n : ℕ) (b : List ℕ) → 0 < n → length b ≡ 3 * n → ((i : ℕ) → byte b i < 256) → encode_place (decode_place n b) ≡ b
unfolding encode_place decode_place
encode_decode n b p l h =
    let v : Vertex = map (λ a. signed_word b (2 * a)) (count_from 0 n) in
    let ms : List ℕ = map (byte b) (count_from (2 * n) (n - 1)) in
    ap (λ r. vertex_bytes v ++ (ms ++ r)) (sym (last_byte b (3 * n - 1) (omega arith)))
    ∙ (ap (λ r. vertex_bytes v ++ r) (write_masks b (2 * n) (n - 1) (3 * n - 1) (omega arith) (omega arith))
    ∙ write_vertex b 0 n (2 * n) (omega arith) (omega arith) h)

-- ---- each is a byte

under_append : (k : ℕ) (l m : List ℕ) → under k l ≡ true → under k m ≡ true → under k (l ++ m) ≡ true
unfolding under
under_append k [] m p q = q
under_append k (x ∷ l) m p q = and-true (and_left (ltb x k) (under k l) p) (under_append k l m (and_right (ltb x k) (under k l) p) q)

under_more : (j k : ℕ) (l : List ℕ) → j ≤ k → under j l ≡ true → under k l ≡ true
unfolding under
under_more j k [] h p = refl
under_more j k (x ∷ l) h p =
    let a : x < j = ltb-true _ _ (and_left (ltb x j) (under j l) p) in
    and-true (lt-ltb x k (omega arith)) (under_more j k l h (and_right (ltb x j) (under j l) p))

vertex_bytes_under : (v : Vertex) → under 256 (vertex_bytes v) ≡ true
unfolding under vertex_bytes word_bytes
vertex_bytes_under [] = refl
vertex_bytes_under (x ∷ v) =
    and-true (lt-ltb (word_of x % 256) 256 (omega arith)) (and-true (lt-ltb (word_of x / 256) 256 (omega (arith, word_of_under x))) (vertex_bytes_under v))

pub encode_bytes : (n : ℕ) (p : Place) → 2 ^ n ≤ 256 → place_ok n p ≡ true → under 256 (encode_place p) ≡ true
unfolding encode_place under
encode_bytes n p l h =
    let f = place_formed n p h in
    under_append 256 (vertex_bytes p.facet.low) _ (vertex_bytes_under p.facet.low)
    (under_append 256 p.facet.masks (p.side ∷ []) (under_more (2 ^ n) 256 p.facet.masks l (chain_under n 0 p.facet.masks f.masks_chain))
    (and-true (lt-ltb p.side 256 (omega arith)) refl))
