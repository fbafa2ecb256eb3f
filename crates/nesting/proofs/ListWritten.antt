-- A list of places written as bytes is read back: it has as many places, and they are those at its positions.
use Prim.Native.Nat.{ℕ, zero, suc, ◌+◌, ◌*◌, ◌/◌, ◌≤◌, ◌<◌}
use native.Mathlib.Omega.{arith}
use native.Mathlib.Nat.{mul-suc}
use mathlib.Core.Path.{◌≡◌, refl, sym, ap, ap₂, ◌∙◌}
use mathlib.Core.Bool.{true}
use mathlib.Core.List.Memᴰ
use mathlib.Core.List.{List, [], ◌∷◌, ◌++◌, map, append-nil}
use lib.ListN.{length, take, drop}
use lib.Seq.{drop-drop}
use lib.Dec.{ltb}
use Rattle.exact.proofs.AndTests.{and_left, and_right, and-true}
use Rattle.exact.specs.Crossed.{count_from}
use Rattle.exact.proofs.CountFrom.{map_count_from_suc, map_count_from_ext}
use Rattle.curves.specs.Grid.{Place, under}
use Rattle.curves.specs.Curve.{◌∈◌}
use Rattle.paper.specs.Job.{dimension, decode_place, encode_place}
use Rattle.paper.specs.Operations.{encode_places}
use Rattle.paper.specs.Demand3.{read_places}
use Rattle.paper.specs.Pen.{place_bytes, place_count}
use Rattle.paper.proofs.PlacesWritten.{Writable, encode_places_length, places_read}
use Rattle.nesting.specs.CutOrder.{listed_at, first_listed}

-- the place at a position of some bytes
place_in : ℕ → List ℕ → ℕ → Place
place_in n b i = decode_place n (take (3 * n) (drop (3 * n * i) b))

-- reading so many places from the front is reading the positions in order
read_positions : (n k : ℕ) (b : List ℕ) → read_places n k b ≡ map (place_in n b) (count_from 0 k)
unfolding read_places count_from place_in
read_positions n zero b = refl
read_positions n (suc k) b =
    let first : 3 * n * 0 ≡ 0 = omega arith in
    ap₂ (λ p l. p ∷ l) (ap (λ i. decode_place n (take (3 * n) (drop i b))) (sym first))
    (read_positions n k (drop (3 * n) b) ∙ map_count_from_ext (place_in n (drop (3 * n) b)) (λ i. place_in n b (suc i)) 0 k next
    ∙ sym (map_count_from_suc (place_in n b) 0 k))
  where
    next : (i : ℕ) → 0 ≤ i → i < 0 + k → place_in n (drop (3 * n) b) i ≡ place_in n b (suc i)
    next i l u =
        let more : 3 * n + 3 * n * i ≡ 3 * n * suc i = omega (arith, mul-suc (3 * n) i) in
        ap (λ c. decode_place n (take (3 * n) c)) (drop-drop (3 * n * i) (3 * n) b ∙ ap (λ j. drop j b) more)

-- ---- read back

module _ (s : List ℕ) (l : List Place) (w : (p : Place) → p ∈ l → Writable (dimension s) p) (two : dimension s ≡ 2) where
  -- 6 bytes for each
  pub written_size : length (encode_places l) ≡ 6 * length l
  written_size = encode_places_length (dimension s) l w ∙ ap (λ n. 3 * n * length l) two

  -- so many places are counted
  pub written_count : place_count s (encode_places l) ≡ length l
  unfolding place_count
  written_count = counted (length (encode_places l)) (dimension s) (length l) two written_size
    where
      counted : (k n m : ℕ) → n ≡ 2 → k ≡ 6 * m → k / (3 * n) ≡ m
      counted k n m e h = rw e (omega arith)

  -- and they are those at the positions
  pub written_listed : first_listed s (encode_places l) (place_count s (encode_places l)) ≡ l
  unfolding first_listed listed_at place_bytes place_in
  written_listed =
      ap (first_listed s (encode_places l)) written_count
      ∙ sym (read_positions (dimension s) (length l) (encode_places l))
      ∙ ap (read_places (dimension s) (length l)) (sym (append-nil (encode_places l)))
      ∙ places_read (dimension s) l [] w

-- ---- each is a byte

-- what holds of the numbers of two lists holds of those of both
under_both : (k : ℕ) (a b : List ℕ) → under k a ≡ true → under k b ≡ true → under k (a ++ b) ≡ true
unfolding under
under_both k [] b h i = i
under_both k (x ∷ a) b h i =
    and-true (and_left (ltb x k) (under k a) h) (under_both k a b (and_right (ltb x k) (under k a) h) i)

-- each of the numbers is a byte
pub written_bytes : (n : ℕ) (l : List Place) → ((p : Place) → p ∈ l → Writable n p) → under 256 (encode_places l) ≡ true
unfolding encode_places under
written_bytes n [] w = refl
written_bytes n (p ∷ l) w =
    under_both 256 (encode_place p) (encode_places l) (w p (Memᴰ.head refl)).bytes (written_bytes n l (λ q i. w q (Memᴰ.tail i)))
