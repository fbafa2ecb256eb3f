-- The masks of a place: the loop over the chain, and the tests of a place that are left once its bytes are decoded.
use Rattle.std.proofs.Common.{ℕ, suc, ◌+◌, ◌-◌, ◌*◌, ◌%◌, ◌^◌, ◌≤◌, ◌<◌, ◌≡◌, refl, sym, ap, ◌∙◌, arith, Bool, true, false, not, ◌&&◌, List, ◌∷◌, length, get_or, take, drop, add-one, drop-cons}
use Rattle.std.proofs.lemmas.List.{drop_all}
use lib.Dec.{ltb, eqb}
use lib.ListN.{length-map}
use borrow.Author.Tests.{eq-eqb, ne_eqb, lt-ltb, le-ltb}
use Rattle.exact.proofs.CountFrom.{length_count_from}
use Rattle.curves.specs.Grid.{holds, chain, facet_ok, place_ok}
use Rattle.paper.specs.Bytes.{byte}
use Rattle.paper.specs.Job.{decode_place}
use Rattle.bits.specs.Axes.{Axes}
use Rattle.bits.proofs.EachDimension.{each_axes}
use Rattle.places.proofs.Reading.{counted_part}

-- ---- one mask more of those behind the mask `before`

module _ (n before : ℕ) (l : List ℕ) (i : ℕ) {full : Bool} (inv : full ≡ chain n before (drop i l)) (h : i < length l) {m : ℕ} (is : m ≡ get_or l i 0) where
  unrolled : full ≡ (ltb m (2 ^ n) && (holds n m before && (not (eqb m before) && chain n m (drop (i + 1) l))))
  unfolding chain
  unrolled = inv ∙ ap (chain n before) (drop-cons l i 0 h ∙ ap (λ (j : ℕ). get_or l i 0 ∷ drop j l) (sym (add-one i))) ∙ rw is

  pub chain_next : m < 2 ^ n → holds n m before ≡ true → (m ≡ before → ⊥) → full ≡ chain n m (drop (i + 1) l)
  chain_next u t d = unrolled ∙ rw (lt-ltb _ _ u, t, ne_eqb _ _ d)

  pub chain_high : 2 ^ n ≤ m → false ≡ full
  chain_high u = sym (unrolled ∙ rw (le-ltb _ _ u))

  pub chain_not_held : m < 2 ^ n → holds n m before ≡ false → false ≡ full
  chain_not_held u t = sym (unrolled ∙ rw (lt-ltb _ _ u, t))

  pub chain_same : m < 2 ^ n → holds n m before ≡ true → m ≡ before → false ≡ full
  chain_same u t d = sym (unrolled ∙ rw (lt-ltb _ _ u, t, eq-eqb _ _ d))

-- ---- the masks of a decoded place

masks_part : (n : ℕ) (p : List ℕ) → 2 ≤ n → length p ≡ 3 * n → (decode_place n p).facet.masks ≡ take (3 * n - 1 - 2 * n) (drop (2 * n) p)
unfolding decode_place byte
masks_part n p l h = counted_part p 0 (2 * n) (n - 1) (omega arith) ∙ ap (λ (m : ℕ). take m (drop (2 * n) p)) (omega arith)

pub chain_ends : (n before : ℕ) (l : List ℕ) (i : ℕ) {full : Bool} → full ≡ chain n before (drop i l) → length l ≤ i → true ≡ full
unfolding chain
chain_ends n before l i inv h = sym (inv ∙ ap (chain n before) (drop_all i l h))

-- the first mask that has a bit above axis n
pub limit_is : (n : ℕ) → Axes n → 1 * 2 ^ n % 18446744073709551616 ≡ 2 ^ n
limit_is = each_axes (λ n. 1 * 2 ^ n % 18446744073709551616 ≡ 2 ^ n) refl refl refl

pub one_below : (n : ℕ) → Axes n → 0 < 2 ^ n
one_below = each_axes (λ n. 0 < 2 ^ n) (omega arith) (omega arith) (omega arith)

-- ---- a decoded place has the right numbers of coordinates and masks: its chain and its side decide

place_is : (n : ℕ) (p : List ℕ) → 0 < n
    → place_ok n (decode_place n p) ≡ (chain n 0 (decode_place n p).facet.masks && ltb (byte p (3 * n - 1)) 2)
unfolding place_ok facet_ok decode_place
place_is n p h = simp (length-map, length_count_from) (rw (eq-eqb n n refl, eq-eqb (suc (n - 1)) n (omega arith)))

abbrev masks_in : ℕ → List ℕ → List ℕ
masks_in n p = take (3 * n - 1 - 2 * n) (drop (2 * n) p)

module _ (n : ℕ) (p : List ℕ) (a : Axes n) (l : length p ≡ 3 * n) where
  tests : place_ok n (decode_place n p) ≡ (chain n 0 (masks_in n p) && ltb (byte p (3 * n - 1)) 2)
  tests = place_is n p (omega (arith, a.low)) ∙ ap (λ (ms : List ℕ). chain n 0 ms && ltb (byte p (3 * n - 1)) 2) (masks_part n p a.low l)

  pub side_decides : true ≡ chain n 0 (masks_in n p) → {side : ℕ} → side ≡ byte p (3 * n - 1) → ltb side 2 ≡ place_ok n (decode_place n p)
  side_decides h e = sym (tests ∙ rw (← h, ← e))

  pub chain_decides : false ≡ chain n 0 (masks_in n p) → chain n 0 (masks_in n p) ≡ place_ok n (decode_place n p)
  chain_decides h = sym (tests ∙ rw (← h))
