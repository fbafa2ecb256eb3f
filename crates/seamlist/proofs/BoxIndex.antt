-- The facets of a box by number: how many there are, and the one with each number.
use Prim.Native.Nat.{ℕ, suc, zero, ◌+◌, ◌*◌, ◌/◌, ◌%◌, ◌<◌}
use native.Mathlib.Omega.{arith}
use native.Mathlib.Nat.{div-add-mod', div-lt_iff_lt-mul, mod-lt, mul-zero}
use mathlib.Core.Path.{◌≡◌, refl, sym, ap, ap₂, ◌∙◌}
use mathlib.Core.List.{List, [], ◌∷◌, ◌++◌, map}
use lib.IntN.{ℤ, pos}
use lib.ListN.{length, get_or, length-append, length-map, get_or-append}
use lib.Seq.{get_or-append-add}
use Rattle.exact.specs.Int.{◌⊕◌}
use Rattle.exact.proofs.CountFrom.{length_map_count_from, get_d_map_count_from}
use Rattle.curves.specs.Box.{pairs, span, between, box_vertices, chains, box_facets}
use Rattle.seamlist.specs.BoxIndex.{box_size, numbered}

-- ---- pairs by number

get_d_map_in : {A B : Type 0} (f : A → B) (l : List A) (i : ℕ) (a : A) (d : B) → i < length l → get_or (map f l) i d ≡ f (get_or l i a)
get_d_map_in f [] i a d h = absurd (omega arith)
get_d_map_in f (x ∷ l) zero a d h = refl
get_d_map_in f (x ∷ l) (suc i) a d h = get_d_map_in f l i a d (omega arith)

module _ {A B C : Type 0} (f : A → B → C) where
  pub length_pairs : (xs : List A) (bs : List B) → length (pairs f xs bs) ≡ length xs * length bs
  unfolding pairs
  length_pairs [] bs = omega arith
  length_pairs (x ∷ xs) bs =
      omega (arith, length-append (map (f x) bs) (pairs f xs bs), length-map bs (f x), length_pairs xs bs)

  -- number i · |bs| + j joins element i of the first list with element j of the second
  pub get_d_pairs : (xs : List A) (bs : List B) (i j : ℕ) (a : A) (b : B) (d : C) → i < length xs → j < length bs
      → get_or (pairs f xs bs) (i * length bs + j) d ≡ f (get_or xs i a) (get_or bs j b)
  unfolding pairs
  get_d_pairs [] bs i j a b d h k = absurd (omega arith)
  get_d_pairs (x ∷ xs) bs zero j a b d h k =
      let at : 0 * length bs + j ≡ j = omega arith in
      ap (λ m. get_or (map (f x) bs ++ pairs f xs bs) m d) at
      ∙ get_or-append (map (f x) bs) (pairs f xs bs) d j (omega (arith, length-map bs (f x)))
      ∙ get_d_map_in (f x) bs j b d k
  get_d_pairs (x ∷ xs) bs (suc i) j a b d h k =
      let at : suc i * length bs + j ≡ length (map (f x) bs) + (i * length bs + j) = omega (arith, length-map bs (f x)) in
      ap (λ m. get_or (map (f x) bs ++ pairs f xs bs) m d) at
      ∙ get_or-append-add (map (f x) bs) (pairs f xs bs) (i * length bs + j) d
      ∙ get_d_pairs xs bs i j a b d (omega arith) k

-- ---- the vertices of a box

pub length_between : (l h : ℤ) → length (between l h) ≡ span l h
unfolding between
length_between l h = length_map_count_from (λ k. l ⊕ pos k) 0 (span l h)

pub get_d_between : (l h : ℤ) (i : ℕ) (d : ℤ) → i < span l h → get_or (between l h) i d ≡ l ⊕ pos i
unfolding between
get_d_between l h i d k =
    let at : 0 + i ≡ i = omega arith in get_d_map_count_from (λ k. l ⊕ pos k) d 0 (span l h) i k ∙ ap (λ m. l ⊕ pos m) at

pub length_box_vertices : (ls hs : List ℤ) → length (box_vertices ls hs) ≡ box_size ls hs
unfolding box_vertices box_size
length_box_vertices [] hs = refl
length_box_vertices (l ∷ ls) [] = refl
length_box_vertices (l ∷ ls) (h ∷ hs) =
    length_pairs (λ x v. x ∷ v) (between l h) (box_vertices ls hs) ∙ ap₂ (λ a b. a * b) (length_between l h) (length_box_vertices ls hs)

some_left : (i a m : ℕ) → i < a * m → 0 < m
some_left i a zero h = absurd (omega (arith, mul-zero a))
some_left i a (suc m) h = omega arith

pub get_d_box_vertices : (ls hs : List ℤ) (i : ℕ) → i < box_size ls hs → get_or (box_vertices ls hs) i [] ≡ numbered ls hs i
unfolding box_vertices box_size numbered
get_d_box_vertices [] hs zero k = refl
get_d_box_vertices [] hs (suc i) k = absurd (omega arith)
get_d_box_vertices (l ∷ ls) [] zero k = refl
get_d_box_vertices (l ∷ ls) [] (suc i) k = absurd (omega arith)
get_d_box_vertices (l ∷ ls) (h ∷ hs) i k =
    let m : ℕ = box_size ls hs in
    let q : ℕ = i / m in
    let r : ℕ = i % m in
    let size : length (box_vertices ls hs) ≡ m = length_box_vertices ls hs in
    let some : 0 < m = some_left i (span l h) m k in
    let under : r < m = mod-lt i some in
    let above : q < span l h = (div-lt_iff_lt-mul some).1 k in
    let at : i ≡ q * length (box_vertices ls hs) + r = sym (div-add-mod' i m) ∙ ap (λ x. q * x + r) (sym size) in
    ap (λ x. get_or (box_vertices (l ∷ ls) (h ∷ hs)) x []) at
    ∙ get_d_pairs (λ x v. x ∷ v) (between l h) (box_vertices ls hs) q r l [] [] (omega (arith, length_between l h)) (omega arith)
    ∙ ap₂ (λ x v. x ∷ v) (get_d_between l h q l above) (get_d_box_vertices ls hs r under)

-- ---- the facets of a box

pub length_box_facets : (n : ℕ) (ls hs : List ℤ) → length (box_facets n ls hs) ≡ box_size ls hs * length (chains n)
unfolding box_facets
length_box_facets n ls hs =
    length_pairs (λ v ms. record { low = v; masks = ms }) (box_vertices ls hs) (chains n) ∙ ap (λ m. m * length (chains n)) (length_box_vertices ls hs)
