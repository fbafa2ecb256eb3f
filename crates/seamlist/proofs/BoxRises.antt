-- The facets of a box stand in rising order.
use Prim.Native.Nat.{ℕ, suc, zero, ◌-◌, ◌^◌, ◌<◌}
use native.Mathlib.Omega.{arith}
use mathlib.Core.Path.{◌≡◌, sym, ap, ◌∙◌}
use mathlib.Core.Bool.{Bool, true, not}
use mathlib.Core.List.{List, [], ◌∷◌, map}
use lib.IntN.{ℤ, pos}
use lib.ListN.{length}
use lib.Dec.{ltb, lt→ltb}
use lib.Signed.{le_z, ◌<ℤ◌}
use borrow.Author.Tests.{ltb-true, lt-ltb, not-true}
use Rattle.exact.specs.Int.{◌⊕◌}
use Rattle.exact.specs.Crossed.{count_from}
use Rattle.exact.proofs.Linear.{split, linear}
use Rattle.curves.specs.Grid.{Vertex, chain}
use Rattle.curves.specs.Box.{lists_under, span, between, box_vertices, chains, box_facets}
use Rattle.curves.specs.Curve.{◌∈◌}
use Rattle.curves.proofs.Listed.{count_from_from}
use Rattle.curves.proofs.Finite.{box_vertices_member, within_length}
use Rattle.seamlist.specs.Seams.{lex_before, facet_key, facet_before, Rising, none, more}
use Rattle.seamlist.proofs.Rising.{one_rising, keep_rising, map_rising, pairs_rising}
use Rattle.seamlist.proofs.FacetOrder.{less_not_le, not_le_less, lex_less, lex_same, lex_append_less, lex_append_same}

pub count_from_rises : (k m : ℕ) → Rising ltb (count_from k m)
unfolding count_from
count_from_rises k zero = none
count_from_rises k (suc m) = more {x = k} {l = count_from (suc k) m} (λ y i. lt-ltb k y (count_from_from (suc k) m i)) (count_from_rises (suc k) m)

-- ---- vertices

-- the test of x < y
unfoldable below : ℤ → ℤ → Bool
below x y = not (le_z y x)

below_less : (x y : ℤ) → below x y ≡ true → x <ℤ y
unfolding below
below_less x y h = not_le_less x y (not-true (le_z y x) h)

less_below : (x y : ℤ) → x <ℤ y → below x y ≡ true
unfolding below
less_below x y h = ap not (less_not_le x y h)

less_sum : (l : ℤ) (a b : ℕ) → a < b → l ⊕ pos a <ℤ l ⊕ pos b
less_sum l a b = rw (split l) (simp linear (omega arith))

between_rises : (l h : ℤ) → Rising below (between l h)
unfolding between
between_rises l h =
    map_rising {before = ltb} {after = below} (λ k. l ⊕ pos k)
    (λ a b e. less_below (l ⊕ pos a) (l ⊕ pos b) (less_sum l a b (ltb-true a b e))) (count_from_rises 0 (span l h))

pub box_vertices_rises : (ls hs : List ℤ) → Rising lex_before (box_vertices ls hs)
unfolding box_vertices
box_vertices_rises [] hs = one_rising []
box_vertices_rises (l ∷ ls) [] = one_rising []
box_vertices_rises (l ∷ ls) (h ∷ hs) =
    pairs_rising {first = below} {second = lex_before} {third = lex_before} (λ x v. x ∷ v)
    (λ x y v w i j e. lex_less x y v w (below_less x y e)) (λ x v w e. lex_same x v w ∙ e)
    (between_rises l h) (box_vertices_rises ls hs)

-- ---- chains of masks

-- lists of masks in order
unfoldable masks_before : List ℕ → List ℕ → Bool
masks_before l m = lex_before (map pos l) (map pos m)

lists_under_rises : (n k : ℕ) → Rising masks_before (lists_under n k)
unfolding lists_under masks_before
lists_under_rises n zero = one_rising []
lists_under_rises n (suc k) =
    pairs_rising {first = ltb} {second = masks_before} {third = masks_before} (λ a l. a ∷ l)
    (λ a b l m i j e. lex_less (pos a) (pos b) (map pos l) (map pos m) (record { lt = lt→ltb a b (ltb-true a b e) }))
    (λ a l m e. lex_same (pos a) (map pos l) (map pos m) ∙ e)
    (count_from_rises 0 n) (lists_under_rises n k)

chains_rise : (n : ℕ) → Rising masks_before (chains n)
unfolding chains
chains_rise n = keep_rising (chain n 0) (lists_under_rises (2 ^ n) (n - 1))

-- ---- facets

-- where the box has as many low ends as high ends
pub box_facets_rise : (n : ℕ) (ls hs : List ℤ) → length ls ≡ length hs → Rising facet_before (box_facets n ls hs)
unfolding box_facets facet_before facet_key masks_before
box_facets_rise n ls hs e =
    pairs_rising {first = lex_before} {second = masks_before} {third = facet_before} (λ v ms. record { low = v; masks = ms })
    (λ v w a b i j h. lex_append_less v w (map pos a) (map pos b) (size v i ∙ sym (size w j)) h)
    (λ v a b h. lex_append_same v (map pos a) (map pos b) ∙ h)
    (box_vertices_rises ls hs) (chains_rise n)
  where
    size : (v : Vertex) → v ∈ box_vertices ls hs → length v ≡ length ls
    size v i = within_length ls hs v (box_vertices_member ls hs e i)
