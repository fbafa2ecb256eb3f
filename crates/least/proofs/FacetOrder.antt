-- The order of two facets is that of their numbers as lists: the coordinates, and if they are the same, the masks.
use Rattle.std.proofs.Common.{◌≡◌, ℕ, ◌-◌, Bool, true, false, cond, List, [], ◌∷◌, ◌++◌, map, length, take, ℤ, pos, ◌<ℤ◌, ◌<◌, get_or, refl, ap, ap₂, sym, ◌∙◌, arith}
use Rattle.std.specs.Int.Signed.{le_z, lt_z}
use Rattle.std.specs.Ordering.{is_lt, ordering_then, int_cmp, nat_cmp, MatchOrdering}
use Rattle.std.specs.declared.cmp.Ordering.{Ordering}
use Rattle.std.specs.declared.cmp.Ordering.TheVariants.{Less, Equal, Greater}
use Rattle.std.specs.Cmp.{int_ranks}
use Rattle.std.specs.Cmp.Lexicographic.{slice_cmp}
use Rattle.std.proofs.lemmas.Int.{ints}
use Rattle.std.proofs.lemmas.List.{length-take, get_or-take}
use Rattle.std.proofs.lemmas.Bool.Decides.{nat_tests}
use mir.Syntax.{w64}
use mir.Val.{SFits, of_z}
use mir.ValLaws.{to_z-of_z}
use Rattle.exact.specs.Int.{0ℤ}
use Rattle.exact.proofs.Bits.{back}
use Rattle.paper.specs.declared.HeldPlace.{HeldPlace}
use Rattle.places.specs.Held.{vertex_as, masks_as, facet_as}
use Rattle.seamlist.specs.Seams.{lex_before, facet_key, facet_before}

-- ---- one number

ranked : (x y : ℤ) (r : Ordering) → MatchOrdering r (x <ℤ y) (x ≡ y) (y <ℤ x) → (o : Ordering) (b : Bool) → b ≡ is_lt o
    → cond (le_z x y) (cond (le_z y x) b true) false ≡ is_lt (ordering_then r o)
ranked x y Less h o b e = grind (arith, ints)
ranked x y Equal h o b e = grind (arith, ints)
ranked x y Greater h o b e = grind (arith, ints)

-- the smaller decides, and if they are the same, what comes behind
decided : (x y : ℤ) (o : Ordering) (b : Bool) → b ≡ is_lt o → cond (le_z x y) (cond (le_z y x) b true) false ≡ is_lt (ordering_then (int_cmp x y) o)
decided x y o b e = ranked x y (int_cmp x y) (int_ranks x y) o b e

-- ---- the masks

same_order : (x y : ℕ) → int_cmp (pos x) (pos y) ≡ nat_cmp x y
same_order x y = grind (arith, nat_tests)

masks_before : (l m : List ℕ) → lex_before (map pos l) (map pos m) ≡ is_lt (slice_cmp nat_cmp l m)
unfolding lex_before
masks_before [] [] = refl
masks_before [] (y ∷ m) = refl
masks_before (x ∷ l) [] = refl
masks_before (x ∷ l) (y ∷ m) =
    decided (pos x) (pos y) (slice_cmp nat_cmp l m) (lex_before (map pos l) (map pos m)) (masks_before l m)
    ∙ ap (λ o. is_lt (ordering_then o (slice_cmp nat_cmp l m))) (same_order x y)

-- ---- all of them

then_again : (q r s : Ordering) → ordering_then (ordering_then q r) s ≡ ordering_then q (ordering_then r s)
then_again Less r s = refl
then_again Equal r s = refl
then_again Greater r s = refl

numbers_before : (v w : List ℤ) (l m : List ℕ) → length v ≡ length w
    → is_lt (ordering_then (slice_cmp int_cmp v w) (slice_cmp nat_cmp l m)) ≡ lex_before (v ++ map pos l) (w ++ map pos m)
unfolding lex_before
numbers_before [] [] l m h = sym (masks_before l m)
numbers_before [] (y ∷ w) l m h = absurd (omega arith)
numbers_before (x ∷ v) [] l m h = absurd (omega arith)
numbers_before (x ∷ v) (y ∷ w) l m h =
    ap is_lt (then_again (int_cmp x y) (slice_cmp int_cmp v w) (slice_cmp nat_cmp l m))
    ∙ sym
    (decided x y (ordering_then (slice_cmp int_cmp v w) (slice_cmp nat_cmp l m)) (lex_before (v ++ map pos l) (w ++ map pos m))
    (sym (numbers_before v w l m (omega arith))))

pub facets_compared : (n : ℕ) (p q : HeldPlace) → length (take n p.low.coordinates) ≡ length (take n q.low.coordinates)
    → is_lt
    (ordering_then (slice_cmp int_cmp (take n p.low.coordinates) (take n q.low.coordinates)) (slice_cmp nat_cmp (take (n - 1) p.masks) (take (n - 1) q.masks)))
    ≡ facet_before (facet_as n p) (facet_as n q)
unfolding facet_before facet_key facet_as vertex_as masks_as
facets_compared n p q h = numbers_before (take n p.low.coordinates) (take n q.low.coordinates) (take (n - 1) p.masks) (take (n - 1) q.masks) h

-- ---- the first coordinates differ

first_number : (x y : ℤ) (b : Bool) → ¬ (x ≡ y) → lt_z x y ≡ cond (le_z x y) (cond (le_z y x) b true) false
first_number x y b h = grind (arith, ints)

first_before : (v w l m : List ℤ) → 0 < length v → 0 < length w → ¬ (get_or v 0 0ℤ ≡ get_or w 0 0ℤ)
    → lt_z (get_or v 0 0ℤ) (get_or w 0 0ℤ) ≡ lex_before (v ++ l) (w ++ m)
unfolding lex_before
first_before [] w l m c d h = absurd (omega arith)
first_before (x ∷ v) [] l m c d h = absurd (omega arith)
first_before (x ∷ v) (y ∷ w) l m c d h = first_number x y (lex_before (v ++ l) (w ++ m)) h

module _ (n : ℕ) (l : 0 < n) (p q : HeldPlace) (c : length p.low.coordinates ≡ 4) (d : length q.low.coordinates ≡ 4) where
  abbrev x : ℤ
  x = get_or p.low.coordinates 0 0ℤ

  abbrev y : ℤ
  y = get_or q.low.coordinates 0 0ℤ

  x_is : get_or (take n p.low.coordinates) 0 0ℤ ≡ x
  x_is = get_or-take n p.low.coordinates 0 0ℤ l

  y_is : get_or (take n q.low.coordinates) 0 0ℤ ≡ y
  y_is = get_or-take n q.low.coordinates 0 0ℤ l

  -- they are compared as their bits
  pub first_decides : SFits w64 x → SFits w64 y → ¬ (of_z w64 x ≡ of_z w64 y) → lt_z (back x) (back y) ≡ facet_before (facet_as n p) (facet_as n q)
  unfolding facet_before facet_key facet_as vertex_as masks_as
  first_decides f g h =
      ap₂ lt_z (to_z-of_z w64 x f ∙ sym x_is) (to_z-of_z w64 y g ∙ sym y_is)
      ∙ first_before (take n p.low.coordinates) (take n q.low.coordinates) (map pos (take (n - 1) p.masks)) (map pos (take (n - 1) q.masks))
      (omega (arith, length-take n p.low.coordinates)) (omega (arith, length-take n q.low.coordinates))
      (λ e. h (ap (of_z w64) (sym x_is ∙ e ∙ y_is)))
