-- What the tests `absent`, `distinct`, `under` and `is_order` say, and how a cons, a last element and an exchange of neighbours change them.
-- They are equations between tests where they can be, so that each serves both ways.
use Prim.Native.Nat.{ℕ, suc, zero, ◌<◌}
use mathlib.Core.Path.{◌≡◌, refl, sym, ap, ◌∙◌}
use mathlib.Core.Bool.{Bool, true, false, not, ◌&&◌}
use mathlib.Core.List.{List, [], ◌∷◌, ◌++◌}
use native.Mathlib.Numerals.{add-one}
use lib.ListN.{length, length-append}
use lib.Dec.{eqb, ltb}
use borrow.Author.Tests.{eqb-true, eqb-false, eq-eqb, ne_eqb, ltb-true, not-true}
use Rattle.exact.proofs.AndTests.{and_left, and_right}
use Rattle.curves.specs.Grid.{absent, distinct, under, is_order, exchange}

-- ---- the parts of an order
pub order_length : (n : ℕ) (o : List ℕ) → is_order n o ≡ true → length o ≡ n
unfolding is_order
order_length n o e = eqb-true (length o) n (and_left (eqb (length o) n) (under n o && distinct o) e)

pub order_under : (n : ℕ) (o : List ℕ) → is_order n o ≡ true → under n o ≡ true
unfolding is_order
order_under n o e = and_left (under n o) (distinct o) (and_right (eqb (length o) n) (under n o && distinct o) e)

pub order_distinct : (n : ℕ) (o : List ℕ) → is_order n o ≡ true → distinct o ≡ true
unfolding is_order
order_distinct n o e = and_right (under n o) (distinct o) (and_right (eqb (length o) n) (under n o && distinct o) e)

pub under_head : (n a : ℕ) (o : List ℕ) → under n (a ∷ o) ≡ true → a < n
unfolding under
under_head n a o u = ltb-true a n (and_left (ltb a n) (under n o) u)

pub under_tail : (n a : ℕ) (o : List ℕ) → under n (a ∷ o) ≡ true → under n o ≡ true
unfolding under
under_tail n a o u = and_right (ltb a n) (under n o) u

pub distinct_head : (a : ℕ) (o : List ℕ) → distinct (a ∷ o) ≡ true → absent a o ≡ true
unfolding distinct
distinct_head a o e = and_left (absent a o) (distinct o) e

pub distinct_tail : (a : ℕ) (o : List ℕ) → distinct (a ∷ o) ≡ true → distinct o ≡ true
unfolding distinct
distinct_tail a o e = and_right (absent a o) (distinct o) e

pub absent_head : (a b : ℕ) (o : List ℕ) → absent a (b ∷ o) ≡ true → a ≡ b → ⊥
unfolding absent
absent_head a b o e = eqb-false a b (not-true (eqb a b) (and_left (not (eqb a b)) (absent a o) e))

pub absent_tail : (a b : ℕ) (o : List ℕ) → absent a (b ∷ o) ≡ true → absent a o ≡ true
unfolding absent
absent_tail a b o e = and_right (not (eqb a b)) (absent a o) e

-- ---- an element that goes from the front to the end
eqb_comm : (a b : ℕ) → eqb a b ≡ eqb b a
eqb_comm a b = go (eqb b a) refl
  where
    go : (t : Bool) → eqb b a ≡ t → eqb a b ≡ t
    go true e = eq-eqb a b (sym (eqb-true b a e))
    go false e = ne_eqb a b (λ q. eqb-false b a e (sym q))

and_swap : (a b c : Bool) → a && (b && c) ≡ b && (a && c)
and_swap true b c = refl
and_swap false true c = refl
and_swap false false c = refl

and_middle : (a b c d : Bool) → (a && b) && (c && d) ≡ (a && c) && (b && d)
and_middle true b c d = and_swap b c d
and_middle false b c d = refl

pub absent_snoc : (b a : ℕ) (o : List ℕ) → absent b (o ++ (a ∷ [])) ≡ absent b (a ∷ o)
unfolding absent
absent_snoc b a [] = refl
absent_snoc b a (x ∷ o) = ap (λ t. not (eqb b x) && t) (absent_snoc b a o) ∙ and_swap (not (eqb b x)) (not (eqb b a)) (absent b o)

pub under_snoc : (n a : ℕ) (o : List ℕ) → under n (o ++ (a ∷ [])) ≡ under n (a ∷ o)
unfolding under
under_snoc n a [] = refl
under_snoc n a (x ∷ o) = ap (λ t. ltb x n && t) (under_snoc n a o) ∙ and_swap (ltb x n) (ltb a n) (under n o)

pub distinct_snoc : (a : ℕ) (o : List ℕ) → distinct (o ++ (a ∷ [])) ≡ distinct (a ∷ o)
unfolding absent distinct
distinct_snoc a [] = refl
distinct_snoc a (x ∷ o) =
    rw (absent_snoc x a o, distinct_snoc a o, eqb_comm x a) (and_middle (not (eqb a x)) (absent x o) (absent a o) (distinct o))

pub length_snoc : (a : ℕ) (o : List ℕ) → length (o ++ (a ∷ [])) ≡ length (a ∷ o)
length_snoc a o = length-append o (a ∷ []) ∙ add-one (length o)

pub order_snoc : (n a : ℕ) (o : List ℕ) → is_order n (o ++ (a ∷ [])) ≡ is_order n (a ∷ o)
unfolding is_order
order_snoc n a o = rw (length_snoc, under_snoc, distinct_snoc)

-- ---- neighbours that change places
pub length_exchange : (i : ℕ) (o : List ℕ) → length (exchange i o) ≡ length o
unfolding exchange
length_exchange i [] = refl
length_exchange zero (a ∷ []) = refl
length_exchange zero (a ∷ b ∷ o) = refl
length_exchange (suc i) (a ∷ o) = ap suc (length_exchange i o)

pub absent_exchange : (x i : ℕ) (o : List ℕ) → absent x (exchange i o) ≡ absent x o
unfolding exchange absent
absent_exchange x i [] = refl
absent_exchange x zero (a ∷ []) = refl
absent_exchange x zero (a ∷ b ∷ o) = and_swap (not (eqb x b)) (not (eqb x a)) (absent x o)
absent_exchange x (suc i) (a ∷ o) = ap (λ t. not (eqb x a) && t) (absent_exchange x i o)

pub under_exchange : (n i : ℕ) (o : List ℕ) → under n (exchange i o) ≡ under n o
unfolding exchange under
under_exchange n i [] = refl
under_exchange n zero (a ∷ []) = refl
under_exchange n zero (a ∷ b ∷ o) = and_swap (ltb b n) (ltb a n) (under n o)
under_exchange n (suc i) (a ∷ o) = ap (λ t. ltb a n && t) (under_exchange n i o)

pub distinct_exchange : (i : ℕ) (o : List ℕ) → distinct (exchange i o) ≡ distinct o
unfolding exchange distinct absent
distinct_exchange i [] = refl
distinct_exchange zero (a ∷ []) = refl
distinct_exchange zero (a ∷ b ∷ o) = rw (eqb_comm b a) (and_middle (not (eqb a b)) (absent b o) (absent a o) (distinct o))
distinct_exchange (suc i) (a ∷ o) = rw (absent_exchange a i o, distinct_exchange i o)

pub order_exchange : (n i : ℕ) (o : List ℕ) → is_order n (exchange i o) ≡ is_order n o
unfolding is_order
order_exchange n i o = rw (length_exchange, under_exchange, distinct_exchange)
