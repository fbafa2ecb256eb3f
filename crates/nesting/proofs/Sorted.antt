-- Lists in another order, and in order of rank: each list can be put in order of rank, and where only those of lower rank are inside another that
-- order stands.
use mathlib.Core.Path.{◌≡◌, refl, sym, subst}
use mathlib.Core.Bool.{Bool, true, false}
use mathlib.Core.Logic.{◌⊎◌, inl, inr, ⊎_elim}
use mathlib.Core.List.Memᴰ
use mathlib.Core.List.{List, [], ◌∷◌}
use lib.IntN.{ℤ}
use lib.Signed.{le_z, ◌≤ℤ◌, ◌<ℤ◌, clash_ℤ}
use Rattle.curves.specs.Curve.{◌∈◌}
use Rattle.seamlist.proofs.FacetOrder.{less_le, not_le_less}
use Rattle.nesting.specs.Standing.{stands, standing}
use Rattle.nesting.specs.Loops as Loops
use Rattle.nesting.specs.Loops.{PutIn, Reordered, Apart}
use Rattle.nesting.specs.Loops.PutIn.{here, later}
use Rattle.nesting.specs.Loops.Reordered.{put}
use Rattle.nesting.specs.Loops.Apart.{none, more}
use Rattle.curves.proofs.Finite.{test_le}
use Rattle.nesting.proofs.WholeOrder.{le_trans}
use Rattle.nesting.proofs.Standing.{NotInside, apart_stands}

-- ---- members

module _ {A : Type 0} where
  -- what was put in is a member, and so are the others, and no more
  pub put_member : {x : A} {l m : List A} → PutIn x l m → (y : A) → y ∈ m → (y ≡ x) ⊎ (y ∈ l)
  put_member here y i = Memᴰ.cases_cons i
  put_member (later p) y i =
      ⊎_elim
      (λ e. inr (Memᴰ.head e))
      (λ j. ⊎_elim (λ e. inl e) (λ k. inr (Memᴰ.tail k)) (put_member p y j))
      (Memᴰ.cases_cons i)

  -- in another order there are the same members
  pub reordered_member : {l m : List A} → Reordered l m → (y : A) → y ∈ m → y ∈ l
  reordered_member Loops.Reordered.none y i = i
  reordered_member (put r p) y i =
      ⊎_elim (λ e. Memᴰ.head e) (λ j. Memᴰ.tail (reordered_member r y j)) (put_member p y i)

  -- ---- apart

  -- what follows from it for members
  pub apart_map : {D E : A → A → Type 0} {l : List A} → ((x y : A) → x ∈ l → y ∈ l → D x y → E x y) → Apart D l → Apart E l
  apart_map h none = none
  apart_map h (more {x = x} {l = l} d a) =
      more {x = x} {l = l} (λ y i. h x y (Memᴰ.head refl) (Memᴰ.tail i) (d y i))
      (apart_map (λ x y i j. h x y (Memᴰ.tail i) (Memᴰ.tail j)) a)

  -- what is apart from all of a list may be put in anywhere, where the relation is symmetric
  put_apart : {D : A → A → Type 0} {x : A} {l m : List A} → ((x y : A) → D x y → D y x) → ((y : A) → y ∈ l → D x y)
      → Apart D l → PutIn x l m → Apart D m
  put_apart back h a here = more h a
  put_apart {D = D} {x = x} back h (more {x = z} {l = l} d a) (later {m = m} p) =
      more {x = z} {l = m}
      (λ y i. ⊎_elim (λ e. subst (D z) (sym e) (back x z (h z (Memᴰ.head refl)))) (d y) (put_member p y i))
      (put_apart back (λ y i. h y (Memᴰ.tail i)) a p)

  -- a symmetric relation is kept in another order
  pub reordered_apart : {D : A → A → Type 0} {l m : List A} → ((x y : A) → D x y → D y x) → Apart D l → Reordered l m → Apart D m
  reordered_apart back none Loops.Reordered.none = none
  reordered_apart back (more d a) (put r p) = put_apart back (λ y i. d y (reordered_member r y i)) (reordered_apart back a r) p

-- ---- in order of rank

module _ {A : Type 0} (rank : A → ℤ) where
  -- the rank of the second is not under that of the first
  abbrev pub NotLess : A → A → Type 0
  NotLess x y = rank x ≤ℤ rank y

  -- an element put into a list that does not fall, so that it does not
  put_ranked : (x : A) (l : List A) → Apart NotLess l → (m : List A) × PutIn x l m × Apart NotLess m
  put_ranked x [] a = (x ∷ [], here, more (λ y i. absurd (Memᴰ.not-nil i)) none)
  put_ranked x (z ∷ l) (more d a) = go (le_z (rank x) (rank z)) refl (put_ranked x l a)
    where
      go : (b : Bool) → le_z (rank x) (rank z) ≡ b → (m : List A) × PutIn x l m × Apart NotLess m
          → (m : List A) × PutIn x (z ∷ l) m × Apart NotLess m
      go true e w =
          let low : rank x ≤ℤ rank z = test_le (rank x) (rank z) e in (
            x ∷ z ∷ l,
            here,
            more {x = x} {l = z ∷ l}
                (λ y i.
                ⊎_elim (λ q. subst (λ c. rank x ≤ℤ rank c) (sym q) low) (λ j. le_trans (rank x) (rank z) (rank y) low (d y j))
                (Memᴰ.cases_cons i))
                (more {x = z} {l = l} d a),
          )
      go false e w =
          let low : rank z ≤ℤ rank x = test_le (rank z) (rank x) (less_le (rank z) (rank x) (not_le_less (rank z) (rank x) e)) in (
            z ∷ w.0,
            later w.1,
            more {x = z} {l = w.0}
                (λ y i. ⊎_elim (λ q. subst (λ c. rank z ≤ℤ rank c) (sym q) low) (d y) (put_member w.1 y i))
                w.2,
          )

  -- each list can be put in an order in which the ranks do not fall
  pub some_order : (l : List A) → (m : List A) × Reordered l m × Apart NotLess m
  some_order [] = ([], Loops.Reordered.none, none)
  some_order (x ∷ l) =
      let w = some_order l in
      let u = put_ranked x w.0 w.2 in
      (u.0, put w.1 u.1, u.2)

  -- and such an order stands, where one is inside another only if its rank is lower
  pub rising_stands : (inner : A → A → Bool) (l : List A) → ((q p : A) → q ∈ l → p ∈ l → inner p q ≡ true → rank p <ℤ rank q)
      → Apart NotLess l → standing inner l ≡ stands
  rising_stands inner l ranked a = apart_stands inner l (apart_map outside a)
    where
      outside : (q p : A) → q ∈ l → p ∈ l → rank q ≤ℤ rank p → NotInside inner q p
      outside q p i j low = go (inner p q) refl
        where
          go : (b : Bool) → inner p q ≡ b → inner p q ≡ false
          go false e = e
          go true e = clash_ℤ (ranked q p i j e) low
